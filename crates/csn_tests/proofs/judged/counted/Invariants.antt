use Rattle.std.proofs.Common.{◌≡◌, ◌≤◌, ◌+◌, ◌*◌, None}
use Rattle.csn_judge.specs.Judging.{credit}
use Rattle.csn_tests.proofs.judged.counted.Given as goal

abbrev pub invariant-loop-octet : goal.invariant-loop-octet
invariant-loop-octet g l = record {
  going : l.judge.refused ≡ None;
  seen : l.judge.seen ≡ l.octet-index;
  desc : l.judge.desc ≡ l.plan;
  paid : l.steps + credit l.judge ≤ l.fn.steps + 48 + 48 * l.octet-index;
}
