use Rattle.std.proofs.Common.{◌∙◌, List, ℕ, subst}
use Rattle.csn_replay.specs.Told.{Wrote}
use Rattle.csn_replay.proofs.Rounds.{wrote_none}
use Rattle.csn_replay.proofs.Puts.{kept_all, memory_is_no_fault, memory_is_not_ok}
use Rattle.csn_replay.proofs.telling.report.Goals as goal

pub returns-in-Ok : goal.returns-in-Ok
returns-in-Ok g c = record {
  wrote =
      subst (λ (text : List ℕ). Wrote c.put_all.result (g.K.Sink.taken c.args.out.now) (g.K.Sink.taken c.put_all.new.out) text)
      (c.deref.ensures.value ∙ c.in-Ok.ensures) c.put_all.ensures.wrote;
  write_fault = c.put_all.ensures.write_fault;
  outside = c.put_all.ensures.outside;
  steady_no_fault = c.put_all.ensures.steady_no_fault;
}

pub returns-in-Err : goal.returns-in-Err
returns-in-Err g c = record {
  wrote = wrote_none _ _ memory_is_not_ok;
  write_fault =
      λ is. absurd (memory_is_no_fault is);
  outside = kept_all _ _;
  steady_no_fault = λ was. memory_is_no_fault;
}
