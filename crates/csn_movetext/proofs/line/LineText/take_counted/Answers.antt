use Rattle.std.proofs.Common.{ℕ, ◌+◌, ◌-◌, ◌*◌, ◌≤◌, List, ◌++◌, length, take, drop, subst, arith, ◌∙◌}
use Rattle.std.proofs.lemmas.List.{take_all}
use Rattle.csn_desc.specs.Nodes.{DescV}
use Rattle.csn_movetext.specs.Lines.{LineV, ReadsLine, credit}
use Rattle.csn_movetext.proofs.LineFacts.{part_taken, part_within, more_taken}
use Rattle.csn_movetext.proofs.StepFacts.{steps_more}
use Rattle.csn_movetext.proofs.line.LineText.take_counted.Goals as goal

pub loop-at-preserved : goal.loop-at-preserved
loop-at-preserved g c =
    let bytes : List ℕ = c.args.bytes.now in
    let at : ℕ = c.loop-at.at in
    let size : ℕ = c.min-until.result - at in
    let count : ℕ = c.take_some-at.result in
    let part : List ℕ = take count (take size (drop at bytes)) in
    let new : LineV = c.take_some-at.new.self in
    record {
      within = part_within bytes at size count c.loop-at.invariant.within c.take_some-at.ensures.within;
      reads = λ line reads.
          subst (λ l. ReadsLine new l) (more_taken line bytes part at count (part_taken bytes at size count c.take_some-at.ensures.within))
          (c.take_some-at.ensures.reads (line ++ take at bytes) (c.loop-at.invariant.reads line reads));
      seen = omega (arith, c.take_some-at.ensures.seen, c.loop-at.invariant.seen);
      form = c.take_some-at.ensures.form ∙ c.loop-at.invariant.form;
      desc = c.take_some-at.ensures.desc ∙ c.loop-at.invariant.desc;
      steps =
          steps_more _ _ _ _ at count c.loop-at.invariant.steps
          (subst (λ (d : DescV). c.take_some-at.new.steps + credit new ≤ c.loop-at.steps + credit c.loop-at.self + 8 * length d.nodes * (8 * count))
          c.loop-at.invariant.desc c.take_some-at.ensures.steps);
    }

pub returns-clause-reads : goal.returns-clause-reads
returns-clause-reads g c = λ line reads.
    subst (λ l. ReadsLine c.loop-at.self (line ++ l)) (take_all c.loop-at.at c.args.bytes.now c.loop-at-test.false) (c.loop-at.invariant.reads line reads)

pub returns-clause-steps : goal.returns-clause-steps
returns-clause-steps g c =
    subst (λ (n : ℕ). c.loop-at.steps + credit c.loop-at.self
    ≤ c.args.steps.now + credit c.args.self.now + 8 * length c.args.self.now.desc.nodes * (8 * n))
    (omega (arith, c.loop-at.invariant.within, c.loop-at-test.false)) c.loop-at.invariant.steps
