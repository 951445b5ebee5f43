use Rattle.std.proofs.Common.{sym, subst, arith}
use Rattle.std.proofs.lemmas.List.{take_all}
use Rattle.csn_bits.specs.Numbers.{low_bits}
use Rattle.csn_judge.specs.Told.{BitsTold}
use Rattle.csn_judge.proofs.Numbers.{next_bit}
use Rattle.csn_bits.proofs.NumberFacts.{length-low_bits}
use Rattle.csn_judge.proofs.ToldFacts.{bits_told-push}
use Rattle.csn_judge.proofs.track.Track.bits.Goals as goal

pub loop-at-preserved : goal.loop-at-preserved
loop-at-preserved g c =
    subst (λ l. BitsTold g.Self.Track.takes c.args.node.now l c.args.self.now c.step.new.self)
    (sym (next_bit c.loop-at.at c.args.count c.args.number (omega (arith, c.loop-at-test.true))))
    (bits_told-push g.Self.Track.takes c.args.node.now _ _ c.args.self.now _ c.step.new.self c.loop-at.invariant c.step.ensures)

pub returns : goal.returns
returns g c =
    let long = length-low_bits c.args.count c.args.number in
    subst (λ l. BitsTold g.Self.Track.takes c.args.node.now l c.args.self.now c.loop-at.self)
    (take_all c.loop-at.at (low_bits c.args.count c.args.number) (omega (arith, long, c.loop-at-test.false)))
    c.loop-at.invariant
