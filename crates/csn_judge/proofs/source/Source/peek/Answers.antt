use Rattle.std.proofs.Common.{take, ap, ◌∙◌, arith}
use Rattle.csn_bits.specs.Numbers.{number_of}
use Rattle.csn_bits.proofs.NumberFacts.{masked_small}
use Rattle.csn_judge.specs.Coming.{Coming}
use Rattle.csn_judge.proofs.Numbers.{peeked, peeked_bits}
use Rattle.csn_judge.proofs.SourceFacts.{known}
use Rattle.csn_judge.proofs.source.Source.peek.Goals as goal

pub returns-clause-value : goal.returns-clause-value
returns-clause-value c =
    let k = known _ _ c.self.invariant c.self.view_is in
    peeked c.self.inside.held.count c.self.inside.held.number c.args.count _ (omega (arith, c.requires.held, k.held)) (omega (arith, c.requires.few))
    ∙ ap (λ (s : Coming). number_of (take c.args.count s.bits)) c.self.view_is

pub returns-clause-small : goal.returns-clause-small
returns-clause-small c = masked_small _ c.args.count (omega (arith, c.requires.few))

pub returns-clause-written : goal.returns-clause-written
returns-clause-written c =
    let k = known _ _ c.self.invariant c.self.view_is in
    peeked_bits c.self.inside.held.count c.self.inside.held.number c.args.count _ (omega (arith, c.requires.held, k.held)) (omega (arith, c.requires.few))
    ∙ ap (λ (s : Coming). take c.args.count s.bits) c.self.view_is
