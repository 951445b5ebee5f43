use Rattle.std.proofs.Common.{arith, subst, sym, ◌∙◌}
use Rattle.csn_bits.specs.Octets.{IsBits}
use Rattle.csn_judge.specs.Coming.{Coming}
use Rattle.csn_judge.proofs.Numbers.{IsBits-coming}
use Rattle.csn_judge.proofs.SourceFacts.{known}
use Rattle.csn_judge.proofs.source.Source.place.Goals as goal
use Rattle.std.proofs.lemmas.List.{nil_from_length}

pub returns-clause-held : goal.returns-clause-held
returns-clause-held c = (let k = known _ _ c.self.invariant c.self.view_is in omega (arith, k.all, k.held))

pub returns-clause-few : goal.returns-clause-few
returns-clause-few c = (let k = known _ _ c.self.invariant c.self.view_is in omega (arith, k.held, c.self.invariant.few))

pub returns-clause-inside : goal.returns-clause-inside
returns-clause-inside c =
    let k = known _ _ c.self.invariant c.self.view_is in
    omega (arith, k.place, k.limit, c.self.invariant.inside)

pub returns-clause-fits : goal.returns-clause-fits
returns-clause-fits c =
    let k = known _ _ c.self.invariant c.self.view_is in
    omega (arith, k.all, k.place, c.self.invariant.fits)

pub returns-clause-nothing : goal.returns-clause-nothing
returns-clause-nothing c =
    let k = known _ _ c.self.invariant c.self.view_is in
    λ ended. nil_from_length _ (omega (arith, k.all, c.self.invariant.nothing (sym k.ended ∙ ended)))

pub returns-clause-bits : goal.returns-clause-bits
returns-clause-bits c =
    subst (λ (s : Coming). IsBits s.bits) c.self.view_is
    (IsBits-coming c.self.inside.held.count c.self.inside.held.number c.self.inside.piece.now c.self.inside.at c.self.inside.left c.self.invariant.octets)
