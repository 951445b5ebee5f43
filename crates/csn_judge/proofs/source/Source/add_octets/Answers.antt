use Rattle.std.proofs.Common.{ℕ, ◌≡◌, ◌<◌, ◌+◌, ◌-◌, ◌*◌, ◌/◌, ◌^◌, ap, ◌∙◌, arith}
use Rattle.std.proofs.lemmas.Nat.{shr_below}
use Rattle.csn_judge.specs.Coming.{Coming}
use Rattle.csn_judge.proofs.Numbers.{from_eight, moved}
use Rattle.csn_judge.proofs.SourceFacts.{known}
use Rattle.csn_judge.proofs.source.Source.add_octets.Goals as goal

pub eight_octets-all-requires : goal.eight_octets-all-requires
eight_octets-all-requires c =
    let k = known _ _ c.self.invariant c.self.view_is in
    omega (arith, k.all, k.held, c.requires.many, c.self.invariant.within)

pub overflow_sub-self-2 : goal.overflow_sub-self-2
overflow_sub-self-2 c =
    let k = known _ _ c.self.invariant c.self.view_is in
    omega (arith, k.all, k.held, c.requires.many)

pub invariant_of-self : goal.invariant_of-self
invariant_of-self c =
    let k = known _ _ c.self.invariant c.self.view_is in
    record {
      octets = c.self.invariant.octets;
      few = omega (arith, k.held, c.requires.short);
      within = omega (arith, c.self.invariant.within, k.all, k.held, c.requires.many);
      fits = omega (arith, c.self.invariant.fits, k.all, k.held, c.requires.many);
      inside = c.self.invariant.inside;
      nothing = λ ended. absurd (omega (arith, c.self.invariant.nothing ended, k.all, k.held, c.requires.many));
    }

pub returns-clause-bits : goal.returns-clause-bits
returns-clause-bits c =
    let k = known _ _ c.self.invariant c.self.view_is in
    let octets : ℕ = (63 - c.self.inside.held.count) / 8 in
    let n : ℕ = 8 * octets in
    let all : ℕ = c.eight_octets-all.result in
    let small : all / 2 ^ (64 - n) < 2 ^ n =
    shr_below all n (64 - n) (let e : n + (64 - n) ≡ 64 = omega arith in rw e c.eight_octets-all.type_inv) in
    let taken = from_eight c.self.inside.piece.now c.self.inside.at c.self.inside.left octets all
    c.self.invariant.within (omega (arith, k.all, k.held, c.requires.many)) (omega arith) c.eight_octets-all.ensures in
    moved c.self.inside.held.count n c.self.inside.held.number (all / 2 ^ (64 - n)) _ _
    (omega (arith, k.held, c.requires.short)) small taken
    ∙ ap (λ (s : Coming). s.bits) c.self.view_is
