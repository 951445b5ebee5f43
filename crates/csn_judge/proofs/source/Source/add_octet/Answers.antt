use Rattle.std.proofs.Common.{ℕ, ◌≡◌, ◌<◌, ◌+◌, ◌-◌, ◌/◌, ◌^◌, get_or, refl, ap, ◌∙◌, arith}
use Rattle.std.proofs.lemmas.Nat.{shr_below}
use Rattle.csn_judge.specs.Coming.{Coming}
use Rattle.csn_judge.proofs.Numbers.{from_octet, moved}
use Rattle.csn_judge.proofs.SourceFacts.{known}
use Rattle.csn_judge.proofs.source.Source.add_octet.Goals as goal

pub bounds-self-inside-self-inside : goal.bounds-self-inside-self-inside
bounds-self-inside-self-inside c =
    let k = known _ _ c.self.invariant c.self.view_is in
    omega (arith, k.all, k.held, c.requires.some, c.self.invariant.within)

pub overflow_shr-self : goal.overflow_shr-self
overflow_shr-self c =
    let k = known _ _ c.self.invariant c.self.view_is in
    omega (arith, k.all, k.held, c.requires.some, c.min-bits.ensures)

pub invariant_of-self : goal.invariant_of-self
invariant_of-self c =
    let k = known _ _ c.self.invariant c.self.view_is in
    record {
      octets = c.self.invariant.octets;
      few = omega (arith, k.held, c.requires.short, c.min-bits.ensures);
      within = omega (arith, c.self.invariant.within, c.min-bits.ensures, k.all, k.held, c.requires.some);
      fits = omega (arith, c.self.invariant.fits, c.min-bits.ensures);
      inside = c.self.invariant.inside;
      nothing = λ ended. absurd (omega (arith, c.self.invariant.nothing ended, k.all, k.held, c.requires.some));
    }

pub returns-clause-bits : goal.returns-clause-bits
returns-clause-bits c =
    let k = known _ _ c.self.invariant c.self.view_is in
    let n : ℕ = c.min-bits.result in
    let octet : ℕ = get_or c.self.inside.piece.now c.self.inside.at 0 in
    let octet_small : octet < 256 = c.self.invariant.octets c.self.inside.at in
    let small : octet / 2 ^ (8 - n) < 2 ^ n =
    shr_below octet n (8 - n) (let e : n + (8 - n) ≡ 8 = omega (arith, c.min-bits.ensures) in rw e octet_small) in
    let taken = from_octet c.self.inside.piece.now c.self.inside.at c.self.inside.left n octet
    c.self.invariant.within (omega (arith, k.all, k.held, c.requires.some)) c.min-bits.ensures refl octet_small in
    moved c.self.inside.held.count n c.self.inside.held.number (octet / 2 ^ (8 - n)) _ _
    (omega (arith, k.held, c.requires.short, c.min-bits.ensures)) small taken
    ∙ ap (λ (s : Coming). s.bits) c.self.view_is

pub returns-clause-held : goal.returns-clause-held
returns-clause-held c =
    let k = known _ _ c.self.invariant c.self.view_is in
    omega (arith, k.all, k.held, c.requires.some, c.min-bits.ensures)
