use Rattle.std.proofs.Common.{ℕ, List, ◌≡◌, ◌+◌, ◌-◌, ◌≤◌, take, sym, ap, ◌∙◌, arith}
use Rattle.std.proofs.lemmas.List.{take-take}
use Rattle.csn_bits.specs.Numbers.{low_bits}
use Rattle.csn_judge.proofs.Numbers.{first_bits-same, first_bits-number}
use Rattle.csn_judge.proofs.source.Source.alike.Goals as goal

pub returns-then-given-behind-clause-same : goal.returns-then-given-behind-clause-same
returns-then-given-behind-clause-same c =
    let at : ℕ = c.loop-at.at in
    let few : at ≤ c.args.count = omega (arith, c.loop-at-test.true) in
    sym (take-take at c.args.count c.args.self.now.bits few)
    ∙ ap (λ (l : List ℕ). take at l) (sym c.peek-given.ensures.written)
    ∙ first_bits-same at c.args.count c.peek-given.result c.args.number few c.loop-at.invariant

pub returns-then-given-behind-clause-differs : goal.returns-then-given-behind-clause-differs
returns-then-given-behind-clause-differs c =
    let next : ℕ = c.loop-at.at + 1 in
    λ less same.
    let given : take next (low_bits c.args.count c.peek-given.result) ≡ take next (low_bits c.args.count c.args.number) =
    sym (sym (take-take next c.args.count c.args.self.now.bits (omega (arith, less)))
    ∙ ap (λ (l : List ℕ). take next l) (sym c.peek-given.ensures.written)) ∙ same in
    let equal = first_bits-number next c.args.count c.peek-given.result c.args.number (omega (arith, less))
    c.peek-given.ensures.small c.requires.small given in
    let e : c.args.count - next ≡ c.args.count - 1 - c.loop-at.at = omega arith in
    c.if-given-behind.true (rw e at equal)
