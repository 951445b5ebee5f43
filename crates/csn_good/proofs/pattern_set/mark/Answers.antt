use Rattle.std.proofs.Common.{◌≡◌, set, true, subst, arith}
use Rattle.std.specs.Prelude.{◌⊎◌, ◌↔◌, Contains}
use Rattle.csn_good.specs.Numbers.{marked}
use Rattle.csn_good.proofs.Numbered.{mark_set}
use Rattle.csn_good.proofs.pattern_set.mark.Goals as goal

pub returns-clause-ok : goal.returns-clause-ok
returns-clause-ok c = λ n.
    let new = c.grow.new.marks.items in
    let room = c.in_ok-grow.ensures.room in
    subst (λ l. Contains (marked 0 (set new c.args.number true)) n ↔ (Contains l n ⊎ (n ≡ c.args.number)))
    c.in_ok-grow.ensures.same (mark_set new c.args.number n (omega (arith, room)))
