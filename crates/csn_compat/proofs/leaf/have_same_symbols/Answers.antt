use Rattle.std.proofs.Common.{◌≡◌, ℕ, Bool, true, false, not, ◌∙◌, ap, refl, sym, subst, take, Some, add-one, rules}
use Rattle.std.specs.Prelude.{slice_get}
use Rattle.csn_desc.specs.contracts.symbol.Symbol.{the_type}
use denote.Enum.Bare.{sameb, same_true}
use Rattle.csn_compat.proofs.Lists.{first_equal}
use Rattle.csn_compat.proofs.leaf.have_same_symbols.Goals as goal

unlike : {r : Bool} (b : Bool) → r ≡ not b → r ≡ false → b ≡ true
unlike true is none = refl
unlike false is none = absurd (cc)

pub loop-at-preserved : goal.loop-at-preserved
loop-at-preserved c =
    let equal : c.get.result.now ≡ c.get-in-loop-at.result.now = same_true the_type (search rules)
    c.get.result.now c.get-in-loop-at.result.now
    (unlike (sameb the_type c.get.result.now c.get-in-loop-at.result.now) c.ne.ensures c.if-ne.false) in
    let across : slice_get c.args.other.now c.loop-at.at ≡ Some c.get.result.now = c.get-in-loop-at.ensures ∙ ap (λ x. Some x) (sym equal) in
    let P : ℕ → Type 0 = λ k. take k c.args.run.now ≡ take k c.args.other.now in
    subst P (sym (add-one c.loop-at.at)) (first_equal c.args.run.now c.args.other.now c.loop-at.at c.get.result.now c.get.ensures across c.loop-at.invariant)
