use Rattle.std.proofs.Common.{◌≡◌, ℕ, List, false, length, sym, ap, ◌∙◌, subst}
use Rattle.std.proofs.Math.ListN.{replicate}
use Rattle.csn_look.specs.KeyMarks.{is_marked, key_mark, place_of}
use Rattle.csn_look.specs.KeyTables.{IsKeyTable}
use Rattle.csn_look.proofs.Tables.MarkFacts.{unmarked}
use Rattle.csn_look.proofs.Tables.BlockFacts.{no_index, none_within}
use Rattle.csn_look.proofs.Tables.KeyMarkFacts.{no_keys}
use Rattle.csn_look.proofs.key_table.KeyTable.new.Goals as goal

none : (marks : List ℕ) → marks ≡ replicate {A = ℕ} 384 0 → (at : ℕ) → is_marked marks at ≡ false
none marks e at = ap (λ m. is_marked m at) e ∙ unmarked 384 at

pub invariant_of-result : goal.invariant_of-result
invariant_of-result c =
    let are = c.in_ok-vec.ensures.items_if_clones_equal (λ y e. e) in
    let marks = c.in_ok-vec.field-0.items in
    let empty = c.new.ensures.items in
    let P : List ℕ → Type 0 = IsKeyTable in (
      subst P (sym (no_index c.new.result.items marks empty)) (no_keys marks (none marks are) (ap length are)),
      none_within c.new.result.items marks empty,
    )

pub returns : goal.returns
returns c = λ word whole is.
    let are = c.in_ok-vec.ensures.items_if_clones_equal (λ y e. e) in
    let marks = c.in_ok-vec.field-0.items in
    let e = ap (λ m. is_marked m (key_mark (place_of word) whole))
    (no_index c.new.result.items marks c.new.ensures.items) ∙ none marks are (key_mark (place_of word) whole) in
    (λ key. absurd (let f = sym e ∙ key in cc), λ no. absurd no)
