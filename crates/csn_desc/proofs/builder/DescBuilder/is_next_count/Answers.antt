-- A count on a field: the part sees it.
use Rattle.std.proofs.Common.{rules, ◌≡◌, ℕ, zero, suc, ◌≤◌, ◌↔◌, true, List, [], ◌∷◌, refl, sym, ◌∙◌, ap, subst, arith, Contains, IsTrue, IsSomeAnd}
use Rattle.csn_desc.specs.declared.node.Node.{Node}
use Rattle.csn_desc.specs.declared.node.Count.{Count}
use Rattle.csn_desc.specs.declared.node.Count.TheVariants.{Counted}
use Rattle.csn_desc.specs.Formed.{value_width}
use Rattle.csn_desc.specs.Building.{BuilderV, is_shown}
use Rattle.csn_desc.specs.Heads.{IsNextCount}
use Rattle.csn_desc.proofs.builder.DescBuilder.is_next_count.Goals as goal

only_one : (x field : ℕ) → Contains (x ∷ []) field → x ≡ field
only_one x field (zero, within, is) = is
only_one x field (suc k, within, is) = absurd (omega (arith, within))

abbrev IsNarrow : List Node → ℕ → Type 0
IsNarrow nodes field = IsSomeAnd (value_width nodes field) (λ width. (1 ≤ width) × (width ≤ 16))

next_count : (b : BuilderV) (m field c : ℕ) → 1 ≤ m → c ≤ 65535 → is_shown b.nodes b.around field ≡ true
    → IsNarrow b.nodes field → IsNextCount b (Counted m field c)
next_count b m field c some few shown narrow =
    record {
      seen = field ∷ [];
      shown = λ other inside. sym (ap (λ k. is_shown b.nodes b.around k) (only_one field other inside)) ∙ shown;
      well_formed = (some, few, (0, omega arith, refl), narrow);
    }

narrow_of : (b : BuilderV) (m field c : ℕ) → IsNextCount b (Counted m field c) → IsNarrow b.nodes field
narrow_of b m field c h = h.well_formed.3

pub returns-else-not-shows : goal.returns-else-not-shows
returns-else-not-shows c =
    let b = c.args.self.now in
    let field = c.in-Counted.field in
    let shown : is_shown b.nodes b.around field ≡ true = sym c.shows.ensures ∙ c.if-not-shows.false in
    let nodes : c.deref.result.now ≡ b.nodes = c.deref.ensures.value ∙ ap (λ v. v.nodes) c.self.view_is in
    let N : List Node → Type 0 = λ l. IsTrue c.is_narrow.result ↔ IsNarrow l field in
    let narrow = subst N nodes c.is_narrow.ensures in
    let P : Count → Type 0 = λ count. IsTrue c.is_narrow.result ↔ IsNextCount b count in
    let some : 1 ≤ c.in-Counted.m = search rules in
    let few : c.in-Counted.c ≤ 65535 = search rules in
    subst P (sym c.in-Counted.is)
    (λ yes. next_count b c.in-Counted.m field c.in-Counted.c some few shown (narrow.0 yes), λ h. narrow.1 (narrow_of b c.in-Counted.m field c.in-Counted.c h))
