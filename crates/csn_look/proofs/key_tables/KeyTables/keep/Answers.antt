use Rattle.std.proofs.Common.{◌≡◌, ℕ, ◌<◌, Bool, List, [], ◌∷◌, ◌++◌, length, nat_eq, true, false, Some, refl, sym, ap, ◌∙◌, append-nil}
use Rattle.std.specs.Prelude.{slice_get, slice_index_or, if◌then◌else◌}
use Rattle.std.specs.List.{list_any}
use Rattle.std.specs.Cmp.Lexicographic.{pointwise}
use Rattle.std.proofs.lemmas.Bool.Decides.{Decides-eqb}
use Rattle.std.proofs.lemmas.Option.{slice_get_within, get_or_from_slice_get}
use Rattle.std.proofs.lemmas.Slice.Eq.{slice_eq-Decides}
use Rattle.std.proofs.lemmas.Map.Made.{AllPairs-from_IsDistinct}
use Rattle.csn_look.proofs.key_tables.KeyTables.keep.Goals as goal

-- what is stored at the place is the table
stored : (tables : List (List ℕ)) (at : ℕ) (table kept : List ℕ) → slice_get tables at ≡ Some kept
    → pointwise nat_eq table kept ≡ true → (at < length tables) × (slice_index_or tables at [] ≡ table)
stored tables at table kept there same = (
  slice_get_within tables at kept there,
  get_or_from_slice_get tables at kept [] there ∙ sym ((slice_eq-Decides Decides-eqb table kept (pointwise nat_eq table kept) refl).0 same),
)

-- where a table is added it stands behind the others
behind : (old new : List (List ℕ)) (table : List ℕ) (test : Bool) → new ≡ (if test then old else old ++ table ∷ [])
    → (more : List (List ℕ)) × (new ≡ old ++ more)
behind old new table true same = ([], same ∙ sym (append-nil old))
behind old new table false same = (table ∷ [], same)

pub returns-clause-more : goal.returns-clause-more
returns-clause-more c =
    behind c.args.self.now c.insert_full.new.self.keys c.args.table (list_any (λ t. pointwise nat_eq c.args.table t) c.args.self.now)
    (c.in_ok-at.ensures.keys ∙ ap (λ l. if list_any (λ t. pointwise nat_eq c.args.table t) l then l else l ++ c.args.table ∷ []) c.self.view_is)

pub returns-clause-kept : goal.returns-clause-kept
returns-clause-kept c =
    let s = c.in_ok-at.ensures.stored in
    stored c.insert_full.new.self.keys c.in_ok-at.at c.args.table s.0 s.1 s.2

pub returns-clause-once : goal.returns-clause-once
returns-clause-once c = AllPairs-from_IsDistinct (λ a b. slice_eq-Decides Decides-eqb a b (pointwise nat_eq a b) refl)
    c.insert_full.new.self.keys c.insert_full.ensures.unique

pub returns-in_err-at-clause-once : goal.returns-in_err-at-clause-once
returns-in_err-at-clause-once c =
    AllPairs-from_IsDistinct (λ a b. slice_eq-Decides Decides-eqb a b (pointwise nat_eq a b) refl)
    c.insert_full.new.self.keys c.insert_full.ensures.unique
