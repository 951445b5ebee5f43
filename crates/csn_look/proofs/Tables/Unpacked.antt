-- What a table is whose marks were laid out, and to which keys were added through a borrow of all of them.
use Rattle.std.proofs.Common.{take, drop, ◌≡◌, ℕ, Bool, List, [], ◌++◌, length, sym, ap, ◌∙◌, subst}
use Rattle.std.specs.Prelude.{IsTrue, ◌||◌}
use Rattle.csn_look.specs.KeyMarks.{IsWord, is_marked, has_key, Adds}
use Rattle.csn_look.specs.KeyTables.{IsKeyTable, AddsKey}
use Rattle.csn_look.specs.KeySteps.{Extends}
use Rattle.csn_look.specs.Blocks.{marks_of, AreWithin}
use Rattle.csn_look.proofs.Tables.BlockFacts.{no_index, none_within, unpacked}
use Rattle.csn_look.proofs.Tables.KeyMarkFacts.{key_added, tables_joined, adds_joined}
use Rattle.csn_look.proofs.Handing.ReachedParts.{written_back}

-- laying the marks out leaves a table
pub still_table : (index blocks own : List ℕ) → IsKeyTable own → marks_of index blocks ≡ own → AreWithin index blocks
    → IsKeyTable (marks_of index blocks) × AreWithin index blocks
still_table index blocks own table same within =
    let P : List ℕ → Type 0 = IsKeyTable in
    (subst P (sym same) table, within)

-- marks that extend those that were laid out, and are written back over them
module _ {P : List ℕ → Bool → Type 0} (index items seen own new : List ℕ) (n : ℕ) (none : index ≡ [])
    (same : marks_of index items ≡ own) (all : n ≡ length items) (is : seen ≡ items) (size : length new ≡ length seen)
    (more : Extends seen new P) where
  extended : Extends own new P
  extended = let Q : List ℕ → Type 0 = λ old. Extends old new P in subst Q (is ∙ unpacked index items own none same) more

  back : new ≡ marks_of index (take n (new ++ drop (length new) items))
  back = sym (no_index index (take n (new ++ drop (length new) items)) none ∙ written_back new items n (size ∙ ap length is) all)

  -- they are a table where they are marks of one
  pub table_written : IsKeyTable own → IsKeyTable (marks_of index (take n (new ++ drop (length new) items)))
      × AreWithin index (take n (new ++ drop (length new) items))
  table_written table =
      let Q : List ℕ → Type 0 = IsKeyTable in
      (subst Q back (extended.table table), none_within index (take n (new ++ drop (length new) items)) none)

  -- and the table has the further keys
  pub keys_written : Adds own (marks_of index (take n (new ++ drop (length new) items))) P
  keys_written = let Q : List ℕ → Type 0 = λ marks. Adds own marks P in subst Q back extended.keys

-- ---- what extends them

-- one key more
pub key_extends : (old new word : List ℕ) (whole : Bool) → IsWord word → length new ≡ length old
    → AddsKey old new word whole → Extends old new (λ key mark. (key ≡ word) × (mark ≡ whole))
key_extends old new word whole is size adds = record {
  keys = adds.keys;
  table = λ table. key_added old new word whole is size table adds;
}

-- the marks of another table
pub marks_extend : (old other new : List ℕ) → IsKeyTable other → length new ≡ length old
    → ((at : ℕ) → is_marked new at ≡ (is_marked old at || is_marked other at))
    → Extends old new (λ key mark. IsTrue (has_key other key mark))
marks_extend old other new more size marks = record {
  keys = adds_joined old other new marks;
  table = λ table. tables_joined old other new size table more marks;
}
