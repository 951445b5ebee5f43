-- The tables of all choices, one after another.
use Rattle.std.proofs.Common.{◌≡◌, ℕ, ◌+◌, ◌*◌, ◌<◌, ◌≤◌, ◌⊎◌, inl, inr, Bool, List, ◌++◌, length, sym, ◌∙◌, ap}
use Rattle.std.proofs.Common.{subst, arith, length-set, length-append, get_or-set_other, Option, Some, slice_get}
use Rattle.std.specs.Prelude.{IsTrue, slice_set, slice_index}
use Rattle.std.proofs.lemmas.Bool.{cases_lt}
use Rattle.std.proofs.lemmas.Grind.{get_or-set_at}
use Rattle.std.proofs.lemmas.Option.{slice_get_within, slice_get-get_or, get_or_from_slice_get}
use Rattle.std.proofs.lemmas.List.{get_or_append_left}
use Rattle.csn_desc.specs.declared.node.Node.TheVariants.{Choice}
use Rattle.csn_desc.specs.Nodes.{DescV}
use Rattle.csn_look.specs.KeyMarks.{IsWord, has_key}
use Rattle.csn_look.specs.LookV.{LookV}
use Rattle.csn_look.specs.LookKeys.{table_at, IsKeysOf}
use Rattle.csn_look.specs.Reached.{Reached}
use Rattle.csn_look.proofs.Tables.KeyWords.{key_word}
use Rattle.csn_certify.specs.declared.pick_table.Entry.{Entry}
use Rattle.csn_certify.specs.declared.pick_table.Entry.TheVariants.{Refuse, Wait, Take}
use Rattle.csn_certify.specs.Picks.{AlternativeKey, BeginsWithKey, BeginsKey}
use Rattle.csn_certify.specs.Choosing.{AreWithoutKey}
use Rattle.csn_certify.specs.PickTables.{PickTableV, PickTablesV, entry_at, Tells, IsPickTable, table_of, HasNumber, HasTable, HaveTables, ArePickTables}
use Rattle.csn_certify.specs.Filling.{HaveSameTables}

-- ---- two octet positions at which the alternatives have the same keys

-- the first few alternatives have one table at both
abbrev pub FirstSame : LookV → List ℕ → ℕ → ℕ → ℕ → Type 0
FirstSame look parts octet other count =
    (j part : ℕ) → j < count → slice_get parts j ≡ Some part → table_at look part octet ≡ table_at look part other

pub first_same : (look : LookV) (parts : List ℕ) (octet other count part : ℕ) → slice_get parts count ≡ Some part
    → table_at look part octet ≡ table_at look part other → FirstSame look parts octet other count
    → FirstSame look parts octet other (count + 1)
first_same look parts octet other count part at here before j p less at_j = by_order (either j count less)
  where
    either : (m n : ℕ) → m < n + 1 → (m < n) ⊎ (m ≡ n)
    either m n le = grind arith

    by_order : (j < count) ⊎ (j ≡ count) → table_at look p octet ≡ table_at look p other
    by_order (inl low) = before j p low at_j
    by_order (inr same) =
        let moved : slice_get parts count ≡ Some p = ap (λ n. slice_get parts n) (sym same) ∙ at_j in
        let one : part ≡ p = cc in
        subst (λ (n : ℕ). table_at look n octet ≡ table_at look n other) one here

pub all_same : (look : LookV) (parts : List ℕ) (octet other count : ℕ)
    → length parts ≤ count → FirstSame look parts octet other count → HaveSameTables look parts octet other
all_same look parts octet other count all first j part at =
    let inside = slice_get_within parts j part at in first j part (omega arith) at

module _ (d : DescV) (look : LookV) (parts : List ℕ) (octet other : ℕ) (keys : IsKeysOf d look) (below : (j p : ℕ)
    → slice_get parts j ≡ Some p → p < length d.nodes) (small : octet ≤ 7) (other_small : other ≤ 7)
    (same : HaveSameTables look parts octet other) where
  -- a key at one is a key at the other
  abbrev key_there : {j : ℕ} → AlternativeKey d 12 parts octet j → AlternativeKey d 12 parts other j
  key_there {j} k =
      let word = key_word d k.key in
      let here = (keys.keys k.part octet (below j k.part k.is_part) small k.word k.mark word).1 k.key in
      record {
        part = k.part;
        word = k.word;
        mark = k.mark;
        is_part = k.is_part;
        key =
            (keys.keys k.part other (below j k.part k.is_part) other_small k.word k.mark word).0
            (subst (λ (l : List ℕ). IsTrue (has_key l k.word k.mark)) (same j k.part k.is_part) here);
      }

  abbrev key_here : {j : ℕ} → AlternativeKey d 12 parts other j → AlternativeKey d 12 parts octet j
  key_here {j} k =
      let word = key_word d k.key in
      let there = (keys.keys k.part other (below j k.part k.is_part) other_small k.word k.mark word).1 k.key in
      record {
        part = k.part;
        word = k.word;
        mark = k.mark;
        is_part = k.is_part;
        key =
            (keys.keys k.part octet (below j k.part k.is_part) small k.word k.mark word).0
            (subst (λ (l : List ℕ). IsTrue (has_key l k.word k.mark)) (sym (same j k.part k.is_part)) there);
      }

  begins_there : {held : List ℕ} {j : ℕ} → BeginsWithKey d 12 parts octet held j → BeginsWithKey d 12 parts other held j
  begins_there h =
      record { own = key_there h.own; takes_bits = h.takes_bits; begins = h.begins }

  begins_here : {held : List ℕ} {j : ℕ} → BeginsWithKey d 12 parts other held j → BeginsWithKey d 12 parts octet held j
  begins_here h =
      record { own = key_here h.own; takes_bits = h.takes_bits; begins = h.begins }

  starts_there : {held : List ℕ} → BeginsKey d 12 parts octet held → BeginsKey d 12 parts other held
  starts_there h =
      record { j = h.j; own = key_there h.own; begins = h.begins; not_all = h.not_all }

  starts_here : {held : List ℕ} → BeginsKey d 12 parts other held → BeginsKey d 12 parts octet held
  starts_here h =
      record { j = h.j; own = key_here h.own; begins = h.begins; not_all = h.not_all }

  without_here : {held : List ℕ} {none : Option ℕ} {begun : Bool} → AreWithoutKey d parts other held none begun → AreWithoutKey d parts octet held none begun
  without_here h =
      record {
        no_key = λ j key. h.no_key j (begins_there key);
        is_none = h.is_none;
        no_none = h.no_none;
        begins = ((λ is. starts_here (h.begins.0 is)), (λ start. h.begins.1 (starts_there start)));
      }

  -- so one table serves both
  pub table_shared : (t : PickTableV) → IsPickTable d parts other t → IsPickTable d parts octet t
  table_shared t is held word = by_entry (entry_at t held) (is held word)
    where
      by_entry : (e : Entry) → Tells d parts other held t.none e → Tells d parts octet held t.none e
      by_entry Refuse h = without_here h
      by_entry Wait h = without_here h
      by_entry (Take bits j) h = ((λ enough. begins_here (h.0 enough)), (λ few. without_here (h.1 few)))

-- ---- one table more

slice_get_more : {A : Type 0} (xs ys : List A) (n : ℕ) (x : A) → slice_get xs n ≡ Some x → slice_get (xs ++ ys) n ≡ Some x
slice_get_more xs ys n x at =
    let inside = slice_get_within xs n x at in
    let longer = length-append xs ys in
    slice_get-get_or (xs ++ ys) n x (omega (arith, inside, longer)) ∙ ap Some (get_or_append_left xs ys x n inside ∙ get_or_from_slice_get xs n x x at)

module _ (d : DescV) where
  pub no_tables : (picks : PickTablesV) → length picks.numbers ≡ 8 * length d.nodes → HaveTables d 0 picks
  no_tables picks size = record { size = size; tables = λ i o parts less small at reached. absurd (omega arith) }

  -- a node that is not reached there, or is no choice, needs none
  pub tables_past : (count more : ℕ) (picks : PickTablesV)
      → ((i o : ℕ) (parts : List ℕ) → count ≤ 8 * i + o → 8 * i + o < more → o ≤ 7 → slice_get d.nodes i ≡ Some
      (Choice parts) → Reached d i o → ⊥) → HaveTables d count picks → HaveTables d more picks
  tables_past count more picks none have =
      record {
        size = have.size;
        tables = λ i o parts less small at reached. elim (cases_lt (8 * i + o) count) [
          | inl low ↦ have.tables i o parts low small at reached
          | inr high ↦ absurd (none i o parts high less small at reached)
        ];
      }

  -- the same tables and more of them
  has_more : (old new : PickTablesV) (more : List PickTableV) → new.tables ≡ old.tables ++ more
      → (i o : ℕ) (parts : List ℕ) → slice_index new.numbers (8 * i + o) ≡ slice_index old.numbers (8 * i + o)
      → HasTable d old i parts o → HasTable d new i parts o
  has_more old new more grown i o parts kept h =
      let n = slice_index old.numbers (8 * i + o) in
      let there : slice_get new.tables n ≡ Some h.0 = ap (λ l. slice_get l n) grown ∙ slice_get_more old.tables more n h.0 h.1 in
      (h.0, ap (λ k. slice_get new.tables k) kept ∙ there, h.2)

  pub tables_more : (node octet number : ℕ) (parts : List ℕ) (old new : PickTablesV) (more : List PickTableV)
      → node < length d.nodes → octet ≤ 7 → slice_get d.nodes node ≡ Some (Choice parts)
      → new.tables ≡ old.tables ++ more → new.numbers ≡ slice_set old.numbers (8 * node + octet) number
      → HasNumber d parts octet new.tables number → HaveTables d (8 * node + octet) old
      → HaveTables d (8 * node + (octet + 1)) new
  tables_more node octet number parts old new more inside small at grown numbers is have =
      let place = 8 * node + octet in
      let size = have.size in
      record {
        size = ap length numbers ∙ length-set old.numbers place number ∙ size;
        tables = λ i o those less low at_i reached. elim (either (8 * i + o) place (omega (arith, less))) [
          | inl lower ↦
              has_more old new more grown i o those
              (ap (λ l. slice_index l (8 * i + o)) numbers ∙ get_or-set_other old.numbers place (8 * i + o) number 0 (λ e. absurd (omega (arith, e, lower))))
              (have.tables i o those lower low at_i reached)
          | inr same ↦
              let node_is : i ≡ node = omega (arith, same, low, small) in
              let octet_is : o ≡ octet = omega (arith, same, low, small) in
              let at_node : slice_get d.nodes node ≡ Some (Choice those) = ap (λ n. slice_get d.nodes n) (sym node_is) ∙ at_i in
              let one : parts ≡ those = cc in
              let read : slice_index new.numbers (8 * i + o) ≡ number = ap (λ l. slice_index l (8 * i + o)) numbers
              ∙ get_or-set_at old.numbers place (8 * i + o) number 0 same (omega (arith, size, inside, small)) in (
                is.0,
                ap (λ k. slice_get new.tables k) read ∙ is.1,
                subst (λ (l : List ℕ). IsPickTable d l o is.0) one
                    (subst (λ (k : ℕ). IsPickTable d parts k is.0) (sym octet_is) is.2),
              )
        ];
      }
    where
      either : (m n : ℕ) → m < n + 1 → (m < n) ⊎ (m ≡ n)
      either m n le = grind arith

-- ---- what a table tells

pub told : (d : DescV) (picks : PickTablesV) (node octet : ℕ) (parts held : List ℕ) (table : PickTableV)
    (none : Option ℕ) (entry : Entry) → ArePickTables d picks → node < length d.nodes → octet ≤ 7
    → slice_get d.nodes node ≡ Some (Choice parts) → Reached d node octet → IsWord held
    → table_of picks node octet ≡ Some table → none ≡ table.none → entry ≡ entry_at table held
    → Tells d parts octet held none entry
told d picks node octet parts held table none entry have inside small at reached word there none_is entry_is =
    let h = have.tables node octet parts (omega arith) small at reached in
    let also = h.1 in
    let same : h.0 ≡ table = cc in
    let P : PickTableV → Type 0 = λ t. IsPickTable d parts octet t in
    let Q : Entry → Type 0 = λ e. Tells d parts octet held none e in
    let R : Option ℕ → Type 0 = λ n. Tells d parts octet held n (entry_at table held) in
    subst Q (sym entry_is) (subst R (sym none_is) (subst P same h.2 held word))
