-- Blocks of entries that are kept once, and the tables that they make.
use Rattle.std.proofs.Common.{◌≡◌, ◌≢◌, ℕ, zero, suc, ◌+◌, ◌*◌, ◌/◌, ◌%◌, ◌^◌, ◌<◌, ◌≤◌, ◌⊎◌, inl, inr, Bool, true}
use Rattle.std.proofs.Common.{false, List, [], ◌∷◌, ◌++◌, map, length, take, drop, drop-cons, sym, ◌∙◌, ap, subst}
use Rattle.std.proofs.Common.{arith, length-append, append-nil, get_or, refl, rules, Option}
use Rattle.std.specs.Prelude.{slice_get, slice_set, slice_index, slice_index_or, replicate, if◌then◌else◌, ◌&&◌, Some}
use Rattle.std.specs.Option.{option_map}
use Rattle.std.specs.List.{IsDistinct}
use Rattle.std.specs.Cmp.Lexicographic.{pointwise}
use Rattle.std.proofs.Math.Seq.{get_or-append_seam}
use Rattle.csn_desc.specs.Nodes.{DescV}
use Rattle.csn_look.specs.KeyMarks.{place_of}
use Rattle.csn_look.proofs.Basics.Places.{word_take}
use Rattle.std.proofs.Math.ListN.{length-set}
use Rattle.std.proofs.lemmas.List.{drop_all, get_or-set_same, get_or-set_other, get_or_past, length-take}
use Rattle.std.proofs.lemmas.List.{get_or_append_left, get_or-map, map-append, length-map}
use Rattle.std.proofs.lemmas.Nat.{pow_pos}
use Rattle.std.proofs.lemmas.Map.Keys.{apart_from_distinct}
use Rattle.std.proofs.lemmas.Option.{slice_get_within, get_or_from_slice_get, slice_get_read, slice_get-map}
use Rattle.csn_certify.specs.declared.pick_table.Entry.{Entry}
use Rattle.csn_certify.specs.declared.pick_table.Entry.TheVariants.{Refuse, Wait, Take}
use Rattle.csn_certify.specs.declared.pick_table.Filled.{Filled}
use Rattle.csn_certify.specs.declared.pick_table.KeptTable.{KeptTable}
use Rattle.csn_certify.specs.PickTables.{PickTableV, HasEntries, entry_of, entry_in, blocks_at, table_in, IsBlockOf}
use Rattle.csn_certify.specs.PickTables.{AreFirstBlocks, AreOnce, IsWithin, AreWithin, IsTableOf, Tells, IsPickTable}
use Rattle.csn_certify.specs.PickTables.{AreEntries, number_of, digest_on, digest_of}
use Rattle.csn_certify.proofs.PickTables.{place_within}
use Rattle.csn_certify.specs.SameEntries.{same_entry, block_told}

either : (m n : ℕ) → m < n + 1 → (m < n) ⊎ (m ≡ n)
either m n le = grind arith

-- ---- the number that tells entries apart

-- one entry more
pub digest_more :
    (entries : List Entry) (digest at number : ℕ) (other : Entry)
    → at < length entries → number ≡ number_of (get_or entries at other)
    → digest_on digest (drop at entries) ≡ digest_of entries
    → digest_on ((digest * 11400714819323198485 % 2 ^ 64 + number) % 2 ^ 64) (drop (at + 1) entries) ≡ digest_of entries
digest_more entries digest at number other small is before =
    let next : at + 1 ≡ suc at = omega arith in
    ap (λ n. digest_on ((digest * 11400714819323198485 % 2 ^ 64 + number) % 2 ^ 64) (drop n entries)) next
    ∙ ap (λ n. digest_on ((digest * 11400714819323198485 % 2 ^ 64 + n) % 2 ^ 64) (drop (suc at) entries)) is
    ∙ ap (λ l. digest_on digest l) (sym (drop-cons entries at other small))
    ∙ before

pub digest_all : (entries : List Entry) (digest at : ℕ)
    → length entries ≤ at → digest_on digest (drop at entries) ≡ digest_of entries → digest ≡ digest_of entries
digest_all entries digest at all before = ap (λ l. digest_on digest l) (sym (drop_all at entries all)) ∙ before

-- the same blocks are told to be equal
entry_itself : (a : Entry) → same_entry a a ≡ true
entry_itself Refuse = refl
entry_itself Wait = refl
entry_itself (Take j n) = search rules

block_itself : (xs : List Entry) → pointwise same_entry xs xs ≡ true
block_itself [] = refl
block_itself (x ∷ xs) = λ k. entry_itself x k && block_itself xs k

blocks_same : (xs ys : List Entry) → xs ≡ ys → pointwise same_entry xs ys ≡ true
blocks_same xs ys e = subst (λ (zs : List Entry). pointwise same_entry xs zs ≡ true) e (block_itself xs)

module _ {X : Type 0} (items : X → List Entry) where
  -- what is stored at the place is the block
  pub stored : (keys : List X) (at : ℕ) (x kept : X) → slice_get keys at ≡ Some kept → pointwise same_entry (items x)
      (items kept) ≡ true → (at < length (map items keys)) × (slice_index_or (map items keys) at [] ≡ items x)
  stored keys at x kept there same =
      let inside = slice_get_within keys at kept there in
      let size = length-map keys items in (
        omega (arith, inside, size),
        get_or-map items keys at kept [] inside ∙ ap items (get_or_from_slice_get keys at kept kept there) ∙ sym (block_told (items x) (items kept) same),
      )

  -- where a block is added it stands behind the others
  pub behind : (old new : List X) (x : X) (test : Bool) → new ≡ (if test then old else old ++ x ∷ [])
      → (more : List (List Entry)) × (map items new ≡ map items old ++ more)
  behind old new x true same = ([], ap (map items) same ∙ sym (append-nil (map items old)))
  behind old new x false same = (items x ∷ [], ap (map items) same ∙ map-append items old (x ∷ []))

  pub once : (keys : List X) → IsDistinct (λ a b. pointwise same_entry (items a) (items b)) keys → AreOnce (map items keys)
  once [] apart i j d less within e = absurd (omega arith)
  once (k ∷ keys) apart i j d less within e =
      let all = k ∷ keys in
      let size : length (map items all) ≡ length all = length-map all items in
      let low : i < length all = omega (arith, less, within, size) in
      let high : j < length all = omega (arith, within, size) in
      let differ = apart_from_distinct (λ a b. pointwise same_entry (items a) (items b)) all i j k apart less high in
      let same : items (get_or all i k) ≡ items (get_or all j k) = sym (get_or-map items all i k d low) ∙ e ∙ get_or-map items all j k d high in
      let told = blocks_same (items (get_or all i k)) (items (get_or all j k)) same in
      cc

-- ---- the blocks of some entries

pub no_blocks : (entries : List Entry) (blocks : List (List Entry)) → AreFirstBlocks entries 0 [] blocks
no_blocks entries blocks = record { size = refl; within = λ at less. absurd (omega arith); blocks_of = λ at less. absurd (omega arith) }

-- one block more
pub block_more : (entries block : List Entry) (count number : ℕ) (index : List ℕ) (old new more : List (List Entry))
    → new ≡ old ++ more → number < length new → slice_index_or new number [] ≡ block → IsBlockOf entries count block
    → AreFirstBlocks entries count index old → AreFirstBlocks entries (count + 1) (index ++ number ∷ []) new
block_more entries block count number index old new more grown inside there is first =
    record {
      size = let longer = length-append index (number ∷ []) in let size = first.size in omega (arith, longer, size);
      within = λ at less. elim (either at count less) [
        | inl low ↦
            let size = first.size in
            let longer = ap length grown ∙ length-append old more in
            let before = first.within at low in
            let read : slice_index (index ++ number ∷ []) at ≡ slice_index index at = get_or_append_left index (number ∷ []) 0 at (omega (arith, low, size)) in
            omega (arith, before, read, longer)
        | inr same ↦ let read = last at same in omega (arith, read, inside)
      ];
      blocks_of = λ at less. elim (either at count less) [
        | inl low ↦
            let size = first.size in
            let before = first.within at low in
            let read : slice_index (index ++ number ∷ []) at ≡ slice_index index at = get_or_append_left index (number ∷ []) 0 at (omega (arith, low, size)) in
            let kept : slice_index_or new (slice_index (index ++ number ∷ []) at) [] ≡ slice_index_or old (slice_index index at) [] =
            ap (λ n. slice_index_or new n []) read ∙ ap (λ l. slice_index_or l (slice_index index at) []) grown
            ∙ get_or_append_left old more [] (slice_index index at) before in
            subst (λ (b : List Entry). IsBlockOf entries at b) (sym kept) (first.blocks_of at low)
        | inr same ↦
            let read : slice_index_or new (slice_index (index ++ number ∷ []) at) [] ≡ block = ap (λ n. slice_index_or new n []) (last at same) ∙ there in
            subst (λ (b : List Entry). IsBlockOf entries at b) (sym read) (subst (λ (n : ℕ). IsBlockOf entries n block) (sym same) is)
      ];
    }
  where
    last : (at : ℕ) → at ≡ count → slice_index (index ++ number ∷ []) at ≡ number
    last at same = ap (λ n. slice_index (index ++ number ∷ []) n) (same ∙ sym first.size) ∙ get_or-append_seam index number [] 0

-- ---- the first entries

-- these are the first of some entries
abbrev pub AreFirstEntries : List Entry → List Entry → Type 0
AreFirstEntries entries first = (place : ℕ) → place < 8 → slice_index_or first place Refuse ≡ slice_index_or entries place Refuse

-- so many of them are, and refusals stand behind these
pub record AreFilled (entries first : List Entry) (count : ℕ) : Type 0 where
  pub size : length first ≡ 8
  pub same : (place : ℕ) → place < count → slice_index_or first place Refuse ≡ slice_index_or entries place Refuse
  pub refused : (place : ℕ) → count ≤ place → slice_index_or first place Refuse ≡ Refuse

refusals : (n place : ℕ) → slice_index_or (replicate n Refuse) place Refuse ≡ Refuse
refusals zero place = refl
refusals (suc n) zero = refl
refusals (suc n) (suc place) = refusals n place

pub none_filled : (entries : List Entry) → AreFilled entries (replicate 8 Refuse) 0
none_filled entries = record { size = refl; same = λ place less. absurd (omega arith); refused = λ place any. refusals 8 place }

pub entry_filled : (entries first : List Entry) (count : ℕ) (entry : Entry)
    → count < 8 → slice_get entries count ≡ Some entry → AreFilled entries first count
    → AreFilled entries (slice_set first count entry) (count + 1)
entry_filled entries first count entry room there are =
    let size = are.size in
    let other : (place : ℕ) → place ≢ count → slice_index_or (slice_set first count entry) place Refuse ≡ slice_index_or first place Refuse =
    λ place apart. get_or-set_other first count place entry Refuse apart in
    record {
      size = length-set first count entry ∙ size;
      same = λ place less. elim (either place count less) [
        | inl low ↦ other place (omega (arith, low)) ∙ are.same place low
        | inr is ↦
            let put : slice_index_or (slice_set first count entry) count Refuse ≡ entry =
            get_or-set_same first count entry Refuse (omega (arith, room, size)) in
            ap (λ n. slice_index_or (slice_set first count entry) n Refuse) is ∙ put ∙ sym (get_or_from_slice_get entries count entry Refuse there)
            ∙ ap (λ n. slice_index_or entries n Refuse) (sym is)
      ];
      refused = λ place high. other place (omega (arith, high)) ∙ are.refused place (omega (arith, high));
    }

pub refusal_filled : (entries first : List Entry) (count : ℕ) → length entries ≤ count → AreFilled entries first count → AreFilled entries first (count + 1)
refusal_filled entries first count none are =
    record {
      size = are.size;
      same = λ place less. elim (either place count less) [
        | inl low ↦ are.same place low
        | inr is ↦ are.refused place (omega (arith, is)) ∙ sym (get_or_past entries place Refuse (omega (arith, none, is)))
      ];
      refused = λ place high. are.refused place (omega (arith, high));
    }

-- ---- what a table says

pub read_block : (index : List ℕ) (blocks : List (List Entry)) (place : ℕ)
    → place / 64 < length index → entry_in (blocks_at index blocks) place ≡ slice_index_or
    (slice_index_or blocks (slice_index index (place / 64)) []) (place % 64) Refuse
read_block index blocks place inside =
    ap (λ b. slice_index_or b (place % 64) Refuse) (get_or-map (λ n. slice_index_or blocks n []) index (place / 64) 0 [] inside)

-- blocks of all entries have the entries
pub blocks_read : (entries : List Entry) (index : List ℕ) (blocks : List (List Entry)) (count place : ℕ)
    → AreFirstBlocks entries count index blocks → place / 64 < count → entry_in (blocks_at index blocks)
    place ≡ slice_index_or entries place Refuse
blocks_read entries index blocks count place first less =
    let size = first.size in
    let whole : 64 * (place / 64) + place % 64 ≡ place = omega arith in
    read_block index blocks place (omega (arith, size, less)) ∙ first.blocks_of (place / 64) less (place % 64) (omega arith)
    ∙ ap (λ n. slice_index_or entries n Refuse) whole

-- a block more changes none of the tables that were there
pub same_blocks : (index : List ℕ) (old new more : List (List Entry))
    → new ≡ old ++ more → ((at : ℕ) → at < length index → slice_index index at < length old)
    → blocks_at index new ≡ blocks_at index old
same_blocks [] old new more grown within = refl
same_blocks (n ∷ index) old new more grown within =
    let first : slice_index_or new n [] ≡ slice_index_or old n [] = ap (λ l. slice_index_or l n []) grown
    ∙ get_or_append_left old more [] n (within 0 (omega arith)) in
    let rest = same_blocks index old new more grown (λ at less. within (suc at) (omega (arith, less))) in
    cc

pub same_tables : (tables : List KeptTable) (old new more : List (List Entry))
    → new ≡ old ++ more → AreWithin old tables → map (table_in new) tables ≡ map (table_in old) tables
same_tables [] old new more grown within = refl
same_tables (t ∷ tables) old new more grown within =
    let here = (within 0 t refl).within in
    let first : table_in new t ≡ table_in old t = ap (λ l. record { none = t.none; width = t.width; blocks = l })
    (same_blocks t.index.items old new more grown here) in
    let rest = same_tables tables old new more grown (λ at u is. within (suc at) u is) in
    cc

-- and they stay within the blocks
pub still_within : (old new more : List (List Entry)) (t : KeptTable) → new ≡ old ++ more → IsWithin old t → IsWithin new t
still_within old new more t grown is =
    let longer = ap length grown ∙ length-append old more in
    let same = same_blocks t.index.items old new more grown is.within in
    record {
      short = is.short;
      enough = is.enough;
      within = λ at less. let before = is.within at less in omega (arith, before, longer);
      first = λ place less. is.first place less ∙ ap (λ l. entry_in l place) (sym same);
    }

pub all_still_within : (old new more : List (List Entry)) (tables : List KeptTable) → new ≡ old ++ more → AreWithin old tables → AreWithin new tables
all_still_within old new more tables grown all at t there = still_within old new more t grown (all at t there)

-- a table of some entries, in blocks of all of them
pub kept_within : (filled : Filled) (t : KeptTable) (blocks : List (List Entry))
    → HasEntries filled.width filled.entries.items → t.width ≡ filled.width
    → AreFirstEntries filled.entries.items t.first → AreFirstBlocks filled.entries.items
    ((length filled.entries.items + 63) / 64) t.index.items blocks → IsWithin blocks t
kept_within filled t blocks has width front first =
    let short = has.short in
    let count = has.count in
    let size = first.size in
    let power : 2 ^ (t.width + 1) ≡ 2 ^ (filled.width + 1) = ap (λ n. 2 ^ (n + 1)) width in
    let some : 1 ≤ (length filled.entries.items + 63) / 64 = let two : 0 < 2 ^ (filled.width + 1) = pow_pos (filled.width + 1) in omega (arith, count, two) in
    record {
      short = omega (arith, short, width);
      enough = omega (arith, power, count, size);
      within = λ at less. first.within at (omega (arith, less, size));
      first = λ place less.
          front place less
          ∙ sym (blocks_read filled.entries.items t.index.items blocks ((length filled.entries.items + 63) / 64) place first (omega (arith, less, some)));
    }

pub kept_table : (filled : Filled) (t : KeptTable) (blocks : List (List Entry))
    → HasEntries filled.width filled.entries.items → t.none ≡ filled.none → t.width ≡ filled.width
    → AreFirstBlocks filled.entries.items ((length filled.entries.items + 63) / 64) t.index.items blocks
    → IsTableOf filled (table_in blocks t)
kept_table filled t blocks has none width first =
    record {
      none = none;
      entries = λ held is.
          let front = take filled.width held in
          let same : place_of (take t.width held) ≡ place_of front = ap (λ n. place_of (take n held)) width in
          let size = length-take filled.width held in
          let inside = place_within filled.width front (word_take filled.width held is) (omega (arith, size)) in
          let count = has.count in
          ap (entry_in (blocks_at t.index.items blocks)) same
          ∙ blocks_read filled.entries.items t.index.items blocks ((length filled.entries.items + 63) / 64)
          (place_of front) first (omega (arith, inside, count));
    }

-- the tables and one more
pub within_more : (blocks : List (List Entry)) (tables : List KeptTable) (t : KeptTable)
    → AreWithin blocks tables → IsWithin blocks t → AreWithin blocks (tables ++ t ∷ [])
within_more blocks [] t all is zero u at = let same : t ≡ u = cc in subst (IsWithin blocks) same is
within_more blocks [] t all is (suc n) u at = absurd (cc)
within_more blocks (s ∷ tables) t all is zero u at = all zero u at
within_more blocks (s ∷ tables) t all is (suc n) u at = within_more blocks tables t (λ k v there. all (suc k) v there) is n u at

-- a table of the entries of a choice tells of all held bits
pub kept_tells : (d : DescV) (parts : List ℕ) (octet : ℕ) (filled : Filled) (t : PickTableV)
    → AreEntries d parts octet filled → IsTableOf filled t → IsPickTable d parts octet t
kept_tells d parts octet filled t are is held word =
    let P : Entry → Type 0 = λ e. Tells d parts octet held t.none e in
    let Q : Option ℕ → Type 0 = λ none. Tells d parts octet held none (entry_of filled.entries.items (take filled.width held)) in
    subst P (sym (is.entries held word)) (subst Q (sym is.none) (are.tells held word))

-- ---- reading and adding

-- what is read within a list does not stand on what is read past its end
pub read_within : (xs : List ℕ) (i x : ℕ) → i < length xs → x ≡ slice_index_or xs i x → x ≡ slice_index xs i
read_within xs i x inside is = sym (get_or_from_slice_get xs i x 0 (slice_get_read xs (length xs) i x refl inside is))

pub read_table : (blocks : List (List Entry)) (tables : List KeptTable) (number : ℕ) (t : KeptTable)
    → slice_get tables number ≡ Some t → slice_get (map (table_in blocks) tables) number ≡ Some (table_in blocks t)
read_table blocks tables number t there = slice_get-map (table_in blocks) tables number ∙ ap (option_map (table_in blocks)) there

-- the tables that were there, and one more behind them
pub tables_more : (old new more : List (List Entry)) (tables all : List KeptTable) (t : KeptTable)
    (before : List PickTableV) → new ≡ old ++ more → AreWithin old tables → map (table_in old) tables ≡ before
    → all ≡ tables ++ t ∷ [] → map (table_in new) all ≡ before ++ table_in new t ∷ []
tables_more old new more tables all t before grown within is_before is_all =
    ap (map (table_in new)) is_all ∙ map-append (table_in new) tables (t ∷ [])
    ∙ ap (λ l. l ++ table_in new t ∷ []) (same_tables tables old new more grown within ∙ is_before)

-- the one that is added stands at the end
pub last_table : (blocks : List (List Entry)) (tables all : List KeptTable) (t : KeptTable) (number : ℕ)
    → all ≡ tables ++ t ∷ [] → number ≡ length tables → slice_get (map (table_in blocks) all) number ≡ Some
    (table_in blocks t)
last_table blocks tables all t number is_all at =
    let longer = length-append tables (t ∷ []) in
    let size = ap length is_all in
    let read : t ≡ get_or all number t =
    sym (ap (λ l. get_or l number t) is_all ∙ ap (λ n. get_or (tables ++ t ∷ []) n t)
    at ∙ get_or-append_seam tables t [] t) in
    read_table blocks all number t (slice_get_read all (length all) number t refl (omega (arith, at, size, longer)) read)
