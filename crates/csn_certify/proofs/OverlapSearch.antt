-- The search for the first overlap of a choice at an octet position.
use Rattle.std.proofs.Common.{◌≡◌, ℕ, ◌+◌, ◌<◌, ◌≤◌, ◌⊎◌, ◌↔◌, inl, inr, Bool, true, List, [], ◌∷◌, ◌++◌, length}
use Rattle.std.proofs.Common.{refl, sym, ◌∙◌, ap, subst, arith, Option, Some, None, slice_get}
use Rattle.std.specs.Prelude.{IsTrue}
use Rattle.std.proofs.lemmas.Option.{slice_get_within, slice_get_read, get_or_from_slice_get}
use Rattle.csn_desc.specs.declared.node.Node.TheVariants.{Choice}
use Rattle.csn_desc.specs.Nodes.{DescV}
use Rattle.csn_look.specs.declared.word.Key.{Key}
use Rattle.csn_look.specs.KeyMarks.{IsWord, has_key, KeysAre, Adds}
use Rattle.csn_look.specs.LookKeys.{ListsKeys}
use Rattle.csn_look.specs.Keys.{InKeys}
use Rattle.csn_look.specs.Reached.{Reached}
use Rattle.csn_claims.proofs.Pieces.{order, equal_numbers, first_less, second_less}
use Rattle.csn_certify.specs.declared.conflict.Conflict.{Conflict}
use Rattle.csn_certify.specs.declared.conflict.Conflict.TheVariants.{TwoEmpty, NotFirm, Overlap, EmptyClash, LoopClash, NotLast}
use Rattle.csn_certify.specs.Conflicts.{IsNull, IsConflict, overlap, text_of, rank_of, NotAfter}
use Rattle.csn_certify.specs.Search.{IsUnder, IsFirstUnder, IsLeastFrom}
use Rattle.csn_certify.specs.Overlaps.{AreBegun, Meets, MeetsAt, KeyUnder, MeetUnder, HasKey, IsFirstBegun, IsPart, HasKeyFrom, Overlaps}
use Rattle.csn_certify.proofs.Searching.{NoneBelow, branch_at, found_at, least_number, first_behind}
use Rattle.csn_certify.proofs.ConflictKinds.{ChoiceFits, choice_fits}
use Rattle.csn_look.proofs.Tables.KeyWords.{key_word}
use Rattle.csn_certify.proofs.TablesMeet.{swapped}
use Rattle.csn_certify.proofs.KeyOrder.{text_first, text_at, MeetsWith, meets_with, with_meets}

-- ---- the first key of a list that meets a set

module _ (d : DescV) (octet p : ℕ) (keys : List Key) (lists : ListsKeys keys (InKeys d 12 p octet)) where
  -- a listed key
  pub listed_key : (at : ℕ) (key : Key) → slice_get keys at ≡ Some key → InKeys d 12 p octet key.word key.whole
  listed_key at key is =
      (lists.exact key).0 (at, slice_get_within keys at key is, get_or_from_slice_get keys at key key is)

  -- where a key is listed
  place_of_key : (word : List ℕ) (mark : Bool) → InKeys d 12 p octet word mark → (at : ℕ) × (slice_get keys at ≡ Some (record { word = word; whole = mark }))
  place_of_key word mark key =
      let found = (lists.exact (record { word = word; whole = mark })).1 key in
      (found.0, slice_get_read keys (length keys) found.0 (record { word = word; whole = mark }) refl found.1 (sym found.2))

  module _ (marks : List ℕ) (P : List ℕ → Bool → Type 0) (are : KeysAre marks P) where
    pub none_meets : IsLeastFrom 0 (MeetsAt marks keys) None → (word other : List ℕ)
        → HasKey d octet p word → (mark : Bool) → IsWord other → P other mark → AreBegun word other → ⊥
    none_meets none word other key mark good is begun =
        let place = place_of_key word key.0 key.1 in
        none place.0 (omega arith) (record { word = word; whole = key.0 }, place.1, with_meets marks P are word (key_word d key.1) other mark good is begun)

    pub first_meets : (at : ℕ) (first : Key) → IsLeastFrom 0 (MeetsAt marks keys) (Some at)
        → slice_get keys at ≡ Some first → (word other : List ℕ) → HasKey d octet p word → (mark : Bool)
        → IsWord other → P other mark → AreBegun word other → NotAfter (text_of first.word) (text_of word)
    first_meets at first least is word other key mark good holds begun =
        let place = place_of_key word key.0 key.1 in
        let most = least_number 0 at place.0 (MeetsAt marks keys) least (omega arith) (
          record { word = word; whole = key.0 },
          place.1,
          with_meets marks P are word (key_word d key.1)
              other mark good holds begun,
        ) in
        text_at keys at place.0 first (record { word = word; whole = key.0 }) lists.rising is place.1 most

    -- and it does meet it
    pub at_meets : (at : ℕ) (first : Key) → IsLeastFrom 0 (MeetsAt marks keys) (Some at) → slice_get keys at ≡ Some first → MeetsWith P first.word
    at_meets at first least is =
        let met = least.1 in
        let one : met.0 ≡ first = let got = met.1 in cc in
        let key = listed_key at first is in
        meets_with marks P are first.word (key_word d key) (subst (λ (k : Key). Meets marks k.word) one met.2)

-- ---- the first key that one word begins, or that begins it

-- the set of one key
abbrev pub IsOnly : List ℕ → List ℕ → Bool → Type 0
IsOnly word key mark = (key ≡ word) × (mark ≡ true)

pub only_key : (empty only word : List ℕ) → KeysAre empty (λ key mark. ⊥) → Adds empty only (IsOnly word) → KeysAre only (IsOnly word)
only_key empty only word none adds key mark is = (
  (λ h. elim ((adds key mark is).0 h) [
    | inl old ↦ absurd ((none key mark is).0 old)
    | inr here ↦ here
  ]),
  (λ h. (adds key mark is).1 (inr h)),
)

module _ (d : DescV) (octet p : ℕ) (keys : List Key) (lists : ListsKeys keys (InKeys d 12 p octet))
    (marks word : List ℕ) (is : IsWord word) (are : KeysAre marks (IsOnly word)) where
  pub begun_none : IsLeastFrom 0 (MeetsAt marks keys) None → IsFirstBegun d octet p word None
  begun_none none w key begun = none_meets d octet p keys lists marks (IsOnly word) are none w word key true is (refl, refl) (swapped word w begun)

  pub begun_some : (at : ℕ) (first : Key) → IsLeastFrom 0 (MeetsAt marks keys) (Some at)
      → slice_get keys at ≡ Some first → IsFirstBegun d octet p word (Some first.word)
  begun_some at first least at_is =
      let met = at_meets d octet p keys lists marks (IsOnly word) are at first least at_is in
      let same = met.key.0 in (
        (first.whole, listed_key d octet p keys lists at first at_is),
        swapped first.word word (subst (λ (w : List ℕ). AreBegun first.word w) same met.begun),
        (λ w key begun. first_meets d octet p keys lists marks (IsOnly word) are at first least at_is w word key true is (refl, refl) (swapped word w begun)),
      )

-- ---- keys that meet

-- a key of a set is under no bits
abbrev under_none : (marks word : List ℕ) (mark : Bool) (P : List ℕ → Bool → Type 0) → KeysAre marks P → IsWord word → P word mark → KeyUnder marks []
under_none marks word mark P are is key =
    record { key = word; mark = mark; is_word = is; in_set = (are word mark is).1 key; under = inr (word, refl) }

-- and so one of a node
abbrev key_of_node : (d : DescV) (octet p : ℕ) (word marks : List ℕ) → KeysAre marks (InKeys d 12 p octet) → HasKey d octet p word → KeyUnder marks []
key_of_node d octet p word marks are key = under_none marks word key.0 (InKeys d 12 p octet) are (key_word d key.1) key.1

-- ---- the conflict

record IsOverlapAt (d : DescV) (octet : ℕ) (parts : List ℕ) (node : ℕ) (c : Conflict) : Type 0 where
  i : ℕ
  j : ℕ
  p : ℕ
  q : ℕ
  word_i : List ℕ
  word_j : List ℕ
  is : c ≡ Overlap node octet i j word_i word_j
  less : i < j
  part_i : IsPart d octet parts i p
  part_j : IsPart d octet parts j q
  key_i : HasKey d octet p word_i
  key_j : HasKey d octet q word_j
  begun : AreBegun word_i word_j

module _ (d : DescV) (node : ℕ) (parts : List ℕ) (at : slice_get d.nodes node ≡ Some (Choice parts)) (octet : ℕ) where
  fits : (front : List ℕ) (c : Conflict) → IsUnder (node ∷ 3 ∷ octet ∷ 3 ∷ front) c → ChoiceFits d parts c → IsOverlapAt d octet parts node c
  fits front (TwoEmpty k i j) under f = let is = under.1 in absurd (cc)
  fits front (NotFirm k i) under f = let is = under.1 in absurd (cc)
  fits front (Overlap k o i j v w) under f =
      let is = under.1 in
      let same_node : k ≡ node = cc in
      let same : o ≡ octet = cc in
      let h = f.2 in
      let keys = h.6 in
      record {
        i = i;
        j = j;
        p = h.0;
        q = h.1;
        word_i = v;
        word_j = w;
        is = cc;
        less = f.1;
        part_i = record { is_part = h.2; real = h.4 };
        part_j = record { is_part = h.3; real = h.5 };
        key_i = subst (λ (x : ℕ). HasKey d x h.0 v) same (keys.0, keys.2);
        key_j = subst (λ (x : ℕ). HasKey d x h.1 w) same (keys.1, keys.3);
        begun = f.3;
      }
  fits front (EmptyClash k o b) under f = let is = under.1 in absurd (cc)
  fits front (LoopClash k o b) under f = absurd f
  fits front (NotLast k o) under f = absurd f

  of_overlap : (front : List ℕ) (c : Conflict) → IsUnder (node ∷ 3 ∷ octet ∷ 3 ∷ front) c → IsConflict d 12 c → IsOverlapAt d octet parts node c
  of_overlap front c under holds = fits front c under (choice_fits d node (3 ∷ octet ∷ 3 ∷ front) parts c at under holds)

  rank_at : (c : Conflict) (o : IsOverlapAt d octet parts node c) → rank_of c ≡ node ∷ 3 ∷ octet ∷ 3 ∷ o.i ∷ o.j ∷ (text_of o.word_i ++ text_of o.word_j)
  rank_at c o = ap rank_of o.is

  same_first : (i : ℕ) (front : List ℕ) (c : Conflict) (o : IsOverlapAt d octet parts node c) → IsUnder (node ∷ 3 ∷ octet ∷ 3 ∷ i ∷ front) c → o.i ≡ i
  same_first i front c o under = let rank = rank_at c o in let is = under.1 in cc

  same_second : (i j : ℕ) (front : List ℕ) (c : Conflict) (o : IsOverlapAt d octet parts node c) → IsUnder (node ∷ 3 ∷ octet ∷ 3 ∷ i ∷ j ∷ front) c → o.j ≡ j
  same_second i j front c o under = let rank = rank_at c o in let is = under.1 in cc

  -- a conflict says that an alternative overlaps with a later one, and the other way round
  overlaps_of : (c : Conflict) (o : IsOverlapAt d octet parts node c) → Overlaps d octet parts o.i
  overlaps_of c o =
      let less = o.less in
      record {
        p = o.p;
        word_i = o.word_i;
        word_j = o.word_j;
        mark_j = o.key_j.0;
        part = o.part_i;
        key_i = o.key_i;
        key_j = record { j = o.j; q = o.q; later = omega (arith, less); part = o.part_j; key = o.key_j.1 };
        begun = o.begun;
      }

  pub conflict_of : (i : ℕ) → Reached d node octet → (o : Overlaps d octet parts i) → IsConflict d 12 (Overlap node octet i o.key_j.j o.word_i o.word_j)
  conflict_of i reached o =
      let up = o.key_j.later in
      overlap o.key_i.0 o.mark_j at reached (omega (arith, up)) o.part.is_part o.key_j.part.is_part o.part.real o.key_j.part.real o.key_i.1 o.key_j.key o.begun

  -- ---- the first alternative

  pub overlap_none : IsLeastFrom 0 (Overlaps d octet parts) None → IsFirstUnder d (node ∷ 3 ∷ octet ∷ 3 ∷ []) None
  overlap_none none c under holds = let o = of_overlap [] c under holds in none o.i (omega arith) (overlaps_of c o)

  pub overlap_some : (i : ℕ) (r : Option Conflict) → Reached d node octet → IsLeastFrom 0 (Overlaps d octet parts)
      (Some i) → IsFirstUnder d (node ∷ 3 ∷ octet ∷ 3 ∷ i ∷ []) r → IsFirstUnder d (node ∷ 3 ∷ octet ∷ 3 ∷ []) r
  overlap_some i None reached least h =
      let o = least.1 in
      absurd (h (Overlap node octet i o.key_j.j o.word_i o.word_j) (o.key_j.j ∷ (text_of o.word_i ++ text_of o.word_j), refl) (conflict_of i reached o))
  overlap_some i (Some c) reached least h = found_at d (node ∷ 3 ∷ octet ∷ 3 ∷ []) i c (branch_at (node ∷ 3 ∷ octet ∷ 3 ∷ []) refl) below h
    where
      below : NoneBelow d (node ∷ 3 ∷ octet ∷ 3 ∷ []) i
      below x less e under holds =
          let o = of_overlap (x ∷ []) e under holds in
          let same = same_first x [] e o under in
          least.2 x (omega arith) less (subst (λ (k : ℕ). Overlaps d octet parts k) same (overlaps_of e o))

  -- ---- the second alternative

  pub second_first : (i : ℕ) → NoneBelow d (node ∷ 3 ∷ octet ∷ 3 ∷ i ∷ []) (i + 1)
  second_first i x less e under holds =
      let o = of_overlap (i ∷ x ∷ []) e under holds in
      let first = same_first i (x ∷ []) e o under in
      let second = same_second i x [] e o under in
      let later = o.less in
      absurd (omega (arith, less, first, second, later))

  pub second_end : (i count : ℕ) → length parts ≤ count → NoneBelow d (node ∷ 3 ∷ octet ∷ 3 ∷ i ∷ []) count
      → IsFirstUnder d (node ∷ 3 ∷ octet ∷ 3 ∷ i ∷ []) None
  second_end i count all below c under holds =
      let o = of_overlap (i ∷ []) c under holds in
      let first = same_first i [] c o under in
      let inside = slice_get_within parts o.j o.q o.part_j.is_part in
      let rank : rank_of c ≡ node ∷ 3 ∷ octet ∷ 3 ∷ i ∷ o.j ∷ (text_of o.word_i ++ text_of o.word_j) = rank_at c o
      ∙ ap (λ k. node ∷ 3 ∷ octet ∷ 3 ∷ k ∷ o.j ∷ (text_of o.word_i ++ text_of o.word_j)) first in
      below o.j (omega (arith, all, inside)) c (text_of o.word_i ++ text_of o.word_j, rank) holds

  pub second_found : (i j : ℕ) (c : Conflict) → NoneBelow d (node ∷ 3 ∷ octet ∷ 3 ∷ i ∷ []) j
      → IsFirstUnder d (node ∷ 3 ∷ octet ∷ 3 ∷ i ∷ j ∷ []) (Some c)
      → IsFirstUnder d (node ∷ 3 ∷ octet ∷ 3 ∷ i ∷ []) (Some c)
  second_found i j c below h = found_at d (node ∷ 3 ∷ octet ∷ 3 ∷ i ∷ []) j c (branch_at (node ∷ 3 ∷ octet ∷ 3 ∷ i ∷ []) refl) below h

  -- ---- the words of two alternatives

  module _ (i j p q : ℕ) (less : i < j) (part : (n : ℕ) × IsPart d octet parts i n)
      (at_i : slice_get parts i ≡ Some p) (at_j : slice_get parts j ≡ Some q) where
    -- the first one, by the number that it has
    part_i : IsPart d octet parts i p
    part_i =
        let there = part.1.is_part in
        let same : part.0 ≡ p = cc in
        subst (λ (k : ℕ). IsPart d octet parts i k) same part.1

    -- the overlaps of these two
    record IsPair (c : Conflict) : Type 0 where
      word_i : List ℕ
      word_j : List ℕ
      is : c ≡ Overlap node octet i j word_i word_j
      real_j : ¬ IsNull d q
      key_i : HasKey d octet p word_i
      key_j : HasKey d octet q word_j
      begun : AreBegun word_i word_j

    pair_of : (c : Conflict) → IsUnder (node ∷ 3 ∷ octet ∷ 3 ∷ i ∷ j ∷ []) c → IsConflict d 12 c → IsPair c
    pair_of c under holds =
        let o = of_overlap (i ∷ j ∷ []) c under holds in
        let first = same_first i (j ∷ []) c o under in
        let second = same_second i j [] c o under in
        let there_i = o.part_i.is_part in
        let here_i = part_i.is_part in
        let there_j = o.part_j.is_part in
        let one_p : o.p ≡ p = cc in
        let one_q : o.q ≡ q = cc in
        let is = o.is in
        record {
          word_i = o.word_i;
          word_j = o.word_j;
          is = cc;
          real_j = subst (λ (k : ℕ). ¬ IsNull d k) one_q o.part_j.real;
          key_i = subst (λ (k : ℕ). HasKey d octet k o.word_i) one_p o.key_i;
          key_j = subst (λ (k : ℕ). HasKey d octet k o.word_j) one_q o.key_j;
          begun = o.begun;
        }

    pub pair_null : IsNull d q → IsFirstUnder d (node ∷ 3 ∷ octet ∷ 3 ∷ i ∷ j ∷ []) None
    pair_null null c under holds = (pair_of c under holds).real_j null

    -- tables that do not meet
    pub pair_apart : (own table word : List ℕ) → KeysAre own (InKeys d 12 p octet)
        → KeysAre table (InKeys d 12 q octet) → word ≡ [] → ¬ MeetUnder own table word
        → IsFirstUnder d (node ∷ 3 ∷ octet ∷ 3 ∷ i ∷ j ∷ []) None
    pair_apart own table word are_own are empty none c under holds =
        let pair = pair_of c under holds in
        let met : MeetUnder own table [] =
        record {
          v = key_of_node d octet p pair.word_i own are_own pair.key_i;
          w = key_of_node d octet q pair.word_j table are pair.key_j;
          begun = pair.begun;
        }
        in
        none (subst (λ (w : List ℕ). MeetUnder own table w) (sym empty) met)

    module _ (keys : List Key) (lists : ListsKeys keys (InKeys d 12 p octet)) (marks : List ℕ) (are : KeysAre marks (InKeys d 12 q octet)) where
      pub pair_none : IsLeastFrom 0 (MeetsAt marks keys) None → IsFirstUnder d (node ∷ 3 ∷ octet ∷ 3 ∷ i ∷ j ∷ []) None
      pair_none none c under holds =
          let pair = pair_of c under holds in
          none_meets d octet p keys lists marks (InKeys d 12 q octet) are none pair.word_i pair.word_j pair.key_i
          pair.key_j.0 (key_word d pair.key_j.1) pair.key_j.1 pair.begun

      module _ (place : ℕ) (first : Key) (least : IsLeastFrom 0 (MeetsAt marks keys) (Some place)) (is_at : slice_get keys place ≡ Some first) where
        -- the other one has a key that meets the word
        pub pair_begun : IsFirstBegun d octet q first.word None → ⊥
        pair_begun none =
            let met = at_meets d octet p keys lists marks (InKeys d 12 q octet) are place first least is_at in
            none met.other (met.mark, met.key) met.begun

        pub pair_some : (word : List ℕ) → Reached d node octet → ¬ IsNull d q → IsFirstBegun d octet q first.word
            (Some word) → IsFirstUnder d (node ∷ 3 ∷ octet ∷ 3 ∷ i ∷ j ∷ [])
            (Some (Overlap node octet i j first.word word))
        pair_some word reached real h = (
          (text_of first.word ++ text_of word, refl),
          overlap first.whole h.0.0 at reached less part_i.is_part at_j part_i.real real (listed_key d octet p keys lists place first is_at) h.0.1 h.1,
          before,
        )
          where
            first_word : (c : Conflict) (pair : IsPair c) → NotAfter (text_of first.word) (text_of pair.word_i)
            first_word c pair =
                first_meets d octet p keys lists marks (InKeys d 12 q octet) are place first least is_at pair.word_i
                pair.word_j pair.key_i pair.key_j.0 (key_word d pair.key_j.1) pair.key_j.1 pair.begun

            words : (c : Conflict) (pair : IsPair c) → NotAfter (text_of first.word ++ text_of word) (text_of pair.word_i ++ text_of pair.word_j)
            words c pair =
                elim (text_first first.word pair.word_i (first_word c pair)) [
                  | inl same ↦
                      subst (λ (w : List ℕ). NotAfter (text_of first.word ++ text_of word) (text_of w ++ text_of pair.word_j)) same
                      (first_behind (text_of first.word) (text_of word) (text_of pair.word_j)
                      (h.2 pair.word_j pair.key_j (subst (λ (w : List ℕ). AreBegun w pair.word_j) (sym same) pair.begun)))
                  | inr further ↦ further (text_of word) (text_of pair.word_j)
                ]

            before : (other : Conflict) → IsUnder (node ∷ 3 ∷ octet ∷ 3 ∷ i ∷ j ∷ []) other → IsConflict d 12 other
                → NotAfter (rank_of (Overlap node octet i j first.word word)) (rank_of other)
            before other under holds =
                let pair = pair_of other under holds in
                subst (λ (e : Conflict). NotAfter (rank_of (Overlap node octet i j first.word word)) (rank_of e)) (sym pair.is)
                (first_behind (node ∷ 3 ∷ octet ∷ 3 ∷ i ∷ j ∷ []) (text_of first.word ++ text_of word)
                (text_of pair.word_i ++ text_of pair.word_j) (words other pair))

-- ---- the alternatives from the last one back

module _ (d : DescV) (octet : ℕ) (parts : List ℕ) where
  -- the keys of the alternatives from one on, and the first of them that overlaps
  abbrev pub AreLater : List ℕ → Option ℕ → ℕ → Type 0
  AreLater keys first from = KeysAre keys (HasKeyFrom d octet parts from) × IsLeastFrom from (Overlaps d octet parts) first

  pub keys_none : (empty : List ℕ) (count : ℕ) → length parts ≤ count → KeysAre empty (λ key mark. ⊥) → KeysAre empty (HasKeyFrom d octet parts count)
  keys_none empty count all none word mark is = (
    (λ h. absurd ((none word mark is).0 h)),
    (λ h. let inside = slice_get_within parts h.j h.q h.part.is_part in let up = h.later in absurd (omega (arith, all, inside, up))),
  )

  pub least_none : (count : ℕ) → length parts ≤ count → IsLeastFrom count (Overlaps d octet parts) None
  least_none count all n up o =
      let inside = slice_get_within parts n o.p o.part.is_part in absurd (omega (arith, all, inside, up))

  -- the least one stays where this one does not overlap
  pub least_stays : (i : ℕ) (r : Option ℕ) → ¬ Overlaps d octet parts i → IsLeastFrom (i + 1) (Overlaps d octet parts)
      r → IsLeastFrom i (Overlaps d octet parts) r
  least_stays i None good least =
      λ n up o. elim (order n i) [
        | first_less lower ↦ absurd (omega (arith, lower, up))
        | equal_numbers same ↦ good (subst (λ (k : ℕ). Overlaps d octet parts k) same o)
        | second_less higher ↦ least n (omega (arith, higher)) o
      ]
  least_stays i (Some k) good least = (
    let up = least.0 in omega (arith, up),
    least.1,
    (λ m up less o. elim (order m i) [
      | first_less lower ↦ absurd (omega (arith, lower, up))
      | equal_numbers same ↦ good (subst (λ (k : ℕ). Overlaps d octet parts k) same o)
      | second_less higher ↦ least.2 m (omega (arith, higher)) less o
    ]),
  )

  -- and is this one where it does
  pub least_here : (i : ℕ) → Overlaps d octet parts i → IsLeastFrom i (Overlaps d octet parts) (Some i)
  least_here i o = (omega arith, o, (λ m up less. absurd (omega (arith, up, less))))

  -- an alternative that takes no bits adds nothing
  module _ (i p : ℕ) (at : slice_get parts i ≡ Some p) where
    from_next : (word : List ℕ) (mark : Bool) → HasKeyFrom d octet parts (i + 1) word mark → HasKeyFrom d octet parts i word mark
    from_next word mark h = let up = h.later in record { j = h.j; q = h.q; later = omega (arith, up); part = h.part; key = h.key }

    -- a key from this alternative on is its own, or a later one's
    from_here : (word : List ℕ) (mark : Bool) (h : HasKeyFrom d octet parts i word mark)
        → HasKeyFrom d octet parts (i + 1) word mark ⊎ (IsPart d octet parts i p × InKeys d 12 p octet word mark)
    from_here word mark h =
        let up = h.later in
        elim (order h.j i) [
          | first_less lower ↦ absurd (omega (arith, lower, up))
          | equal_numbers same ↦
              let there = h.part.is_part in
              let one : h.q ≡ p = cc in
              inr (record { is_part = at; real = subst (λ (k : ℕ). ¬ IsNull d k) one h.part.real }, subst (λ (k : ℕ). InKeys d 12 k octet word mark) one h.key)
          | second_less higher ↦ inl (record { j = h.j; q = h.q; later = omega (arith, higher); part = h.part; key = h.key })
        ]

    pub keys_null : (marks : List ℕ) → IsNull d p → KeysAre marks (HasKeyFrom d octet parts (i + 1)) → KeysAre marks (HasKeyFrom d octet parts i)
    keys_null marks null are word mark is = (
      (λ h. from_next word mark ((are word mark is).0 h)),
      (λ h. elim (from_here word mark h) [
        | inl next ↦ (are word mark is).1 next
        | inr here ↦ absurd (here.0.real null)
      ]),
    )

    pub keys_more : (old own new : List ℕ) → ¬ IsNull d p → KeysAre own (InKeys d 12 p octet)
        → Adds old new (λ key mark. IsTrue (has_key own key mark)) → KeysAre old (HasKeyFrom d octet parts (i + 1))
        → KeysAre new (HasKeyFrom d octet parts i)
    keys_more old own new real are_own adds are word mark is = (
      (λ h. elim ((adds word mark is).0 h) [
        | inl before ↦ from_next word mark ((are word mark is).0 before)
        | inr here ↦ record { j = i; q = p; later = omega arith; part = record { is_part = at; real = real }; key = (are_own word mark is).0 here }
      ]),
      (λ h. (adds word mark is).1 (elim (from_here word mark h) [
        | inl next ↦ inl ((are word mark is).1 next)
        | inr here ↦ inr ((are_own word mark is).1 here.1)
      ])),
    )

    pub null_overlaps : IsNull d p → ¬ Overlaps d octet parts i
    null_overlaps null o =
        let there = o.part.is_part in
        let one : o.p ≡ p = cc in
        o.part.real (subst (λ (k : ℕ). IsNull d k) (sym one) null)

    module _ (real : ¬ IsNull d p) (own : List ℕ) (are_own : KeysAre own (InKeys d 12 p octet)) (marks : List ℕ)
        (are : KeysAre marks (HasKeyFrom d octet parts (i + 1))) where
      overlaps_met : Overlaps d octet parts i → MeetUnder marks own []
      overlaps_met o =
          let there = o.part.is_part in
          let one : o.p ≡ p = cc in
          let key = subst (λ (k : ℕ). HasKey d octet k o.word_i) one o.key_i in
          record {
            v = under_none marks o.word_j o.mark_j (HasKeyFrom d octet parts (i + 1)) are (key_word d o.key_j.key) o.key_j;
            w = key_of_node d octet p o.word_i own are_own key;
            begun = swapped o.word_i o.word_j o.begun;
          }

      met_overlaps : MeetUnder marks own [] → Overlaps d octet parts i
      met_overlaps m =
          record {
            p = p;
            word_i = m.w.key;
            word_j = m.v.key;
            mark_j = m.v.mark;
            part = record { is_part = at; real = real };
            key_i = (m.w.mark, (are_own m.w.key m.w.mark m.w.is_word).0 m.w.in_set);
            key_j = (are m.v.key m.v.mark m.v.is_word).0 m.v.in_set;
            begun = swapped m.v.key m.w.key m.begun;
          }

      -- the test whether its table meets that of the later ones tells it
      pub meets_tell : (b : Bool) (word : List ℕ) → word ≡ [] → (IsTrue b ↔ MeetUnder marks own word) → IsTrue b ↔ Overlaps d octet parts i
      meets_tell b word empty tells = (
        (λ shown. met_overlaps (subst (λ (w : List ℕ). MeetUnder marks own w) empty (tells.0 shown))),
        (λ o. tells.1 (subst (λ (w : List ℕ). MeetUnder marks own w) (sym empty) (overlaps_met o))),
      )
