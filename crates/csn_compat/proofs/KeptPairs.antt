-- Only the pairs whose old field some count stands on matter.
use Rattle.std.proofs.Common.{◌≡◌, ℕ, ◌==◌, ◌&&◌, ◌||◌, Bool, true, false, if◌then◌else◌, IsTrue, List, [], ◌∷◌, ◌++◌, refl, sym, ◌∙◌, ap, Some, eqb-true}
use Rattle.std.specs.Prelude.{slice_get}
use Rattle.std.specs.List.{list_any}
use Rattle.std.proofs.lemmas.Bool.{eq-eqb}
use Rattle.std.proofs.lemmas.List.Folds.{list_any-append, list_any_at}
use Rattle.std.proofs.lemmas.Option.{slice_get_within, get_or_from_slice_get}
use Rattle.csn_desc.specs.declared.node.Count.{Count}
use Rattle.csn_desc.specs.declared.node.Count.TheVariants.{Fixed, Counted}
use Rattle.csn_desc.specs.declared.node.Node.{Node}
use Rattle.csn_desc.specs.declared.node.Node.TheVariants.{Lits, Spare, Pad, Null, Field, Times, Many, Trunc, Window}
use Rattle.csn_desc.specs.Nodes.{DescV}
use Rattle.csn_desc.specs.Formed.{value_width, counts_on, node_counts_on, is_counted}
use Rattle.csn_compat.specs.declared.pairs.Pair.{Pair}
use Rattle.csn_compat.specs.Pairs.{are_paired, same_width, with_pair, with_kept, CountsAgree}
use Rattle.csn_compat.specs.Takes.{LeafTakes, takes_leaf, Takes, NodeTakes, PartsTake, LeadTake, takes_at}
use Rattle.csn_compat.specs.Takes.{takes_labelled, takes_by_labelled, takes_by_rest, takes_choice, takes_by_choice}
use Rattle.csn_compat.specs.Takes.{takes_seq, takes_times, takes_many, takes_trunc, takes_window, parts_taken}
use Rattle.csn_compat.specs.Takes.{parts_take, parts_taken_by_rest, lead_taken, lead_takes}

-- of the fields that counts stand on, the same ones are pairs
pub record SamePairs (was : DescV) (pairs others : List Pair) : Type 0 where
  pub same : (field taker : ℕ) → IsTrue (is_counted was.nodes field) → are_paired pairs field taker ≡ are_paired others field taker

pub same_pairs : (was : DescV) (pairs : List Pair) → SamePairs was pairs pairs
same_pairs was pairs = record { same = λ field taker is. refl }

pub other_way : (was : DescV) (pairs others : List Pair) → SamePairs was pairs others → SamePairs was others pairs
other_way was pairs others h = record { same = λ field taker is. sym (h.same field taker is) }

module _ (was now : DescV) where
  -- a pair more on both sides
  one_more : (pairs others more : List Pair) (field taker : ℕ)
      → are_paired pairs field taker ≡ are_paired others field taker
      → are_paired (pairs ++ more) field taker ≡ are_paired (others ++ more) field taker
  one_more pairs others more field taker same =
      let test : Pair → Bool = λ pair. pair.before == field && pair.after == taker in
      list_any-append test pairs more
      ∙ ap (λ b. b || list_any test more) same
      ∙ sym (list_any-append test others more)

  pub same_next : (p q : ℕ) (pairs others : List Pair)
      → SamePairs was pairs others → SamePairs was (with_pair was now p q pairs) (with_pair was now p q others)
  same_next p q pairs others h =
      record {
        same = λ field taker is. at field taker
            (same_width (value_width was.nodes p) (value_width now.nodes q)) (h.same field taker is);
      }
    where
      at : (field taker : ℕ) (wide : Bool) → are_paired pairs field taker ≡ are_paired others field taker
          → are_paired (if wide then pairs ++ record { before = p; after = q } ∷ [] else pairs)
          field taker ≡ are_paired (if wide then others ++ record { before = p; after = q } ∷ [] else others)
          field taker
      at field taker true same = one_more pairs others (record { before = p; after = q } ∷ []) field taker same
      at field taker false same = same

  -- a pair whose old field no count stands on
  not_missed : (p q : ℕ) (others : List Pair) (field taker : ℕ) → is_counted was.nodes p ≡ false
      → IsTrue (is_counted was.nodes field) → are_paired (others ++ record { before = p; after = q } ∷ [])
      field taker ≡ are_paired others field taker
  not_missed p q others field taker uncounted counted =
      let test : Pair → Bool = λ pair. pair.before == field && pair.after == taker in
      list_any-append test others (record { before = p; after = q } ∷ [])
      ∙ ap (λ b. list_any test others || (b && q == taker || false)) (differ (p == field) refl)
      ∙ or_none (list_any test others)
    where
      or_none : (b : Bool) → (b || false) ≡ b
      or_none true = refl
      or_none false = refl

      differ : (same : Bool) → (p == field) ≡ same → (p == field) ≡ false
      differ true is =
          let equal = eqb-true p field is in
          let wrong : is_counted was.nodes p ≡ true = ap (is_counted was.nodes) equal ∙ counted in
          absurd (cc)
      differ false is = is

  pub same_kept : (p q : ℕ) (pairs others : List Pair)
      → SamePairs was pairs others → SamePairs was (with_kept was now p q pairs) (with_pair was now p q others)
  same_kept p q pairs others h = record {
    same = λ field taker is. at field taker is (is_counted was.nodes p) refl
        (same_width (value_width was.nodes p) (value_width now.nodes q)) (h.same field taker is);
  }
    where
      at : (field taker : ℕ) → IsTrue (is_counted was.nodes field) → (counted : Bool)
          → is_counted was.nodes p ≡ counted → (wide : Bool)
          → are_paired pairs field taker ≡ are_paired others field taker
          → are_paired (if counted then (if wide then pairs ++ record { before = p; after = q } ∷ [] else pairs)
          else pairs) field taker ≡ are_paired (if wide then others ++ record { before = p; after = q }
          ∷ [] else others) field taker
      at field taker is true here true same = one_more pairs others (record { before = p; after = q } ∷ []) field taker same
      at field taker is true here false same = same
      at field taker is false here true same = same ∙ sym (not_missed p q others field taker here is)
      at field taker is false here false same = same

  -- ---- what is taken

  -- a count of a node stands on its field
  counted_here : (i field : ℕ) (n : Node) → slice_get was.nodes i ≡ Some n → node_counts_on field n ≡ true → is_counted was.nodes field ≡ true
  counted_here i field n at on =
      list_any_at (node_counts_on field) was.nodes i n (slice_get_within was.nodes i n at)
      (ap (node_counts_on field) (get_or_from_slice_get was.nodes i n n at) ∙ on)

  counts_along : (pairs others : List Pair) (unit other : ℕ) (count taker : Count)
      → SamePairs was pairs others → ((field : ℕ) → counts_on field count ≡ true → is_counted was.nodes field ≡ true)
      → CountsAgree pairs unit count other taker → CountsAgree others unit count other taker
  counts_along pairs others unit other (Fixed n) (Fixed k) h on agree = agree
  counts_along pairs others unit other (Counted m field c) (Counted k taker e) h on agree =
      (agree.0, agree.1, agree.2, sym (h.same field taker (on field (eq-eqb field field refl))) ∙ agree.3)
  counts_along pairs others unit other (Fixed n) (Counted m taker e) h on agree = agree
  counts_along pairs others unit other (Counted m field c) (Fixed k) h on agree = agree

  leaf_along : (i : ℕ) (n m : Node) (pairs others : List Pair) → slice_get was.nodes i ≡ Some n
      → SamePairs was pairs others → LeafTakes pairs n m → LeafTakes others n m
  leaf_along i (Field unit count) (Field other taker) pairs others at h agree =
      counts_along pairs others unit other count taker h (λ field on. counted_here i field (Field unit count) at on) agree
  leaf_along i Null Null pairs others at h is = is
  leaf_along i Null (Many other) pairs others at h is = is
  leaf_along i Null (Trunc other) pairs others at h is = is
  leaf_along i (Lits run) (Lits other) pairs others at h is = is
  leaf_along i (Lits run) (Field unit (Fixed n)) pairs others at h is = is
  leaf_along i (Spare symbol) (Spare other) pairs others at h is = is
  leaf_along i (Spare symbol) (Field unit (Fixed n)) pairs others at h is = is
  leaf_along i Pad Pad pairs others at h is = is
  leaf_along i _ _ pairs others at h is = absurd is

  mutual
    pub takes_along : {i j : ℕ} {pairs : List Pair} → Takes was now i j pairs → (others : List Pair) → SamePairs was pairs others → Takes was now i j others
    takes_along (takes_at n m at_i at_j h) others same = takes_at n m at_i at_j (node_along h others at_i same)

    node_along : {i j : ℕ} {n m : Node} {pairs : List Pair} → NodeTakes was now i n j m pairs → (others : List Pair)
        → slice_get was.nodes i ≡ Some n → SamePairs was pairs others → NodeTakes was now i n j m others
    node_along (takes_labelled h) others at same = takes_labelled (takes_along h others same)
    node_along (takes_by_labelled not_label h) others at same = takes_by_labelled not_label (takes_along h others same)
    node_along (takes_by_rest not_label) others at same = takes_by_rest not_label
    node_along (takes_choice other each) others at same = takes_choice other (λ k p there. takes_along (each k p there) others same)
    node_along (takes_by_choice k q other there h) others at same = takes_by_choice k q other there (takes_along h others same)
    node_along (takes_leaf {i = i} {n = n} {m = m} {pairs = pairs} h) others at same = takes_leaf (leaf_along i n m pairs others at same h)
    node_along (takes_seq h) others at same = takes_seq (parts_along h others same)
    node_along (takes_times {i = i} {p = p} {count = count} {taker = taker} {pairs = pairs} counts h) others at same =
        takes_times (counts_along pairs others 1 1 count taker same (λ field on. counted_here i field (Times count p)
        at on) counts) (takes_along h others same)
    node_along (takes_many h) others at same = takes_many (takes_along h others same)
    node_along (takes_trunc h) others at same = takes_trunc (lead_along h others same)
    node_along (takes_window {i = i} {p = p} {unit = unit} {other = other} {count = count} {taker = taker} {pairs = pairs} counts h) others at same =
        takes_window (counts_along pairs others unit other count taker same
        (λ field on. counted_here i field (Window unit count p) at on) counts) (takes_along h others same)

    parts_along : {parts takers : List ℕ} {pairs : List Pair} → PartsTake was now parts takers pairs
        → (others : List Pair) → SamePairs was pairs others → PartsTake was now parts takers others
    parts_along parts_taken others same = parts_taken
    parts_along (parts_take {p = p} {q = q} {pairs = pairs} h rest) others same =
        parts_take (takes_along h others same) (parts_along rest (with_pair was now p q others) (same_next p q pairs others same))
    parts_along (parts_taken_by_rest any) others same = parts_taken_by_rest any

    lead_along : {parts takers : List ℕ} {pairs : List Pair} → LeadTake was now parts takers pairs
        → (others : List Pair) → SamePairs was pairs others → LeadTake was now parts takers others
    lead_along lead_taken others same = lead_taken
    lead_along (lead_takes {p = p} {q = q} {pairs = pairs} h rest) others same =
        lead_takes (takes_along h others same) (lead_along rest (with_pair was now p q others) (same_next p q pairs others same))
