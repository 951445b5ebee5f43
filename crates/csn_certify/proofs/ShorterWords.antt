-- What is a conflict where words are longer is one where they are shorter.
use Rattle.std.proofs.Common.{◌≡◌, ℕ, zero, suc, ◌<◌, ◌≤◌, ◌⊎◌, inl, inr, Bool, true, false, List, [], ◌∷◌, ◌++◌}
use Rattle.std.proofs.Common.{length, take, refl, sym, ap, ◌∙◌, arith, length-append}
use Rattle.std.proofs.lemmas.Bool.Decides.{leb_tells}
use Rattle.std.proofs.lemmas.List.{take-append-le}
use Rattle.csn_desc.specs.declared.node.Node.{Node}
use Rattle.csn_desc.specs.Nodes.{DescV}
use Rattle.csn_look.specs.Keys.{Cut, kept, cut, InKeys, NodeKeys, PartsKeys, TimesKeys, HasEmptyKey, IsNotFirm}
use Rattle.csn_look.specs.Keys.{keys_lits, keys_spare, keys_field, keys_pad, keys_null, keys_rest, keys_many}
use Rattle.csn_look.specs.Keys.{keys_trunc, keys_window, keys_counted_field, keys_counted_times, keys_seq, keys_times}
use Rattle.csn_look.specs.Keys.{keys_choice, keys_named, parts_none, parts_cut, parts_whole, times_none, times_cut}
use Rattle.csn_look.specs.Keys.{times_whole}
use Rattle.csn_equations.specs.Keys as equation
use Rattle.csn_look.proofs.Meaning.LeastSets.{keys_at, KeysWith, each_key}
use Rattle.csn_certify.specs.declared.conflict.Conflict.{Conflict}
use Rattle.csn_certify.specs.Conflicts.{IsConflict, IsBegunBy, two_empty, choice_not_firm, many_not_firm}
use Rattle.csn_certify.specs.Conflicts.{times_not_firm, overlap, empty_clash, loop_clash, not_last}

-- ---- first bits

take-shorter : (n m : ℕ) (w : List ℕ) → n ≤ m → take n (take m w) ≡ take n w
take-shorter zero m w less = refl
take-shorter (suc n) zero w less = absurd (omega arith)
take-shorter (suc n) (suc m) [] less = refl
take-shorter (suc n) (suc m) (x ∷ w) less = ap (λ l. x ∷ l) (take-shorter n m w (omega arith))

take-behind : (n m : ℕ) (a w : List ℕ) → n ≤ m → take n (a ++ take m w) ≡ take n (a ++ w)
take-behind n m [] w less = take-shorter n m w less
take-behind zero m (x ∷ a) w less = refl
take-behind (suc n) m (x ∷ a) w less = ap (λ l. x ∷ l) (take-behind n m a w (omega arith))

take-short : (n : ℕ) (w : List ℕ) → length w ≤ n → take n w ≡ w
take-short zero [] short = refl
take-short zero (x ∷ w) short = absurd (omega arith)
take-short (suc n) [] short = refl
take-short (suc n) (x ∷ w) short = ap (λ l. x ∷ l) (take-short n w (omega arith))

take_begun : (n : ℕ) (y rest : List ℕ) → IsBegunBy (take n (y ++ rest)) (take n y)
take_begun zero y rest = ([], refl)
take_begun (suc n) [] rest = (take (suc n) rest, refl)
take_begun (suc n) (a ∷ y) rest = let later = take_begun n y rest in (later.0, ap (λ l. a ∷ l) later.1)

-- ---- cut words

-- a cut word is the first bits, and says whether it is all
abbrev Marked : ℕ → List ℕ → Bool → Bool → Type 0
Marked n w whole mark = ((length w ≤ n) × (mark ≡ whole)) ⊎ ((n < length w) × (mark ≡ false))

cut_word : {n : ℕ} {w x : List ℕ} {whole mark : Bool} → Cut n w whole x mark → x ≡ take n w
cut_word {n} {w} (kept short is same) = is ∙ sym (take-short n w short)
cut_word (cut long is same) = is

cut_mark : {n : ℕ} {w x : List ℕ} {whole mark : Bool} → Cut n w whole x mark → Marked n w whole mark
cut_mark (kept short is same) = inl (short, same)
cut_mark (cut long is same) = inr (long, same)

to_cut : {n : ℕ} {w x : List ℕ} {whole mark : Bool} → x ≡ take n w → Marked n w whole mark → Cut n w whole x mark
to_cut {n} {w} is (inl short) = kept short.0 (is ∙ take-short n w short.0) short.1
to_cut is (inr long) = cut long.0 is long.1

record Cutting (n : ℕ) (w : List ℕ) (whole : Bool) : Type 0 where
  word : List ℕ
  mark : Bool
  is : Cut n w whole word mark

cutting : (n : ℕ) (w : List ℕ) (whole : Bool) → Cutting n w whole
cutting n w whole =
    elim (leb_tells (length w) n) [
      | inl short ↦ record { word = w; mark = whole; is = kept short.1 refl refl }
      | inr long ↦ record { word = take n w; mark = false; is = cut long.1 refl refl }
    ]

cut_none : {n : ℕ} {w x : List ℕ} {whole mark : Bool} → w ≡ [] → Cut n w whole x mark → (x ≡ []) × (mark ≡ whole)
cut_none nothing (kept short is same) = (is ∙ nothing, same)
cut_none nothing (cut long is same) = let count = ap length nothing in absurd (omega (arith, count))

cut_false : {n : ℕ} {w x : List ℕ} {whole mark : Bool} → whole ≡ false → Cut n w whole x mark → (mark ≡ false) × Cut n w false x false
cut_false falsely (kept short is same) = (same ∙ falsely, kept short is refl)
cut_false falsely (cut long is same) = (same, cut long is refl)

marked_twice : {n m : ℕ} (w : List ℕ) {x : List ℕ} {whole mark last : Bool}
    → n ≤ m → x ≡ take m w → Marked m w whole mark → Marked n x mark last → Marked n w whole last
marked_twice {n} {m} w less is (inl first) (inl second) =
    let same = ap length (is ∙ take-short m w first.0) in inl (omega (arith, same), second.1 ∙ first.1)
marked_twice {n} {m} w less is (inl first) (inr second) =
    let same = ap length (is ∙ take-short m w first.0) in inr (omega (arith, same), second.1)
marked_twice w less is (inr first) (inl second) = let long = first.0 in inr (omega arith, second.1 ∙ first.1)
marked_twice w less is (inr first) (inr second) = let long = first.0 in inr (omega arith, second.1)

-- a word cut twice is cut to the shorter length
cut_twice : {n m : ℕ} {w x z : List ℕ} {whole mark last : Bool} → n ≤ m → Cut m w whole x mark → Cut n x mark z last → Cut n w whole z last
cut_twice {n} {m} {w} less first second =
    to_cut (cut_word second ∙ ap (take n) (cut_word first) ∙ take-shorter n m w less) (marked_twice w less (cut_word first) (cut_mark first) (cut_mark second))

marked_behind : {n : ℕ} (w1 w2 x2 : List ℕ) {whole mark last : Bool} → x2 ≡ take n w2 → Marked n w2 whole mark
    → Marked n (w1 ++ w2) whole last → Marked n (w1 ++ x2) mark last
marked_behind {n} w1 w2 x2 is (inl first) (inl second) =
    let same = ap (λ l. length (w1 ++ l)) (is ∙ take-short n w2 first.0) in
    let short = second.0 in
    inl (omega (arith, same), second.1 ∙ sym first.1)
marked_behind {n} w1 w2 x2 is (inl first) (inr second) =
    let same = ap (λ l. length (w1 ++ l)) (is ∙ take-short n w2 first.0) in
    let long = second.0 in
    inr (omega (arith, same), second.1)
marked_behind {n} w1 w2 x2 is (inr first) (inl second) =
    let long = first.0 in let short = second.0 in let sum = length-append w1 w2 in absurd (omega (arith, sum))
marked_behind {n} w1 w2 x2 is (inr first) (inr second) =
    elim (leb_tells (length (w1 ++ x2)) n) [
      | inl short ↦ inl (short.1, second.1 ∙ sym first.1)
      | inr long ↦ inr (long.1, second.1)
    ]

-- a word that is cut behind another one, and then both together
cut_behind : {n : ℕ} (w1 w2 x2 : List ℕ) {z : List ℕ} {whole mark last : Bool}
    → Cut n w2 whole x2 mark → Cut n (w1 ++ w2) whole z last → Cut n (w1 ++ x2) mark z last
cut_behind {n} w1 w2 x2 first second =
    to_cut (cut_word second ∙ sym (take-behind n n w1 w2 (omega arith)) ∙ ap (λ l. take n (w1 ++ l)) (sym (cut_word first)))
    (marked_behind w1 w2 x2 (cut_word first) (cut_mark first) (cut_mark second))

-- where the first of two words is too long, the other one does not count
cut_before : {n : ℕ} (w1 w2 : List ℕ) {z : List ℕ} {whole last : Bool} → n < length w1 → Cut n (w1 ++ w2) whole z last → (last ≡ false) × Cut n w1 true z false
cut_before {n} w1 w2 {z} long both =
    let sum = length-append w1 w2 in
    let most : n ≤ length w1 = omega arith in
    let first : Cut n w1 true z false = cut long (cut_word both ∙ take-append-le n w1 w2 most) refl in
    elim (cut_mark both) [
      | inl short ↦ let few = short.0 in absurd (omega (arith, sum))
      | inr same ↦ (same.1, first)
    ]

-- ---- keys

module _ (d : DescV) (n m : ℕ) (less : n ≤ m) where
  -- a key that is cut to a smaller length is a key of that length
  abbrev KeyCut : ℕ → ℕ → List ℕ → Bool → Type 0
  KeyCut i o x mark = (z : List ℕ) (last : Bool) → Cut n x mark z last → InKeys d n i o z last

  parts_key_cut : {parts : List ℕ} {o : ℕ} {x z : List ℕ} {mark last : Bool} → equation.PartsKeys m (KeysWith d m KeyCut) parts o x mark
      → Cut n x mark z last → PartsKeys d n parts o z last
  parts_key_cut (parts_none e f) c = let same = cut_none e c in parts_none same.0 (same.1 ∙ f)
  parts_key_cut (parts_cut h f) c = let both = cut_false f c in parts_cut (h.1 _ _ both.1) both.0
  parts_key_cut (parts_whole w1 w2 rest h hs both) c =
      let second = cutting n w2 rest in
      let all = cut_twice less both c in
      elim (leb_tells (length w1) n) [
        | inl short ↦ parts_whole w1 second.word second.mark (h.1 _ _ (kept short.1 refl refl))
            (parts_key_cut hs second.is) (cut_behind w1 w2 second.word second.is all)
        | inr long ↦ let front = cut_before w1 w2 long.1 all in parts_cut (h.1 _ _ front.1) front.0
      ]

  times_key_cut : {k i o : ℕ} {x z : List ℕ} {mark last : Bool} → equation.TimesKeys m (KeysWith d m KeyCut) k i o x mark
      → Cut n x mark z last → TimesKeys d n k i o z last
  times_key_cut (times_none over e f) c = let same = cut_none e c in times_none over same.0 (same.1 ∙ f)
  times_key_cut (times_cut l is h f) c = let both = cut_false f c in times_cut l is (h.1 _ _ both.1) both.0
  times_key_cut (times_whole l is w1 w2 rest h hs both) c =
      let second = cutting n w2 rest in
      let all = cut_twice less both c in
      elim (leb_tells (length w1) n) [
        | inl short ↦ times_whole l is w1 second.word second.mark (h.1 _ _ (kept short.1 refl refl))
            (times_key_cut hs second.is) (cut_behind w1 w2 second.word second.is all)
        | inr long ↦ let front = cut_before w1 w2 long.1 all in times_cut l is (h.1 _ _ front.1) front.0
      ]

  node_cut : {node : Node} {o : ℕ} {x z : List ℕ} {mark last : Bool} → equation.NodeKeys d m (KeysWith d m KeyCut) node o x mark
      → Cut n x mark z last → NodeKeys d n node o z last
  node_cut (keys_lits h) c = keys_lits (cut_twice less h c)
  node_cut (keys_spare w one spare h) c = keys_spare w one spare (cut_twice less h c)
  node_cut (keys_field w wide bits h) c = keys_field w wide bits (cut_twice less h c)
  node_cut (keys_pad w one spare h) c = keys_pad w one spare (cut_twice less h c)
  node_cut (keys_null e f) c = let same = cut_none e c in keys_null same.0 (same.1 ∙ f)
  node_cut (keys_rest e f) c = let same = cut_none e c in keys_rest same.0 (same.1 ∙ f)
  node_cut (keys_many e f) c = let same = cut_none e c in keys_many same.0 (same.1 ∙ f)
  node_cut (keys_trunc e f) c = let same = cut_none e c in keys_trunc same.0 (same.1 ∙ f)
  node_cut (keys_window e f) c = let same = cut_none e c in keys_window same.0 (same.1 ∙ f)
  node_cut (keys_counted_field e f) c = let same = cut_none e c in keys_counted_field same.0 (same.1 ∙ f)
  node_cut (keys_counted_times e f) c = let same = cut_none e c in keys_counted_times same.0 (same.1 ∙ f)
  node_cut (keys_seq h) c = keys_seq (parts_key_cut h c)
  node_cut (keys_times h) c = keys_times (times_key_cut h c)
  node_cut (keys_choice j at h) c = keys_choice j at (h.1 _ _ c)
  node_cut (keys_named h) c = keys_named (h.1 _ _ c)

  pub key_cut : {i o : ℕ} {x z : List ℕ} {mark last : Bool} → InKeys d m i o x mark → Cut n x mark z last → InKeys d n i o z last
  key_cut h c = each_key KeyCut (λ i o x mark made z last shorter. keys_at made.node made.at (node_cut made.has shorter)) h _ _ c

  empty_cut : {i : ℕ} → HasEmptyKey d m i → HasEmptyKey d n i
  empty_cut h = (h.0, h.1, h.2, key_cut h.3 (kept (omega arith) refl refl))

  unfirm_cut : {i : ℕ} → IsNotFirm d m i → IsNotFirm d n i
  unfirm_cut (inl none) = inl none
  unfirm_cut (inr h) = inr (empty_cut h)

  begun_cut : (w v : List ℕ) {x y : List ℕ} → x ≡ take n w → y ≡ take n v → IsBegunBy w v → IsBegunBy x y
  begun_cut w v long short h =
      let first = take_begun n v h.0 in
      (first.0, long ∙ ap (take n) h.1 ∙ first.1 ∙ ap (λ l. l ++ first.0) (sym short))

  either_cut : (w v : List ℕ) {x y : List ℕ} → x ≡ take n w → y ≡ take n v → IsBegunBy w v ⊎ IsBegunBy v w → IsBegunBy x y ⊎ IsBegunBy y x
  either_cut w v left right (inl h) = inl (begun_cut w v left right h)
  either_cut w v left right (inr h) = inr (begun_cut v w right left h)

  -- ---- conflicts

  pub conflict_cut : {c : Conflict} → IsConflict d m c → (e : Conflict) × IsConflict d n e
  conflict_cut (two_empty at more i j p q) = (_, two_empty at more i j p q)
  conflict_cut (choice_not_firm at i real h) = (_, choice_not_firm at i real (unfirm_cut h))
  conflict_cut (many_not_firm at i h) = (_, many_not_firm at i (unfirm_cut h))
  conflict_cut (times_not_firm at i h) = (_, times_not_firm at i h)
  conflict_cut (overlap {word_i = wi} {word_j = wj} mark_i mark_j at reached more i j real_i real_j key_i key_j h) =
      let left = cutting n wi mark_i in
      let right = cutting n wj mark_j in (
        _,
        overlap left.mark right.mark at reached more i j real_i real_j (key_cut key_i left.is)
            (key_cut key_j right.is) (either_cut wi wj (cut_word left.is) (cut_word right.is) h),
      )
  conflict_cut (empty_clash at reached i null j other start follow) = (_, empty_clash at reached i null j other start follow)
  conflict_cut (loop_clash at reached start follow) = (_, loop_clash at reached start follow)
  conflict_cut (not_last node from at last reached ends follow) = (_, not_last node from at last reached ends follow)
