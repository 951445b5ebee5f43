-- Keys in the order of their words, and words that meet a set of keys.
use Rattle.std.proofs.Common.{◌≡◌, ℕ, zero, suc, ◌+◌, ◌<◌, ◌≤◌, ◌⊎◌, inl, inr, Bool, List, [], ◌∷◌, ◌++◌, length}
use Rattle.std.proofs.Common.{refl, sym, ◌∙◌, ap, subst, arith, Some, None, slice_get, append-nil, length-append}
use Rattle.std.specs.Prelude.{IsTrue}
use Rattle.std.proofs.lemmas.Option.{slice_get_within}
use Rattle.csn_desc.proofs.BitFacts.{IsBits-front, IsBits-along}
use Rattle.csn_look.specs.declared.word.Key.{Key}
use Rattle.csn_look.specs.KeyMarks.{IsWord, has_key, KeysAre}
use Rattle.csn_look.specs.KeyLists.{IsBefore, cut_first, shorter, lower, IsBeforeAll, IsRising}
use Rattle.csn_claims.proofs.Pieces.{order, equal_numbers, first_less, second_less}
use Rattle.csn_certify.specs.Conflicts.{text_of, NotAfter}
use Rattle.csn_certify.specs.Search.{IsLeastFrom}
use Rattle.csn_certify.specs.Overlaps.{AreBegun, Meets, MeetsAt}
use Rattle.csn_certify.proofs.Searching.{first_of_one}

-- ---- words as texts

-- a word before another one, as a text, is before it whatever follows both, or is the same
pub text_first : (v w : List ℕ) → NotAfter (text_of v) (text_of w) → (v ≡ w) ⊎ ((xs ys : List ℕ) → NotAfter (text_of v ++ xs) (text_of w ++ ys))
text_first [] [] h = inl refl
text_first [] (b ∷ w) h = inr (λ xs ys. inl (omega arith))
text_first (a ∷ v) [] (inl less) = absurd (omega (arith, less))
text_first (a ∷ v) [] (inr same) = let e = same.0 in absurd (omega (arith, e))
text_first (a ∷ v) (b ∷ w) (inl less) = inr (λ xs ys. inl less)
text_first (a ∷ v) (b ∷ w) (inr same) =
    let e = same.0 in
    let one : a ≡ b = omega (arith, e) in
    elim (text_first v w same.1) [
      | inl words ↦ inl (cc)
      | inr further ↦ inr (λ xs ys. inr (e, further xs ys))
    ]

text_behind : (front v w : List ℕ) → NotAfter (text_of v) (text_of w) → NotAfter (text_of (front ++ v)) (text_of (front ++ w))
text_behind [] v w h = h
text_behind (a ∷ front) v w h = inr (refl, text_behind front v w h)

text_shorter : (front : List ℕ) (next : ℕ) (back : List ℕ) → NotAfter (text_of front) (text_of (front ++ next ∷ back))
text_shorter [] next back = inl (omega arith)
text_shorter (a ∷ front) next back = inr (refl, text_shorter front next back)

-- a key before another one has a word before its word
pub text_before : (a b : Key) → IsBefore a b → NotAfter (text_of a.word) (text_of b.word)
text_before a b (cut_first same less more) = subst (λ (w : List ℕ). NotAfter (text_of a.word) (text_of w)) same (first_of_one (text_of a.word))
text_before a b (shorter front) = subst (λ (w : List ℕ). NotAfter (text_of a.word) (text_of w)) (sym front.parts) (text_shorter a.word front.next front.back)
text_before a b (lower front x y is_a is_b) =
    subst (λ (w : List ℕ). NotAfter (text_of w) (text_of b.word)) (sym is_a)
    (subst (λ (w : List ℕ). NotAfter (text_of (front ++ 0 ∷ x)) (text_of w)) (sym is_b) (text_behind front (0 ∷ x) (1 ∷ y) (inl (omega arith))))

-- ---- lists of keys

before_at : (key other : Key) (keys : List Key) (n : ℕ) → IsBeforeAll key keys → slice_get keys n ≡ Some other → IsBefore key other
before_at key other [] n before at = absurd (cc)
before_at key other (next ∷ keys) zero before at = let same : next ≡ other = cc in subst (λ (k : Key). IsBefore key k) same before.0
before_at key other (next ∷ keys) (suc n) before at = before_at key other keys n before.1 at

rising_at : (keys : List Key) (m n : ℕ) (a b : Key) → IsRising keys → slice_get keys m ≡ Some a → slice_get keys n ≡ Some b → m < n → IsBefore a b
rising_at [] m n a b rising at_m at_n less = absurd (cc)
rising_at (key ∷ keys) zero zero a b rising at_m at_n less = absurd (omega (arith, less))
rising_at (key ∷ keys) zero (suc n) a b rising at_m at_n less =
    let same : key ≡ a = cc in subst (λ (k : Key). IsBefore k b) same (before_at key b keys n rising.0 at_n)
rising_at (key ∷ keys) (suc m) zero a b rising at_m at_n less = absurd (omega (arith, less))
rising_at (key ∷ keys) (suc m) (suc n) a b rising at_m at_n less = rising_at keys m n a b rising.1 at_m at_n (omega (arith, less))

-- the word of an earlier key is not after that of a later one
pub text_at : (keys : List Key) (m n : ℕ) (a b : Key) → IsRising keys → slice_get keys m ≡ Some a
    → slice_get keys n ≡ Some b → m ≤ n → NotAfter (text_of a.word) (text_of b.word)
text_at keys m n a b rising at_m at_n most =
    elim (order m n) [
      | first_less less ↦ text_before a b (rising_at keys m n a b rising at_m at_n less)
      | equal_numbers same ↦ let one : a ≡ b = cc in subst (λ (k : Key). NotAfter (text_of a.word) (text_of k.word)) one (first_of_one (text_of a.word))
      | second_less more ↦ absurd (omega (arith, most, more))
    ]

-- ---- words that meet a set

-- a key of the set, and the word, of which one begins the other
pub record MeetsWith (P : List ℕ → Bool → Type 0) (word : List ℕ) : Type 0 where
  pub other : List ℕ
  pub mark : Bool
  pub key : P other mark
  pub begun : AreBegun word other

module _ (marks : List ℕ) (P : List ℕ → Bool → Type 0) (are : KeysAre marks P) (word : List ℕ) (is : IsWord word) where
  pub meets_with : Meets marks word → MeetsWith P word
  meets_with (inl b) =
      let bits = IsBits-front b.front b.back (IsBits-along (sym b.parts) is.bits) in
      let size = ap length b.parts in
      let short = is.short in
      let front : IsWord b.front = record { bits = bits; short = omega (arith, size, short, length-append b.front b.back) } in
      record { other = b.front; mark = b.whole; key = (are b.front b.whole front).0 b.key; begun = inl (b.back, b.parts) }
  meets_with (inr s) =
      record {
        other = word ++ s.next ∷ s.back;
        mark = s.whole;
        key =
            (are (word ++ s.next ∷ s.back) s.whole s.word).0 s.key;
        begun = inr (s.next ∷ s.back, refl);
      }

  pub with_meets : (other : List ℕ) (mark : Bool) → IsWord other → P other mark → AreBegun word other → Meets marks word
  with_meets other mark good key (inl long) =
      inl (record { front = other; back = long.0; parts = long.1; whole = mark; key = (are other mark good).1 key })
  with_meets other mark good key (inr long) = longer long.0 long.1
    where
      longer : (rest : List ℕ) → other ≡ word ++ rest → Meets marks word
      longer [] same =
          let one : other ≡ word = same ∙ append-nil word in
          inl (record { front = other; back = []; parts = sym one ∙ sym (append-nil other); whole = mark; key = (are other mark good).1 key })
      longer (next ∷ back) same =
          inr (record {
            next = next;
            back = back;
            whole = mark;
            word = subst IsWord same good;
            key = subst (λ (w : List ℕ). IsTrue (has_key marks w mark)) same ((are other mark good).1 key);
          })

-- ---- the first of a list that meets a set

module _ (marks : List ℕ) (keys : List Key) where
  abbrev pub NoneMeetBelow : ℕ → Type 0
  NoneMeetBelow count = (n : ℕ) → n < count → ¬ MeetsAt marks keys n

  pub meeting_found : (at : ℕ) (key : Key) → slice_get keys at ≡ Some key → Meets marks key.word → NoneMeetBelow at
      → IsLeastFrom 0 (MeetsAt marks keys) (Some at)
  meeting_found at key is meets before = (omega arith, (key, is, meets), (λ m up less. before m less))

  pub meeting_more : (at : ℕ) (key : Key) → slice_get keys at ≡ Some key → ¬ Meets marks key.word → NoneMeetBelow at → NoneMeetBelow (at + 1)
  meeting_more at key is apart before n less met =
      elim (order n at) [
        | first_less below ↦ before n below met
        | equal_numbers same ↦
            let theirs = met.1 in
            let one : met.0 ≡ key = cc in
            apart (subst (λ (k : Key). Meets marks k.word) one met.2)
        | second_less higher ↦ absurd (omega (arith, less, higher))
      ]

  pub meeting_end : (count : ℕ) → length keys ≤ count → NoneMeetBelow count → IsLeastFrom 0 (MeetsAt marks keys) None
  meeting_end count all before n up met =
      let inside = slice_get_within keys n met.0 met.1 in before n (omega (arith, all, inside)) met
