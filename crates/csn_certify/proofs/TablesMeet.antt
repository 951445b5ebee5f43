-- Going through two tables of keys at once.
use Rattle.std.proofs.Common.{◌≡◌, ℕ, zero, suc, ◌<◌, ◌≤◌, ◌⊎◌, ◌↔◌, inl, inr, Bool, true, false, List, [], ◌∷◌, ◌++◌}
use Rattle.std.proofs.Common.{length, refl, sym, ◌∙◌, ap, subst, arith, append-nil, append_assoc, length-append}
use Rattle.std.specs.Prelude.{IsTrue}
use Rattle.std.proofs.lemmas.List.{append_cancel_left}
use Rattle.csn_bits.specs.Octets.{IsBits}
use Rattle.csn_bits.proofs.Packing.{IsBits-append}
use Rattle.csn_look.specs.KeyMarks.{IsWord, has_key, BeginsWithKey, StartsKey}
use Rattle.csn_look.proofs.Tables.Products.{bits_back}
use Rattle.csn_desc.proofs.BitFacts.{IsBits-front, IsBits-along}
use Rattle.csn_claims.proofs.Pieces.{begun_both}
use Rattle.csn_certify.specs.Overlaps.{AreBegun, Meets, KeyUnder, MeetUnder}
use Rattle.csn_certify.proofs.KeyOrder.{with_meets}

pub swapped : (v w : List ℕ) → AreBegun v w → AreBegun w v
swapped v w (inl long) = inr long
swapped v w (inr long) = inl long

-- the sets may change places
pub other_way : (left right word : List ℕ) → MeetUnder left right word → MeetUnder right left word
other_way left right word m =
    record { v = m.w; w = m.v; begun = swapped m.v.key m.w.key m.begun }

-- a key that begins the word, or goes on from it
pub touched : (marks word : List ℕ) → IsWord word → KeyUnder marks word → Meets marks word
touched marks word is k =
    with_meets marks (λ x m. IsTrue (has_key marks x m)) (λ x m w. ((λ h. h), (λ h. h))) word is k.key k.mark k.is_word k.in_set k.under

front_word : (word front back : List ℕ) → word ≡ front ++ back → IsWord word → IsWord front
front_word word front back parts is =
    let size = ap length parts in
    let short = is.short in
    record { bits = IsBits-front front back (IsBits-along (sym parts) is.bits); short = omega (arith, size, short, length-append front back) }

-- a key that begins the word
abbrev key_before : (marks word : List ℕ) → IsWord word → BeginsWithKey marks word → KeyUnder marks word
key_before marks word is k =
    record { key = k.front; mark = k.whole; is_word = front_word word k.front k.back k.parts is; in_set = k.key; under = inl (k.back, k.parts) }

-- where a key of one begins the word, and the word is touched by the other, they meet
pub key_meets : (left right word : List ℕ) → IsWord word → BeginsWithKey left word → Meets right word → MeetUnder left right word
key_meets left right word is l (inl r) =
    record {
      v = key_before left word is l;
      w = key_before right word is r;
      begun = begun_both l.front l.back r.front r.back [] [] {b = word} {c = word} l.parts r.parts refl;
    }
key_meets left right word is l (inr r) =
    record {
      v = key_before left word is l;
      w = record { key = word ++ r.next ∷ r.back; mark = r.whole; is_word = r.word; in_set = r.key; under = inr (r.next ∷ r.back, refl) };
      begun = inr (l.back ++ r.next ∷ r.back, ap (λ x. x ++ r.next ∷ r.back) l.parts ∙ append_assoc l.front l.back (r.next ∷ r.back));
    }

-- the same key, where it is under another word
abbrev under_other : (marks word other : List ℕ) (k : KeyUnder marks word) → AreBegun other k.key → KeyUnder marks other
under_other marks word other k under =
    record { key = k.key; mark = k.mark; is_word = k.is_word; in_set = k.in_set; under = under }

-- what is under a longer word is under the word
pub under_front : (left right word : List ℕ) (bit : ℕ) → MeetUnder left right (word ++ bit ∷ []) → MeetUnder left right word
under_front left right word bit m =
    record {
      v = under_other left (word ++ bit ∷ []) word m.v (shorter m.v.key m.v.under);
      w = under_other right (word ++ bit ∷ []) word m.w (shorter m.w.key m.w.under);
      begun = m.begun;
    }
  where
    shorter : (x : List ℕ) → AreBegun (word ++ bit ∷ []) x → AreBegun word x
    shorter x (inl long) = begun_both word (bit ∷ []) x long.0 [] [] {b = word ++ bit ∷ []} {c = x ++ long.0} refl refl (ap (λ l. l ++ []) long.1)
    shorter x (inr long) = inr (bit ∷ long.0, long.1 ∙ append_assoc word (bit ∷ []) long.0)

-- a key that does not begin the word goes on from it
record GoesOn (word v : List ℕ) : Type 0 where
  bit : ℕ
  rest : List ℕ
  is : v ≡ word ++ bit ∷ rest
  small : bit ≤ 1

goes_on : (marks word : List ℕ) → ¬ BeginsWithKey marks word → (k : KeyUnder marks word) → GoesOn word k.key
goes_on marks word none k =
    elim k.under [
      | inl long ↦ absurd (none (record { front = k.key; back = long.0; parts = long.1; whole = k.mark; key = k.in_set }))
      | inr long ↦ further long.0 long.1
    ]
  where
    further : (rest : List ℕ) → k.key ≡ word ++ rest → GoesOn word k.key
    further [] is =
        let one : k.key ≡ word = is ∙ append-nil word in
        absurd (none (record { front = k.key; back = []; parts = sym one ∙ sym (append-nil k.key); whole = k.mark; key = k.in_set }))
    further (bit ∷ rest) is =
        let bits : IsBits (bit ∷ rest) = bits_back word (bit ∷ rest) (IsBits-along (sym is) k.is_word.bits) in
        record { bit = bit; rest = rest; is = is; small = bits.0 }

one_bit : (word : List ℕ) (a b : ℕ) (x y v w : List ℕ) → v ≡ word ++ a ∷ x → w ≡ word ++ b ∷ y → AreBegun v w → a ≡ b
one_bit word a b x y v w is_v is_w (inl long) =
    let same : word ++ (a ∷ x) ≡ word ++ (b ∷ (y ++ long.0)) = sym is_v ∙ long.1 ∙ ap (λ l. l ++ long.0) is_w ∙ append_assoc word (b ∷ y) long.0 in
    let tails : a ∷ x ≡ b ∷ (y ++ long.0) = append_cancel_left word (a ∷ x) (b ∷ (y ++ long.0)) same in
    cc
one_bit word a b x y v w is_v is_w (inr long) =
    let same : word ++ (b ∷ y) ≡ word ++ (a ∷ (x ++ long.0)) = sym is_w ∙ long.1 ∙ ap (λ l. l ++ long.0) is_v ∙ append_assoc word (a ∷ x) long.0 in
    let tails : b ∷ y ≡ a ∷ (x ++ long.0) = append_cancel_left word (b ∷ y) (a ∷ (x ++ long.0)) same in
    cc

-- where no key begins the word, keys meet behind a 0 or behind a 1
pub next_bit : (left right word : List ℕ) → ¬ BeginsWithKey left word → ¬ BeginsWithKey right word
    → MeetUnder left right word → MeetUnder left right (word ++ 0 ∷ []) ⊎ MeetUnder left right (word ++ 1 ∷ [])
next_bit left right word none_l none_r m =
    let l = goes_on left word none_l m.v in
    let r = goes_on right word none_r m.w in
    by_bit l.bit l.rest r.rest l.small l.is
    (r.is ∙ ap (λ b. word ++ b ∷ r.rest)
    (sym (one_bit word l.bit r.bit l.rest r.rest m.v.key m.w.key l.is r.is m.begun)))
  where
    under : (bit : ℕ) (x y : List ℕ) → m.v.key ≡ word ++ bit ∷ x → m.w.key ≡ word ++ bit ∷ y → MeetUnder left right (word ++ bit ∷ [])
    under bit x y is_v is_w =
        record {
          v = under_other left word (word ++ bit ∷ []) m.v (inr (x, is_v ∙ sym (append_assoc word (bit ∷ []) x)));
          w = under_other right word (word ++ bit ∷ []) m.w (inr (y, is_w ∙ sym (append_assoc word (bit ∷ []) y)));
          begun = m.begun;
        }

    by_bit : (bit : ℕ) (x y : List ℕ) → bit ≤ 1 → m.v.key ≡ word ++ bit ∷ x → m.w.key ≡ word ++ bit ∷ y
        → MeetUnder left right (word ++ 0 ∷ []) ⊎ MeetUnder left right (word ++ 1 ∷ [])
    by_bit zero x y small is_v is_w = inl (under 0 x y is_v is_w)
    by_bit (suc zero) x y small is_v is_w = inr (under 1 x y is_v is_w)
    by_bit (suc (suc bit)) x y small is_v is_w = absurd (omega (arith, small))

-- a longer word, where the word begins a key
pub room_for_bit : (marks word : List ℕ) → StartsKey marks word → length word < 12
room_for_bit marks word s =
    let short = s.word.short in omega (arith, short, length-append word (s.next ∷ s.back))

pub longer_is_word : (word : List ℕ) (bit : ℕ) → bit ≤ 1 → length word < 12 → IsWord word → IsWord (word ++ bit ∷ [])
longer_is_word word bit small room is =
    record { bits = IsBits-append word (bit ∷ []) is.bits (small, tt); short = omega (arith, room, length-append word (bit ∷ [])) }

-- ---- the answers

module _ (left right word : List ℕ) (is : IsWord word) where
  -- no key of the first touches the word
  pub apart_left : ¬ Meets left word → ¬ MeetUnder left right word
  apart_left none m = none (touched left word is m.v)

  pub apart_right : ¬ Meets right word → ¬ MeetUnder left right word
  apart_right none m = none (touched right word is m.w)

  pub by_left_key : (b : Bool) → BeginsWithKey left word → (IsTrue b ↔ Meets right word) → IsTrue b ↔ MeetUnder left right word
  by_left_key b key f = (
    (λ h. key_meets left right word is key (f.0 h)),
    (λ m. f.1 (touched right word is m.w)),
  )

  pub by_right_key : Meets left word → BeginsWithKey right word → MeetUnder left right word
  by_right_key l key = other_way right left word (key_meets right left word is key l)

-- no key begins the word, and it begins none
pub no_touch : (marks word : List ℕ) → ¬ BeginsWithKey marks word → ¬ StartsKey marks word → ¬ Meets marks word
no_touch marks word none_before none_behind meets = elim meets [ inl key ↦ none_before key | inr start ↦ none_behind start ]

pub never : (P : Type 0) → ¬ P → IsTrue false ↔ P
never P none = ((λ h. absurd (cc)), (λ p. absurd (none p)))

pub always : (P : Type 0) → P → IsTrue true ↔ P
always P p = ((λ h. p), (λ q. refl))

module _ (left right word : List ℕ) (is : IsWord word) (none_l : ¬ BeginsWithKey left word) (none_r : ¬ BeginsWithKey right word) where
  pub met_at_zero : (low : List ℕ) → low ≡ word ++ 0 ∷ [] → MeetUnder left right low → MeetUnder left right word
  met_at_zero low same m = under_front left right word 0 (subst (λ (x : List ℕ). MeetUnder left right x) same m)

  pub met_at_one : (b : Bool) (low high : List ℕ) → low ≡ word ++ 0 ∷ [] → high ≡ word ++ 1 ∷ []
      → ¬ MeetUnder left right low → (IsTrue b ↔ MeetUnder left right high) → IsTrue b ↔ MeetUnder left right word
  met_at_one b low high same_low same_high none f = (
    (λ h. under_front left right word 1 (subst (λ (x : List ℕ). MeetUnder left right x) same_high (f.0 h))),
    (λ m. elim (next_bit left right word none_l none_r m) [
      | inl m_low ↦ absurd (none (subst (λ (x : List ℕ). MeetUnder left right x) (sym same_low) m_low))
      | inr m_high ↦ f.1 (subst (λ (x : List ℕ). MeetUnder left right x) (sym same_high) m_high)
    ]),
  )
