-- Two splits of one list. Other crates cite this.
use Rattle.std.proofs.Common.{◌≡◌, ℕ, List, [], ◌∷◌, ◌++◌, ◌⊎◌, inl, inr, length, drop, refl, sym, ◌∙◌, ap, subst, append_assoc}
use Rattle.std.proofs.lemmas.List.Prefix.{front_rest}

-- where the first piece of one split ends: inside the first piece of the other, or behind it
pub data Splits {A : Type 0} (a b c e : List A) : Type 0 where
  inside : (m : List A) → a ≡ c ++ m → e ≡ m ++ b → Splits a b c e
  behind : (m : List A) → c ≡ a ++ m → b ≡ m ++ e → Splits a b c e

longer : {A : Type 0} (x : A) {a b c e : List A} → Splits a b c e → Splits (x ∷ a) b (x ∷ c) e
longer x (inside m p q) = inside m (ap (λ l. x ∷ l) p) q
longer x (behind m p q) = behind m (ap (λ l. x ∷ l) p) q

pub splits : {A : Type 0} (a b c e : List A) → a ++ b ≡ c ++ e → Splits a b c e
splits [] b c e p = behind c refl p
splits (x ∷ a) b [] e p = inside (x ∷ a) refl (sym p)
splits {A} (x ∷ a) b (y ∷ c) e p =
    let same : x ≡ y = cc in
    let rest : a ++ b ≡ c ++ e = cc in
    let P : A → Type 0 = λ z. Splits (x ∷ a) b (z ∷ c) e in
    subst P same (longer x (splits a b c e rest))

-- what holds of a front of two pieces, if it holds where the front ends inside the first, and where the rest of
-- it begins the second or is followed by what the second means
pub front_begun : {A T Z : Type 0} {Begun : List A → Type 0} {Means : List A → T → Type 0} (a b c e : List A) → a ++ b ≡ c ++ e
    → ((m : List A) → a ≡ c ++ m → Z) → ((m : List A) → b ≡ m ++ e → Begun m ⊎ ((t : T) × Means m t))
    → ((m : List A) → c ≡ a ++ m → Begun m → Z) → ((m : List A) → c ≡ a ++ m → (t : T) → Means m t → Z) → Z
front_begun a b c e p here rest later whole =
    elim (splits a b c e p) [
      | inside m q r ↦ here m q
      | behind m q r ↦ elim (rest m r) [ inl f ↦ later m q f | inr all ↦ whole m q all.0 all.1 ]
    ]

-- what stands behind the first piece of a list
pub behind_front : {A : Type 0} (w a b : List A) (n : ℕ) → w ≡ a ++ b → length a ≡ n → b ≡ drop n w
behind_front w a b n p q = sym (ap (λ k. drop k w) (sym q) ∙ front_rest w a b p)

-- the first piece of a list, cut once more
pub cut_again : {A : Type 0} {w : List A} (l b c r : List A) → w ≡ l ++ r → l ≡ b ++ c → w ≡ b ++ (c ++ r)
cut_again l b c r p q = p ∙ ap (λ m. m ++ r) q ∙ append_assoc b c r

-- both pieces of the empty list are empty
pub front_empty : {A : Type 0} (a b : List A) → a ++ b ≡ [] → a ≡ []
front_empty [] b none = refl
front_empty (x ∷ a) b none = absurd (cc)

pub rest_empty : {A : Type 0} (a b : List A) → a ++ b ≡ [] → b ≡ []
rest_empty [] b none = none
rest_empty (x ∷ a) b none = absurd (cc)
