-- First pieces of lists, and which of two numbers is less.
use Rattle.std.proofs.Common.{◌≡◌, ℕ, ◌<◌, ◌⊎◌, inl, inr, List, [], ◌∷◌, ◌++◌, length, refl, sym, ◌∙◌, ap, arith, append_assoc, append-nil}
use Rattle.std.proofs.lemmas.Bool.Decides.{leb_tells}
use Rattle.std.proofs.lemmas.List.{append_cancel_left}
use Rattle.csn_desc.specs.declared.node.Node.{Node}
use Rattle.csn_desc.specs.declared.node.Node.TheVariants.{Lits, Spare, Pad, Null, Field, Rest, Seq, Choice, Times, Many, Trunc, Window, Named}
use Rattle.csn_desc.proofs.Splits.{splits, inside, behind}
use Rattle.csn_claims.specs.Conflicts.{IsBegunBy}

-- ---- lists

pub no_front : (a b : List ℕ) → a ++ b ≡ [] → a ≡ []
no_front [] b none = refl
no_front (x ∷ a) b none = absurd (cc)

pub some_bit : (b : List ℕ) → (b ≡ [] → ⊥) → 0 < length b
some_bit [] some = absurd (some refl)
some_bit (a ∷ b) some = omega arith

pub same_ends : (b c x y : List ℕ) → x ≡ [] → y ≡ [] → b ++ x ≡ c ++ y → b ≡ c
same_ends b c x y left right e =
    sym (append-nil b) ∙ ap (λ l. b ++ l) (sym left) ∙ e ∙ ap (λ l. c ++ l) right ∙ append-nil c

-- split bits, and what stands behind the first piece
pub cut_first : (b1 b2 x c1 c2 y : List ℕ) {b c : List ℕ} → b ≡ b1 ++ b2 → c ≡ c1 ++ c2 → b ++ x ≡ c ++ y → b1 ++ (b2 ++ x) ≡ c1 ++ (c2 ++ y)
cut_first b1 b2 x c1 c2 y left right e =
    sym (append_assoc b1 b2 x) ∙ ap (λ l. l ++ x) (sym left) ∙ e ∙ ap (λ l. l ++ y) right ∙ append_assoc c1 c2 y

pub cut_rest : (b1 b2 x c1 c2 y : List ℕ) → b1 ≡ c1 → b1 ++ (b2 ++ x) ≡ c1 ++ (c2 ++ y) → b2 ++ x ≡ c2 ++ y
cut_rest b1 b2 x c1 c2 y same e = append_cancel_left b1 (b2 ++ x) (c2 ++ y) (e ∙ ap (λ l. l ++ (c2 ++ y)) (sym same))

-- the first bit of what stands behind no bits, where some bits stand there
pub record Bit (c x : List ℕ) : Type 0 where
  pub bit : ℕ
  pub rest : List ℕ
  pub tail : List ℕ
  pub is : c ≡ bit ∷ rest
  pub next : x ≡ bit ∷ tail

pub next_bit : (b c x y : List ℕ) → b ≡ [] → 0 < length c → b ++ x ≡ c ++ y → Bit c x
next_bit b [] x y nothing some e = absurd (omega arith)
next_bit b (a ∷ c) x y nothing some e =
    record { bit = a; rest = c; tail = c ++ y; is = refl; next = ap (λ l. l ++ x) (sym nothing) ∙ e }

-- one of two words that begin the same bits begins with the other
pub begun_both : (w r v s x y : List ℕ) {b c : List ℕ} → b ≡ w ++ r → c ≡ v ++ s → b ++ x ≡ c ++ y → IsBegunBy w v ⊎ IsBegunBy v w
begun_both w r v s x y left right e =
    elim (splits w (r ++ x) v (s ++ y) (cut_first w r x v s y left right e)) [
      | inside m p q ↦ inl (m, p)
      | behind m p q ↦ inr (m, p)
    ]

-- ---- numbers

-- which of two numbers is less
pub data Order (j k : ℕ) : Type 0 where
  equal_numbers : j ≡ k → Order j k
  first_less : j < k → Order j k
  second_less : k < j → Order j k

pub order : (j k : ℕ) → Order j k
order j k =
    elim (leb_tells k j) [
      | inr less ↦ first_less less.1
      | inl some ↦ elim (leb_tells j k) [
        | inr less ↦ second_less less.1
        | inl both ↦ equal_numbers (omega (arith, some.1, both.1))
      ]
    ]

pub null_or : (n : Node) → (n ≡ Null) ⊎ (n ≡ Null → ⊥)
null_or Null = inl refl
null_or (Lits run) = inr (λ e. cc)
null_or (Spare symbol) = inr (λ e. cc)
null_or Pad = inr (λ e. cc)
null_or (Field unit count) = inr (λ e. cc)
null_or Rest = inr (λ e. cc)
null_or (Seq parts) = inr (λ e. cc)
null_or (Choice parts) = inr (λ e. cc)
null_or (Times count part) = inr (λ e. cc)
null_or (Many part) = inr (λ e. cc)
null_or (Trunc parts) = inr (λ e. cc)
null_or (Window unit count part) = inr (λ e. cc)
null_or (Named label part) = inr (λ e. cc)
