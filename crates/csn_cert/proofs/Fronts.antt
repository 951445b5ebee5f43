-- What stands in front of a text is one thing alone.
use Rattle.std.proofs.Common.{◌≡◌, ℕ, List, [], ◌∷◌, ◌++◌, length, flat_map, take, refl, sym, ap, ◌∙◌, append_assoc}
use Rattle.std.specs.List.{AllByRecursion}
use Rattle.std.proofs.Math.Seq.{take-append_seam}
use Rattle.std.proofs.lemmas.List.{append_cancel_left}

-- the things of a kind are told apart in front of texts
abbrev pub Tells : {A : Type 0} → (A → Type 0) → (A → List ℕ) → Type 0
Tells {A} Is text_of = (x y : A) (a b : List ℕ) → Is x → Is y → text_of x ++ a ≡ text_of y ++ b → (x ≡ y) × (a ≡ b)

-- texts that agree have the same first bytes, and the same bytes behind them
pub heads : (x y : ℕ) (a b : List ℕ) → x ∷ a ≡ y ∷ b → x ≡ y
heads x y a b same = cc

pub tails : (x y : ℕ) (a b : List ℕ) → x ∷ a ≡ y ∷ b → a ≡ b
tails x y a b same = cc

-- texts that agree have the same fronts of one length
pub front_same : (xs ys a b : List ℕ) → length xs ≡ length ys → xs ++ a ≡ ys ++ b → xs ≡ ys
front_same xs ys a b long same =
    sym (take-append_seam xs a) ∙ ap (take (length xs)) same ∙ ap (λ n. take n (ys ++ b)) long ∙ take-append_seam ys b

pub behind_same : (xs ys a b : List ℕ) → length xs ≡ length ys → xs ++ a ≡ ys ++ b → a ≡ b
behind_same xs ys a b long same = append_cancel_left ys a b (ap (λ l. l ++ a) (sym (front_same xs ys a b long same)) ∙ same)

-- a text that begins with some of all things goes on with the others
pub record GoesOn {A : Type 0} (Is : A → Type 0) (text_of : A → List ℕ) (front all : List A) (rest behind : List ℕ) : Type 0 where
  pub tail : List A
  pub each : AllByRecursion Is tail
  pub is : all ≡ front ++ tail
  pub spelled : rest ≡ flat_map text_of tail ++ behind

goes_further : {A : Type 0} (Is : A → Type 0) (text_of : A → List ℕ) (x y : A) (front all : List A)
    (rest behind : List ℕ) → x ≡ y → GoesOn Is text_of front all rest behind → GoesOn Is text_of (x ∷ front) (y ∷ all)
    rest behind
goes_further Is text_of x y front all rest behind same later =
    record {
      tail = later.tail;
      each = later.each;
      is = ap (λ l. y ∷ l) later.is ∙ ap (λ z. z ∷ (front ++ later.tail)) (sym same);
      spelled = later.spelled;
    }

pub goes_on : {A : Type 0} (Is : A → Type 0) (text_of : A → List ℕ)
    → Tells Is text_of → (front all : List A) (rest behind : List ℕ) → AllByRecursion Is front → AllByRecursion Is all
    → ((x : A) (after : List ℕ) → text_of x ++ after ≡ behind → ⊥)
    → flat_map text_of front ++ rest ≡ flat_map text_of all ++ behind → GoesOn Is text_of front all rest behind
goes_on Is text_of tells [] all rest behind each each' ends same = record { tail = all; each = each'; is = refl; spelled = same }
goes_on Is text_of tells (x ∷ front) [] rest behind each each' ends same =
    absurd (ends x (flat_map text_of front ++ rest) (sym (append_assoc (text_of x) (flat_map text_of front) rest) ∙ same))
goes_on Is text_of tells (x ∷ front) (y ∷ all) rest behind each each' ends same =
    let cut : text_of x ++ (flat_map text_of front ++ rest) ≡ text_of y ++ (flat_map text_of all ++ behind) =
    sym (append_assoc (text_of x) (flat_map text_of front) rest) ∙ same ∙ append_assoc (text_of y) (flat_map text_of all) behind in
    let found = tells x y (flat_map text_of front ++ rest) (flat_map text_of all ++ behind) each.0 each'.0 cut in
    goes_further Is text_of x y front all rest behind found.0 (goes_on Is text_of tells front all rest behind each.1 each'.1 ends found.1)
