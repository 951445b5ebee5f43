-- Marks that are pushed one by one, and patterns that are cut to twelve of them.
use Rattle.std.proofs.Common.{◌≡◌, ℕ, ◌+◌, ◌-◌, ◌<◌, ◌≤◌, min, Bool, true, false, ◌&&◌, List, ◌++◌, length, take, refl, sym, ap, ◌∙◌, arith}
use Rattle.std.specs.Prelude.{nat_le}
use Rattle.std.proofs.lemmas.Bool.Decides.{nat_tests}
use Rattle.std.proofs.lemmas.List.{take_all, length-append}
use Rattle.std.proofs.Math.Seq.{take-append-add}
use Rattle.csn_cert.specs.declared.pattern.Mark.{Mark}
use Rattle.csn_cert.specs.declared.pattern.TheConstants.{MOST_MARKS}
use Rattle.csn_cert.specs.PatternV.{PatternV}
use Rattle.csn_good.specs.Patterns.{shortened}
use Rattle.csn_certmake.specs.Patterns.{joined}

-- the first twelve of some marks, whole only where these are all, are the marks shortened
shortened_by : (marks : List Mark) (whole told : Bool) (count : ℕ) (test : Bool)
    → nat_le (length marks) MOST_MARKS ≡ test → count ≡ min (length marks) MOST_MARKS → told ≡ (whole && test)
    → record { marks = take count marks; whole = told } ≡ shortened marks whole
shortened_by marks whole told count true low is same =
    let small : length marks ≤ 12 = grind (arith, nat_tests, low) in
    let all : take count marks ≡ marks = take_all count marks (omega (arith, is, small)) in
    rw low (ap (λ (m : List Mark). record { marks = m; whole = told }) all ∙ ap (λ (w : Bool). record { marks = marks; whole = w }) (same ∙ and_true whole))
  where
    and_true : (b : Bool) → (b && true) ≡ b
    and_true true = refl
    and_true false = refl
shortened_by marks whole told count false low is same =
    let big : 12 < length marks = grind (arith, nat_tests, low) in
    let twelve : count ≡ 12 = omega (arith, is, big) in
    rw low (ap (λ (n : ℕ). record { marks = take n marks; whole = told }) twelve ∙ ap
    (λ (w : Bool). record { marks = take 12 marks; whole = w }) (same ∙ and_false whole))
  where
    and_false : (b : Bool) → (b && false) ≡ false
    and_false true = refl
    and_false false = refl

-- tests of facts that go together give the same answer
same_tests : (a b c d : ℕ) (t u : Bool) → nat_le a b ≡ t → nat_le c d ≡ u → (a ≤ b → c ≤ d) → (c ≤ d → a ≤ b) → t ≡ u
same_tests a b c d true true first second there back = refl
same_tests a b c d true false first second there back =
    (let low : a ≤ b = grind (arith, nat_tests, first) in let high : d < c = grind (arith, nat_tests, second) in absurd (omega (arith, there low)))
same_tests a b c d false true first second there back =
    (let high : b < a = grind (arith, nat_tests, first) in let low : c ≤ d = grind (arith, nat_tests, second) in absurd (omega (arith, back low)))
same_tests a b c d false false first second there back = refl

-- the marks of one pattern and then of another, as many as there is room for
pub joined_is : (first rest : PatternV) (room count : ℕ) (whole : Bool)
    → length first.marks ≤ 12 → room ≡ 12 - length first.marks → count ≡ min (length rest.marks) room
    → whole ≡ (rest.whole && nat_le (length rest.marks) room)
    → record { marks = first.marks ++ take count rest.marks; whole = whole } ≡ joined first rest
joined_is first rest room count whole few is_room is same =
    let all : List Mark = first.marks ++ rest.marks in
    let long : length all ≡ length first.marks + length rest.marks = length-append first.marks rest.marks in
    let test : nat_le (length rest.marks) room ≡ nat_le (length all) 12 =
    same_tests (length rest.marks) room (length all) 12 (nat_le (length rest.marks) room) (nat_le (length all) 12)
    refl refl (λ low. omega (arith, low, long, is_room, few)) (λ low. omega (arith, low, long, is_room, few)) in
    ap (λ (m : List Mark). record { marks = m; whole = whole }) (sym (take-append-add first.marks rest.marks count))
    ∙ shortened_by all rest.whole whole (length first.marks + count) (nat_le (length all) 12) refl
    (omega (arith, is, long, is_room, few)) (same ∙ ap (λ b. rest.whole && b) test)
