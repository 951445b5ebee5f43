-- Which words a pattern denotes: of pieces put together, of what is left of one, and of a pattern that covers another.
use Rattle.std.proofs.Common.{◌≡◌, ℕ, zero, suc, ◌≤◌, Bool, true, false, List, [], ◌∷◌, ◌++◌, length, take, map, inl, inr, refl, sym, ◌∙◌, ap, subst, arith}
use Rattle.std.specs.Prelude.{nat_le, ◌&&◌, if◌then◌else◌, ◌⊎◌, replicate, Contains}
use Rattle.std.proofs.Math.Bool.{beq}
use Rattle.std.specs.List.{list_any}
use Rattle.std.proofs.lemmas.Bool.Decides.{nat_tests}
use Rattle.std.proofs.lemmas.List.Folds.{Any-from_list_any, list_any-from_Any}
use Rattle.csn_bits.specs.Octets.{IsBits}
use Rattle.csn_desc.specs.declared.reading.Reading.{Reading}
use Rattle.csn_desc.specs.declared.reading.Reading.TheVariants.{Received, Sent}
use Rattle.csn_desc.specs.declared.symbol.Symbol.{Symbol}
use Rattle.csn_desc.specs.Spelled.{symbol_bit, IsSpare}
use Rattle.csn_desc.proofs.BitFacts.{symbol_bit-le-one}
use Rattle.csn_cert.specs.declared.pattern.Mark.{Mark}
use Rattle.csn_cert.specs.declared.pattern.Mark.TheVariants.{Zero, One, Any}
use Rattle.csn_cert.specs.PatternV.{PatternV}
use Rattle.csn_look.specs.Keys.{Cut, kept, cut}
use Rattle.csn_good.specs.ClaimedSets.{marks_bit, mark_bits, denotes}
use Rattle.csn_good.specs.Patterns.{mark_of, shortened, spare_mark, CoverMarks, Covers}

-- ---- tests

pub both_true : (a b : Bool) → (a && b) ≡ true → (a ≡ true) × (b ≡ true)
both_true true true e = (refl, refl)
both_true true false e = absurd (cc)
both_true false b e = absurd (cc)

pub and_both : (a b : Bool) → a ≡ true → b ≡ true → (a && b) ≡ true
and_both true true p q = refl
and_both true false p q = absurd (cc)
and_both false b p q = absurd (cc)

pub same_marks : (a b : Bool) → beq a b ≡ true → a ≡ b
same_marks true true e = refl
same_marks true false e = absurd (cc)
same_marks false true e = absurd (cc)
same_marks false false e = refl

pub marks_same : (a b : Bool) → a ≡ b → beq a b ≡ true
marks_same true true e = refl
marks_same true false e = absurd (cc)
marks_same false true e = absurd (cc)
marks_same false false e = refl

pub any_true : {X : Type 0} (p : X → Bool) (xs : List X) (x : X) → Contains xs x → p x ≡ true → list_any p xs ≡ true
any_true p xs x h holds = list_any-from_Any p xs (h.0, x, h.1, h.2, holds)

pub record Found {X : Type 0} (p : X → Bool) (xs : List X) : Type 0 where
  pub item : X
  pub there : Contains xs item
  pub passes : p item ≡ true

pub found : {X : Type 0} (p : X → Bool) (xs : List X) → list_any p xs ≡ true → Found p xs
found p xs holds = let h = Any-from_list_any p xs holds in record { item = h.1; there = (h.0, h.2, h.3); passes = h.4 }

-- ---- marks and bits

pub size_of : (marks : List Mark) (word : List ℕ) → mark_bits marks word ≡ true → length marks ≡ length word
size_of [] [] holds = refl
size_of [] (bit ∷ word) holds = absurd (cc)
size_of (mark ∷ marks) [] holds = absurd (cc)
size_of (mark ∷ marks) (bit ∷ word) holds =
    let later = size_of marks word (both_true (marks_bit mark bit) (mark_bits marks word) holds).1 in ap suc later

pub joined : (marks : List Mark) (word : List ℕ) (others : List Mark) (rest : List ℕ)
    → mark_bits marks word ≡ true → mark_bits others rest ≡ true → mark_bits (marks ++ others) (word ++ rest) ≡ true
joined [] [] others rest first second = second
joined [] (bit ∷ word) others rest first second = absurd (cc)
joined (mark ∷ marks) [] others rest first second = absurd (cc)
joined (mark ∷ marks) (bit ∷ word) others rest first second =
    let both = both_true (marks_bit mark bit) (mark_bits marks word) first in
    and_both (marks_bit mark bit) (mark_bits (marks ++ others) (word ++ rest)) both.0 (joined marks word others rest both.1 second)

pub taken : (n : ℕ) (marks : List Mark) (word : List ℕ) → mark_bits marks word ≡ true → mark_bits (take n marks) (take n word) ≡ true
taken zero [] [] holds = refl
taken zero [] (bit ∷ word) holds = absurd (cc)
taken zero (mark ∷ marks) [] holds = absurd (cc)
taken zero (mark ∷ marks) (bit ∷ word) holds = refl
taken (suc n) [] [] holds = refl
taken (suc n) [] (bit ∷ word) holds = absurd (cc)
taken (suc n) (mark ∷ marks) [] holds = absurd (cc)
taken (suc n) (mark ∷ marks) (bit ∷ word) holds =
    let both = both_true (marks_bit mark bit) (mark_bits marks word) holds in
    and_both (marks_bit mark bit) (mark_bits (take n marks) (take n word)) both.0 (taken n marks word both.1)

-- a bit that some mark stands for is one that `Any` stands for
is_bit : (mark : Mark) (bit : ℕ) → marks_bit mark bit ≡ true → marks_bit Any bit ≡ true
is_bit Zero bit holds = grind (arith, nat_tests)
is_bit One bit holds = grind (arith, nat_tests)
is_bit Any bit holds = holds

wider : (wide mark : Mark) (bit : ℕ) → (wide ≡ Any) ⊎ (wide ≡ mark) → marks_bit mark bit ≡ true → marks_bit wide bit ≡ true
wider wide mark bit (inl any) holds = let P : Mark → Type 0 = λ m. marks_bit m bit ≡ true in subst P (sym any) (is_bit mark bit holds)
wider wide mark bit (inr same) holds = let P : Mark → Type 0 = λ m. marks_bit m bit ≡ true in subst P (sym same) holds

cover_marks : (wides marks : List Mark) (word : List ℕ) → CoverMarks wides marks → mark_bits marks word ≡ true → mark_bits wides word ≡ true
cover_marks [] [] word covers holds = holds
cover_marks [] (mark ∷ marks) word covers holds = elim covers [ ]
cover_marks (wide ∷ wides) [] word covers holds = elim covers [ ]
cover_marks (wide ∷ wides) (mark ∷ marks) [] covers holds = absurd (cc)
cover_marks (wide ∷ wides) (mark ∷ marks) (bit ∷ word) covers holds =
    let both = both_true (marks_bit mark bit) (mark_bits marks word) holds in
    and_both (marks_bit wide bit) (mark_bits wides word) (wider wide mark bit covers.0 both.0) (cover_marks wides marks word covers.1 both.1)

-- ---- patterns and words

-- what it says that a pattern denotes a word
pub record Says (p : PatternV) (word : List ℕ) (whole : Bool) : Type 0 where
  pub same : p.whole ≡ whole
  pub bits : mark_bits p.marks word ≡ true

pub says : (p : PatternV) (word : List ℕ) (whole : Bool) → denotes p word whole ≡ true → Says p word whole
says p word whole holds =
    let both = both_true (beq p.whole whole) (mark_bits p.marks word) holds in
    record { same = same_marks p.whole whole both.0; bits = both.1 }

pub said : (p : PatternV) (word : List ℕ) (whole : Bool) → Says p word whole → denotes p word whole ≡ true
said p word whole s = and_both (beq p.whole whole) (mark_bits p.marks word) (marks_same p.whole whole s.same) s.bits

pub covered : (wide p : PatternV) (word : List ℕ) (whole : Bool) → Covers wide p → denotes p word whole ≡ true → denotes wide word whole ≡ true
covered wide p word whole covers holds =
    let s = says p word whole holds in
    said wide word whole (record { same = covers.whole ∙ s.same; bits = cover_marks wide.marks p.marks word covers.marks s.bits })

-- what is left of a word is denoted by what is left of the marks
left_of : (marks : List Mark) (whole : Bool) (x : List ℕ) (mark : Bool) (test : Bool)
    → nat_le (length marks) 12 ≡ test
    → Says (if test then record { marks = marks; whole = whole } else record { marks = take 12 marks; whole = false })
    x mark → Says (shortened marks whole) x mark
left_of marks whole x mark test is s =
    let P : Bool → Type 0 = λ t. Says (if t then record { marks = marks; whole = whole } else record { marks = take 12 marks; whole = false }) x mark in
    subst P (sym is) s

pub shortened_says : (marks : List Mark) (word : List ℕ) (whole : Bool) (x : List ℕ) (mark : Bool)
    → mark_bits marks word ≡ true → Cut 12 word whole x mark → Says (shortened marks whole) x mark
shortened_says marks word whole x mark holds (kept short is same) =
    let size = size_of marks word holds in
    let test : nat_le (length marks) 12 ≡ true = grind (arith, nat_tests) in
    let P : List ℕ → Type 0 = λ l. mark_bits marks l ≡ true in
    left_of marks whole x mark true test (record { same = sym same; bits = subst P (sym is) holds })
shortened_says marks word whole x mark holds (cut long is same) =
    let size = size_of marks word holds in
    let test : nat_le (length marks) 12 ≡ false = grind (arith, nat_tests) in
    let P : List ℕ → Type 0 = λ l. mark_bits (take 12 marks) l ≡ true in
    left_of marks whole x mark false test (record { same = sym same; bits = subst P (sym is) (taken 12 marks word holds) })

-- ---- bits as marks

pub own_mark : (bit : ℕ) → bit ≤ 1 → marks_bit (mark_of bit) bit ≡ true
own_mark zero small = refl
own_mark (suc zero) small = refl
own_mark (suc (suc n)) small = absurd (omega arith)

pub own_marks : (word : List ℕ) → IsBits word → mark_bits (map mark_of word) word ≡ true
own_marks [] are = refl
own_marks (bit ∷ word) are = and_both (marks_bit (mark_of bit) bit) (mark_bits (map mark_of word) word) (own_mark bit are.0) (own_marks word are.1)

any_bit : (bit : ℕ) → bit ≤ 1 → marks_bit Any bit ≡ true
any_bit zero small = refl
any_bit (suc zero) small = refl
any_bit (suc (suc n)) small = absurd (omega arith)

pub any_marks : (n : ℕ) (word : List ℕ) → length word ≡ n → IsBits word → mark_bits (replicate n Any) word ≡ true
any_marks zero [] size are = refl
any_marks zero (bit ∷ word) size are = absurd (omega arith)
any_marks (suc n) [] size are = absurd (omega arith)
any_marks (suc n) (bit ∷ word) size are =
    and_both (marks_bit Any bit) (mark_bits (replicate n Any) word) (any_bit bit are.0) (any_marks n word (omega arith) are.1)

pub spare_marks : (reading : Reading) (s : Symbol) (o : ℕ) (word : List ℕ)
    → length word ≡ 1 → IsSpare reading s o word → mark_bits (spare_mark reading s o ∷ []) word ≡ true
spare_marks reading s o [] one h = absurd (omega arith)
spare_marks reading s o (a ∷ (b ∷ word)) one h = absurd (omega arith)
spare_marks Received s o (a ∷ []) one h = and_both (marks_bit Any a) true (any_bit a h.0) refl
spare_marks Sent s o (a ∷ []) one h =
    let is : a ≡ symbol_bit s o = cc in
    let P : ℕ → Type 0 = λ bit. marks_bit (mark_of (symbol_bit s o)) bit ≡ true in
    let own = own_mark (symbol_bit s o) (symbol_bit-le-one s o) in
    and_both (marks_bit (mark_of (symbol_bit s o)) a) true (subst P (sym is) own) refl
