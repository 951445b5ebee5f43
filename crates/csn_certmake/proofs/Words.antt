-- The words for which marks stand: of pieces, and of what is left of marks that are too many.
use Rattle.std.proofs.Common.{◌≡◌, ℕ, zero, suc, ◌<◌, ◌≤◌, Bool, true, false, List, [], ◌∷◌, ◌++◌, length, take, map, refl, sym, ◌∙◌, ap, subst, arith}
use Rattle.std.specs.Prelude.{nat_le, ◌==◌, if◌then◌else◌, replicate}
use Rattle.std.proofs.lemmas.Bool.Decides.{nat_tests}
use Rattle.csn_bits.specs.Octets.{IsBits}
use Rattle.csn_desc.specs.declared.reading.Reading.{Reading}
use Rattle.csn_desc.specs.declared.reading.Reading.TheVariants.{Received, Sent}
use Rattle.csn_desc.specs.declared.symbol.Symbol.{Symbol}
use Rattle.csn_desc.specs.Spelled.{symbol_bit, IsSpare}
use Rattle.csn_desc.proofs.BitFacts.{symbol_bit-le-one, spelled_is_spare}
use Rattle.csn_cert.specs.declared.pattern.Mark.{Mark}
use Rattle.csn_cert.specs.declared.pattern.Mark.TheVariants.{Zero, One, Any}
use Rattle.csn_cert.specs.PatternV.{PatternV}
use Rattle.csn_look.specs.Keys.{Cut, kept, cut}
use Rattle.csn_good.specs.ClaimedSets.{marks_bit, mark_bits}
use Rattle.csn_good.specs.Patterns.{mark_of, shortened, spare_mark}
use Rattle.csn_good.proofs.Denoting.{both_true, and_both, size_of, Says}

-- ---- pieces

-- a word of marks in two pieces
pub record Pieces (marks others : List Mark) (word : List ℕ) : Type 0 where
  pub first : List ℕ
  pub rest : List ℕ
  pub is : word ≡ first ++ rest
  pub here : mark_bits marks first ≡ true
  pub there : mark_bits others rest ≡ true

pub pieces : (marks others : List Mark) (word : List ℕ) → mark_bits (marks ++ others) word ≡ true → Pieces marks others word
pieces [] others word holds = record { first = []; rest = word; is = refl; here = refl; there = holds }
pieces (mark ∷ marks) others [] holds = absurd (cc)
pieces (mark ∷ marks) others (bit ∷ word) holds =
    let both = both_true (marks_bit mark bit) (mark_bits (marks ++ others) word) holds in
    let later = pieces marks others word both.1 in
    record {
      first = bit ∷ later.first;
      rest = later.rest;
      is = ap (λ l. bit ∷ l) later.is;
      here = and_both (marks_bit mark bit) (mark_bits marks later.first) both.0 later.here;
      there = later.there;
    }

-- ---- what is left of too many marks

-- a bit for which a mark stands
abbrev bit_for : Mark → ℕ
bit_for Zero = 0
bit_for One = 1
bit_for Any = 0

bit_stands : (mark : Mark) → marks_bit mark (bit_for mark) ≡ true
bit_stands Zero = refl
bit_stands One = refl
bit_stands Any = refl

abbrev word_for : List Mark → List ℕ
word_for [] = []
word_for (mark ∷ marks) = bit_for mark ∷ word_for marks

word_stands : (marks : List Mark) → mark_bits marks (word_for marks) ≡ true
word_stands [] = refl
word_stands (mark ∷ marks) = and_both (marks_bit mark (bit_for mark)) (mark_bits marks (word_for marks)) (bit_stands mark) (word_stands marks)

-- the word goes on to one of all the marks
record GoesOn (n : ℕ) (marks : List Mark) (x : List ℕ) : Type 0 where
  word : List ℕ
  stands : mark_bits marks word ≡ true
  front : x ≡ take n word

goes_on : (n : ℕ) (marks : List Mark) (x : List ℕ) → mark_bits (take n marks) x ≡ true → GoesOn n marks x
goes_on zero [] [] holds = record { word = []; stands = refl; front = refl }
goes_on zero [] (bit ∷ x) holds = absurd (cc)
goes_on zero (mark ∷ marks) [] holds = record { word = word_for (mark ∷ marks); stands = word_stands (mark ∷ marks); front = refl }
goes_on zero (mark ∷ marks) (bit ∷ x) holds = absurd (cc)
goes_on (suc n) [] [] holds = record { word = []; stands = refl; front = refl }
goes_on (suc n) [] (bit ∷ x) holds = absurd (cc)
goes_on (suc n) (mark ∷ marks) [] holds = absurd (cc)
goes_on (suc n) (mark ∷ marks) (bit ∷ x) holds =
    let both = both_true (marks_bit mark bit) (mark_bits (take n marks) x) holds in
    let later = goes_on n marks x both.1 in
    record {
      word = bit ∷ later.word;
      stands = and_both (marks_bit mark bit) (mark_bits marks later.word) both.0 later.stands;
      front = ap (λ l. bit ∷ l) later.front;
    }

-- the word is what is left of one for which all the marks stand
pub record LeftOf (marks : List Mark) (whole : Bool) (x : List ℕ) (mark : Bool) : Type 0 where
  pub word : List ℕ
  pub stands : mark_bits marks word ≡ true
  pub left : Cut 12 word whole x mark

left_by : (marks : List Mark) (whole : Bool) (x : List ℕ) (mark : Bool) (test : Bool)
    → nat_le (length marks) 12 ≡ test
    → Says (if test then record { marks = marks; whole = whole } else record { marks = take 12 marks; whole = false })
    x mark → LeftOf marks whole x mark
left_by marks whole x mark true is says =
    let size = size_of marks x says.bits in
    let short : length x ≤ 12 = grind (arith, nat_tests) in
    record { word = x; stands = says.bits; left = kept short refl (sym says.same) }
left_by marks whole x mark false is says =
    let more = goes_on 12 marks x says.bits in
    let size = size_of marks more.word more.stands in
    let long : 12 < length more.word = grind (arith, nat_tests) in
    record { word = more.word; stands = more.stands; left = cut long more.front (sym says.same) }

pub left_of : (marks : List Mark) (whole : Bool) (x : List ℕ) (mark : Bool) → Says (shortened marks whole) x mark → LeftOf marks whole x mark
left_of marks whole x mark says = left_by marks whole x mark (nat_le (length marks) 12) refl says

-- ---- leaves

pub says_along : {p q : PatternV} (x : List ℕ) (mark : Bool) → p ≡ q → Says p x mark → Says q x mark
says_along x mark same says = subst (λ (p : PatternV). Says p x mark) same says

pub no_bits : (whole : Bool) (x : List ℕ) (mark : Bool) → Says (record { marks = []; whole = whole }) x mark → (x ≡ []) × (mark ≡ whole)
no_bits whole [] mark says = (refl, sym says.same)
no_bits whole (bit ∷ x) mark says = let wrong = says.bits in absurd (cc)

bit_is : (bit b : ℕ) → bit ≤ 1 → marks_bit (mark_of bit) b ≡ true → b ≡ bit
bit_is zero b small holds = let is : (b == 0) ≡ true = holds in grind (arith, nat_tests)
bit_is (suc zero) b small holds = let is : (b == 1) ≡ true = holds in grind (arith, nat_tests)
bit_is (suc (suc n)) b small holds = absurd (omega arith)

-- the marks of a word stand for no other word
pub own_word : (word x : List ℕ) → IsBits word → mark_bits (map mark_of word) x ≡ true → x ≡ word
own_word [] [] are holds = refl
own_word [] (b ∷ x) are holds = absurd (cc)
own_word (bit ∷ word) [] are holds = absurd (cc)
own_word (bit ∷ word) (b ∷ x) are holds =
    let both = both_true (marks_bit (mark_of bit) b) (mark_bits (map mark_of word) x) holds in
    let here = bit_is bit b are.0 both.0 in
    let later = own_word word x are.1 both.1 in
    ap (λ n. n ∷ x) here ∙ ap (λ l. bit ∷ l) later

any_is : (b : ℕ) → marks_bit Any b ≡ true → b ≤ 1
any_is b holds = let is : nat_le b 1 ≡ true = holds in grind (arith, nat_tests)

pub any_word : (n : ℕ) (x : List ℕ) → mark_bits (replicate n Any) x ≡ true → (length x ≡ n) × IsBits x
any_word zero [] holds = (refl, tt)
any_word zero (b ∷ x) holds = absurd (cc)
any_word (suc n) [] holds = absurd (cc)
any_word (suc n) (b ∷ x) holds =
    let both = both_true (marks_bit Any b) (mark_bits (replicate n Any) x) holds in
    let later = any_word n x both.1 in
    (ap suc later.0, (any_is b both.0, later.1))

pub spare_word : (reading : Reading) (s : Symbol) (o : ℕ) (x : List ℕ)
    → mark_bits (spare_mark reading s o ∷ []) x ≡ true → (length x ≡ 1) × IsSpare reading s o x
spare_word reading s o [] holds = absurd (cc)
spare_word reading s o (a ∷ (b ∷ x)) holds =
    let wrong = (both_true (marks_bit (spare_mark reading s o) a) (mark_bits [] (b ∷ x)) holds).1 in absurd (cc)
spare_word Received s o (a ∷ []) holds =
    let here = (both_true (marks_bit Any a) true holds).0 in (refl, (any_is a here, tt))
spare_word Sent s o (a ∷ []) holds =
    let here = (both_true (marks_bit (mark_of (symbol_bit s o)) a) true holds).0 in
    let is = bit_is (symbol_bit s o) a (symbol_bit-le-one s o) here in
    (refl, subst (λ (l : List ℕ). IsSpare Sent s o l) (ap (λ n. n ∷ []) (sym is)) (spelled_is_spare Sent s o))
