-- Claims that say the same are one.
use Rattle.std.proofs.Common.{◌≡◌, ℕ, zero, suc, ◌+◌, ◌*◌, ◌/◌, ◌%◌, ◌^◌, ◌<◌, ◌≤◌, ◌↔◌, Bool, true, false, List, []}
use Rattle.std.proofs.Common.{◌∷◌, refl, sym, ap, ◌∙◌, subst, arith, Option, Some, None, IfSome, find}
use Rattle.std.specs.Prelude.{IsTrue, is_some, ◌==◌}
use Rattle.std.specs.List.{AllByRecursion}
use Rattle.std.proofs.lemmas.Bool.Decides.{nat_tests}
use Rattle.csn_bits.specs.Numbers.{low_bits, number_of}
use Rattle.csn_bits.proofs.NumberFacts.{number_of-low_bits_small}
use Rattle.csn_cert.specs.CertificateV.{NodeV, PositionV, IsPosition, IsNode}
use Rattle.csn_cert.specs.Growing.{claimed_of}
use Rattle.csn_look.specs.declared.symbol_set.Sign.{Sign}
use Rattle.csn_look.specs.declared.symbol_set.Sign.TheVariants.{Zero, One, End}
use Rattle.csn_look.specs.Signs.{bit_of_sign}
use Rattle.csn_good.specs.ClaimedSets.{has_digit, is_nullable, ends_at, starts_with, patterns_of, follow_digit, followed_by}
use Rattle.csn_certmake.proofs.Rising.{positions_same}

-- tests of one fact give one answer
pub same_answer : (a b : Bool) (P : Type 0) → IsTrue a ↔ P → IsTrue b ↔ P → a ≡ b
same_answer true true P is has = refl
same_answer true false P is has = sym (has.1 (is.0 refl))
same_answer false true P is has = is.1 (has.0 refl)
same_answer false false P is has = refl

-- ---- digits

bit_same : (a b : ℕ) → a ≤ 1 → b ≤ 1 → (a == 1) ≡ (b == 1) → a ≡ b
bit_same zero zero low low' same = refl
bit_same zero (suc zero) low low' same = absurd (cc)
bit_same zero (suc (suc b)) low low' same = absurd (omega (arith, low'))
bit_same (suc zero) zero low low' same = absurd (cc)
bit_same (suc zero) (suc zero) low low' same = refl
bit_same (suc zero) (suc (suc b)) low low' same = absurd (omega (arith, low'))
bit_same (suc (suc a)) b low low' same = absurd (omega (arith, low))

digits_same : (count m n : ℕ) → ((place : ℕ) → place < count → has_digit count m place ≡ has_digit count n place) → low_bits count m ≡ low_bits count n
digits_same zero m n same = refl
digits_same (suc count) m n same =
    let first : m / 2 ^ count % 2 ≡ n / 2 ^ count % 2 = bit_same (m / 2 ^ count % 2) (n / 2 ^ count % 2) (omega arith) (omega arith) (same 0 (omega arith)) in
    let others : low_bits count m ≡ low_bits count n = digits_same count m n (λ place less. same (suc place) (omega (arith, less))) in
    ap (λ b. b ∷ low_bits count m) first ∙ ap (λ l. n / 2 ^ count % 2 ∷ l) others

-- numbers of so many digits are told by these
number_same : (count m n : ℕ) → m < 2 ^ count → n < 2 ^ count → ((place : ℕ) → place < count → has_digit count m place ≡ has_digit count n place) → m ≡ n
number_same count m n small small' same =
    sym (number_of-low_bits_small count m small) ∙ ap number_of (digits_same count m n same) ∙ number_of-low_bits_small count n small'

-- the digits of what may follow, by octet position and sign
follow_digits_same : (f g : ℕ)
    → ((o : ℕ) (sign : Sign) → o ≤ 7 → follow_digit f o (bit_of_sign sign) ≡ follow_digit g o (bit_of_sign sign))
    → (place : ℕ) → place < 24 → has_digit 24 f place ≡ has_digit 24 g place
follow_digits_same f g same place less = by_rest (place % 3) refl
  where
    at : (rest : ℕ) → 3 * (place / 3) + rest ≡ place → has_digit 24 f (3 * (place / 3) + rest) ≡ has_digit 24 g
        (3 * (place / 3) + rest) → has_digit 24 f place ≡ has_digit 24 g place
    at rest is digits = subst (λ k. has_digit 24 f k ≡ has_digit 24 g k) is digits

    by_rest : (rest : ℕ) → place % 3 ≡ rest → has_digit 24 f place ≡ has_digit 24 g place
    by_rest zero is = at 0 (omega (arith, is)) (same (place / 3) Zero (omega (arith, less)))
    by_rest (suc zero) is = at 1 (omega (arith, is)) (same (place / 3) One (omega (arith, less)))
    by_rest (suc (suc zero)) is = at 2 (omega (arith, is)) (same (place / 3) End (omega (arith, less)))
    by_rest (suc (suc (suc rest))) is = absurd (omega (arith, is))

-- ---- positions

-- a claim at an octet position
pub record IsClaimAt (o : ℕ) (p : PositionV) : Type 0 where
  pub position : IsPosition p
  pub octet : p.octet ≡ o

found_is : (p : PositionV) (ps : List PositionV) (o : ℕ) (b : Bool) → (p.octet == o) ≡ b → IsPosition p
    → IfSome (find (λ q. q.octet == o) ps) (IsClaimAt o) → IfSome (find (λ q. q.octet == o) (p ∷ ps)) (IsClaimAt o)
found_is p ps o true is here later = (let same : p.octet ≡ o = grind (arith, nat_tests, is) in rw is (record { position = here; octet = same }))
found_is p ps o false is here later = rw is later

find_is : (ps : List PositionV) (o : ℕ) → AllByRecursion IsPosition ps → IfSome (find (λ p. p.octet == o) ps) (IsClaimAt o)
find_is [] o all = tt
find_is (p ∷ ps) o all = found_is p ps o (p.octet == o) refl all.0 (find_is ps o all.1)

pub claim_is : (n : Option NodeV) (o : ℕ) → IfSome n IsNode → IfSome (claimed_of n o) (IsClaimAt o)
claim_is None o are = tt
claim_is (Some n) o are = find_is n.positions o are.positions

position_same : (o : ℕ) (p q : PositionV) → IsClaimAt o p → IsClaimAt o q
    → ((place : ℕ) → place < 8 → has_digit 8 p.ends place ≡ has_digit 8 q.ends place)
    → ((place : ℕ) → place < 2 → has_digit 2 p.start place ≡ has_digit 2 q.start place)
    → p.patterns ≡ q.patterns → p ≡ q
position_same o p q is has ends start patterns =
    let eight : 2 ^ 8 ≡ 256 = refl in
    let two : 2 ^ 2 ≡ 4 = refl in
    let octet : p.octet ≡ q.octet = is.octet ∙ sym has.octet in
    let ends_are : p.ends ≡ q.ends = number_same 8 p.ends q.ends (omega (arith, eight, is.position.ends)) (omega (arith, eight, has.position.ends)) ends in
    let start_is : p.start ≡ q.start = number_same 2 p.start q.start (omega (arith, two, is.position.start)) (omega (arith, two, has.position.start)) start in
    let made : ℕ → ℕ → ℕ → PositionV = λ a b c. record { octet = a; ends = b; start = c; patterns = p.patterns } in
    ap (λ a. made a p.ends p.start) octet ∙ ap (λ b. made q.octet b p.start) ends_are
    ∙ ap (λ c. made q.octet q.ends c) start_is ∙ ap (λ l. record q { patterns = l }) patterns

-- claims at an octet position that say the same
pub claim_same : (o : ℕ) (k l : Option PositionV) → IfSome k (IsClaimAt o) → IfSome l (IsClaimAt o)
    → is_some k ≡ is_some l → (IsTrue (is_some k) → (place : ℕ) → place < 8 → ends_at k place ≡ ends_at l place)
    → (IsTrue (is_some k) → (place : ℕ) → place < 2 → starts_with k place ≡ starts_with l place)
    → patterns_of k ≡ patterns_of l → k ≡ l
claim_same o None None is has there ends start patterns = refl
claim_same o None (Some q) is has there ends start patterns = absurd (cc)
claim_same o (Some p) None is has there ends start patterns = absurd (cc)
claim_same o (Some p) (Some q) is has there ends start patterns = ap (λ r. Some r) (position_same o p q is has (ends refl) (start refl) patterns)

-- ---- nodes

node_same : (m n : NodeV) → IsNode m → IsNode n → m.nullable ≡ n.nullable
    → ((o : ℕ) (sign : Sign) → o ≤ 7 → follow_digit m.follow o (bit_of_sign sign) ≡ follow_digit n.follow o
    (bit_of_sign sign)) → ((o : ℕ) → find (λ p. p.octet == o) m.positions ≡ find (λ p. p.octet == o) n.positions)
    → m ≡ n
node_same m n is has nullable follow positions =
    let digits : 2 ^ 24 ≡ 16777216 = refl in
    let follow_is : m.follow ≡ n.follow = number_same 24 m.follow n.follow (omega (arith, digits, is.follow))
    (omega (arith, digits, has.follow)) (follow_digits_same m.follow n.follow follow) in
    let positions_are : m.positions ≡ n.positions = positions_same m.positions n.positions is.rising has.rising positions in
    let made : Bool → ℕ → NodeV = λ a b. record { nullable = a; follow = b; positions = m.positions } in
    ap (λ a. made a m.follow) nullable ∙ ap (λ b. made n.nullable b) follow_is ∙ ap (λ ps. record n { positions = ps }) positions_are

-- claims of a node that say the same
pub nodes_same : (k l : Option NodeV) → IfSome k IsNode → IfSome l IsNode → is_some k ≡ true → is_some l ≡ true
    → is_nullable k ≡ is_nullable l
    → ((o : ℕ) (sign : Sign) → o ≤ 7 → followed_by k o (bit_of_sign sign) ≡ followed_by l o (bit_of_sign sign))
    → ((o : ℕ) → claimed_of k o ≡ claimed_of l o) → k ≡ l
nodes_same None l is has there there' nullable follow claims = absurd (cc)
nodes_same (Some m) None is has there there' nullable follow claims = absurd (cc)
nodes_same (Some m) (Some n) is has there there' nullable follow claims = ap (λ k. Some k) (node_same m n is has nullable follow claims)
