-- How a certificate grows at its end.
use Rattle.std.proofs.Common.{◌≡◌, ℕ, zero, suc, ◌+◌, ◌<◌, ◌≤◌, List, [], ◌∷◌, ◌++◌, length, set, Option, Some, None}
use Rattle.std.proofs.Common.{refl, sym, ap, ◌∙◌, subst, arith, IsSome, IfSome, slice_get, get_or, ◌-◌, length-append}
use Rattle.std.proofs.lemmas.Option.{slice_get_read}
use Rattle.std.specs.List.{AllByRecursion}
use Rattle.csn_cert.specs.PatternV.{PatternV}
use Rattle.csn_cert.specs.PatternText.{ComesBefore}
use Rattle.csn_cert.specs.CertificateV.{NodeV, PositionV, Rises, IsPattern, IsPosition, IsNode, IsCertificate}
use Rattle.csn_cert.specs.Growing.{last_of, at_last, node_with, position_with, node_with_pattern, with_position}
use Rattle.csn_cert.specs.Growing.{with_pattern, last_position, last_pattern, last_in}

-- ---- the last of a list

pub last_at : {A : Type 0} (xs : List A) (k : ℕ) (x : A) → k + 1 ≡ length xs → slice_get xs k ≡ Some x → last_of xs ≡ Some x
last_at [] k x end is = absurd (omega arith)
last_at (y ∷ []) zero x end is = is
last_at (y ∷ []) (suc k) x end is = absurd (omega arith)
last_at (y ∷ z ∷ rest) zero x end is = absurd (omega arith)
last_at (y ∷ z ∷ rest) (suc k) x end is = last_at (z ∷ rest) k x (omega arith) is

-- what is read at the end is the last
pub last_read : {A : Type 0} (xs : List A) (n : ℕ) (x : A) → n ≡ length xs → 0 < n → x ≡ get_or xs (n - 1) x → last_of xs ≡ Some x
last_read xs n x count some is = last_at xs (n - 1) x (omega arith) (slice_get_read xs n (n - 1) x count (omega arith) is)

set_at : {A : Type 0} (change : A → A) (xs : List A) (k : ℕ) (x : A) → k + 1 ≡ length xs → slice_get xs k ≡ Some x → set xs k (change x) ≡ at_last change xs
set_at change [] k x end is = absurd (omega arith)
set_at change (y ∷ []) zero x end is = let same : y ≡ x = cc in ap (λ v. change v ∷ []) (sym same)
set_at change (y ∷ []) (suc k) x end is = absurd (omega arith)
set_at change (y ∷ z ∷ rest) zero x end is = absurd (omega arith)
set_at change (y ∷ z ∷ rest) (suc k) x end is = ap (λ l. y ∷ l) (set_at change (z ∷ rest) k x (omega arith) is)

-- to write what is changed of the last is to change the last
pub set_last : {A : Type 0} (change : A → A) (xs : List A) (n : ℕ) (x : A)
    → n ≡ length xs → 0 < n → x ≡ get_or xs (n - 1) x → set xs (n - 1) (change x) ≡ at_last change xs
set_last change xs n x count some is = set_at change xs (n - 1) x (omega arith) (slice_get_read xs n (n - 1) x count (omega arith) is)

pub some_last : {A : Type 0} (xs : List A) → IsSome (last_of xs) → 0 < length xs
some_last [] some = absurd (cc)
some_last (x ∷ rest) some = omega arith

pub length-at_last : {A : Type 0} (change : A → A) (xs : List A) → length (at_last change xs) ≡ length xs
length-at_last change [] = refl
length-at_last change (x ∷ []) = refl
length-at_last change (x ∷ y ∷ rest) = ap suc (length-at_last change (y ∷ rest))

pub All-at_last : {A : Type 0} (P : A → Type 0) (change : A → A) (xs : List A)
    → AllByRecursion P xs → IfSome (last_of xs) (λ x. P x → P (change x)) → AllByRecursion P (at_last change xs)
All-at_last P change [] each keeps = tt
All-at_last P change (x ∷ []) each keeps = (keeps each.0, tt)
All-at_last P change (x ∷ y ∷ rest) each keeps = (each.0, All-at_last P change (y ∷ rest) each.1 keeps)

pub All-push : {A : Type 0} (P : A → Type 0) (xs : List A) (x : A) → AllByRecursion P xs → P x → AllByRecursion P (xs ++ x ∷ [])
All-push P [] x each is = (is, tt)
All-push P (y ∷ rest) x each is = (each.0, All-push P rest x each.1 is)

pub Rises-push : {A : Type 0} (Before : A → A → Type 0) (xs : List A) (x : A)
    → Rises Before xs → IfSome (last_of xs) (λ y. Before y x) → Rises Before (xs ++ x ∷ [])
Rises-push Before [] x rises after = tt
Rises-push Before (y ∷ []) x rises after = (after, tt)
Rises-push Before (y ∷ z ∷ rest) x rises after = (rises.0, Rises-push Before (z ∷ rest) x rises.1 after)

Rises-at_last : {A : Type 0} (Before : A → A → Type 0) (change : A → A)
    → ((x y : A) → Before x y → Before x (change y)) → (xs : List A)
    → Rises Before xs → Rises Before (at_last change xs)
Rises-at_last Before change keeps [] rises = tt
Rises-at_last Before change keeps (x ∷ []) rises = tt
Rises-at_last Before change keeps (x ∷ y ∷ []) rises = (keeps x y rises.0, tt)
Rises-at_last Before change keeps (x ∷ y ∷ z ∷ rest) rises = (rises.0, Rises-at_last Before change keeps (y ∷ z ∷ rest) rises.1)

pub node_there : (c : List NodeV) → IsSome (last_position c) → 0 < length c
node_there [] some = absurd (cc)
node_there (n ∷ rest) some = omega arith

pub position_there : (c : List NodeV) (n : NodeV) → last_of c ≡ Some n → IsSome (last_position c) → 0 < length n.positions
position_there c n is some = let P : Option NodeV → Type 0 = λ o. IsSome (last_in (λ (n : NodeV). n.positions) o) in some_last n.positions (subst P is some)

pub All-get : {A : Type 0} (P : A → Type 0) (xs : List A) (k : ℕ) (x : A) → AllByRecursion P xs → slice_get xs k ≡ Some x → P x
All-get P [] k x each is = absurd (cc)
All-get P (y ∷ rest) zero x each is = let same : y ≡ x = cc in subst P same each.0
All-get P (y ∷ rest) (suc k) x each is = All-get P rest k x each.1 is

-- ---- what a certificate keeps as it grows

pub node_pushed : (c : List NodeV) (n : NodeV) → IsCertificate c → length c < 16384 → IsNode n → IsCertificate (c ++ n ∷ [])
node_pushed c n is room new = record { few = omega (arith, length-append c (n ∷ [])); nodes = All-push IsNode c n is.nodes new }

node_grown : (n : NodeV) (p : PositionV) → IsNode n → IsPosition p → IfSome (last_of n.positions) (λ q. q.octet < p.octet) → IsNode (node_with p n)
node_grown n p is new after =
    record {
      follow = is.follow;
      positions = All-push IsPosition n.positions p is.positions new;
      rising = Rises-push (λ x y. x.octet < y.octet) n.positions p is.rising after;
    }

position_grown : (p : PositionV) (k : PatternV)
    → IsPosition p → IsPattern k → IfSome (last_of p.patterns) (λ q. ComesBefore q k) → IsPosition (position_with k p)
position_grown p k is new after =
    record {
      octet = is.octet;
      ends = is.ends;
      start = is.start;
      patterns = All-push IsPattern p.patterns k is.patterns new;
      rising = Rises-push ComesBefore p.patterns k is.rising after;
    }

-- the last position may take the pattern
last_position_grown : (k : PatternV) (o : Option PositionV)
    → IsPattern k → IfSome (last_in (λ (p : PositionV). p.patterns) o) (λ q. ComesBefore q k)
    → IfSome o (λ p. IsPosition p → IsPosition (position_with k p))
last_position_grown k None new after = tt
last_position_grown k (Some p) new after = λ is. position_grown p k is new after

node_grown_by_pattern : (n : NodeV) (k : PatternV)
    → IsNode n → IsPattern k → IfSome (last_in (λ (p : PositionV). p.patterns) (last_of n.positions))
    (λ q. ComesBefore q k) → IsNode (node_with_pattern k n)
node_grown_by_pattern n k is new after =
    record {
      follow = is.follow;
      positions = All-at_last IsPosition (position_with k) n.positions is.positions (last_position_grown k (last_of n.positions) new after);
      rising = Rises-at_last (λ x y. x.octet < y.octet) (position_with k) (λ x y low. low) n.positions is.rising;
    }

last_node_grown : (p : PositionV) (o : Option NodeV) → IsPosition p → IfSome (last_in (λ (n : NodeV). n.positions) o)
    (λ q. q.octet < p.octet) → IfSome o (λ n. IsNode n → IsNode (node_with p n))
last_node_grown p None new after = tt
last_node_grown p (Some n) new after = λ is. node_grown n p is new after

last_node_grown_by_pattern : (k : PatternV) (o : Option NodeV)
    → IsPattern k → IfSome (last_in (λ (p : PositionV). p.patterns) (last_in (λ (n : NodeV). n.positions) o))
    (λ q. ComesBefore q k) → IfSome o (λ n. IsNode n → IsNode (node_with_pattern k n))
last_node_grown_by_pattern k None new after = tt
last_node_grown_by_pattern k (Some n) new after = λ is. node_grown_by_pattern n k is new after

pub position_pushed : (c : List NodeV) (p : PositionV) → IsCertificate c → IsPosition p
    → IfSome (last_position c) (λ q. q.octet < p.octet) → IsCertificate (with_position p c)
position_pushed c p is new after =
    record {
      few = subst (λ n. n ≤ 16384) (sym (length-at_last (node_with p) c)) is.few;
      nodes = All-at_last IsNode (node_with p) c is.nodes (last_node_grown p (last_of c) new after);
    }

pub pattern_pushed : (c : List NodeV) (k : PatternV) → IsCertificate c → IsPattern k
    → IfSome (last_pattern c) (λ q. ComesBefore q k) → IsCertificate (with_pattern k c)
pattern_pushed c k is new after =
    record {
      few = subst (λ n. n ≤ 16384) (sym (length-at_last (node_with_pattern k) c)) is.few;
      nodes = All-at_last IsNode (node_with_pattern k) c is.nodes (last_node_grown_by_pattern k (last_of c) new after);
    }

-- ---- as it is kept: the node that was read at the end is written back

-- where the last node has a position, the node that was read at the end has one
pub positions_within : (c : List NodeV) (count : ℕ) (read node : NodeV)
    → count ≡ length c → read ≡ get_or c (count - 1) read → node ≡ read → IsSome (last_position c)
    → 0 < length node.positions
positions_within c count read node is at_end same some =
    let there = node_there c some in
    let last : last_of c ≡ Some node = last_read c count read is (omega (arith, there)) at_end ∙ ap (λ n. Some n) (sym same) in
    position_there c node last some

pub written_with_position : (c : List NodeV) (count : ℕ) (read node : NodeV) (p : PositionV)
    → count ≡ length c → 0 < length c → read ≡ get_or c (count - 1) read → node ≡ read
    → set c (count - 1) (node_with p node) ≡ with_position p c
written_with_position c count read node p is some at_end same =
    ap (λ n. set c (count - 1) (node_with p n)) same ∙ set_last (node_with p) c count read is (omega arith) at_end

pub written_with_pattern : (c : List NodeV) (count : ℕ) (read node : NodeV) (count' : ℕ) (read' position : PositionV)
    (k : PatternV) → count ≡ length c → IsSome (last_position c) → read ≡ get_or c (count - 1) read → node ≡ read
    → count' ≡ length node.positions → read' ≡ get_or node.positions (count' - 1) read' → position ≡ read'
    → set c (count - 1) (record node { positions = set node.positions (count' - 1) (position_with k position) })
    ≡ with_pattern k c
written_with_pattern c count read node count' read' position k is some at_end same is' at_end' same' =
    let there = node_there c some in
    let there' = positions_within c count read node is at_end same some in
    let inner : set node.positions (count' - 1) (position_with k position) ≡ at_last (position_with k)
    node.positions = ap (λ p. set node.positions (count' - 1) (position_with k p)) same'
    ∙ set_last (position_with k) node.positions count' read' is' (omega arith) at_end' in
    let rebuilt : List PositionV → List NodeV = λ ps. set c (count - 1) (record node { positions = ps }) in
    ap rebuilt inner ∙ ap (λ n. set c (count - 1) (node_with_pattern k n)) same ∙ set_last (node_with_pattern k) c count read is (omega (arith, there)) at_end
