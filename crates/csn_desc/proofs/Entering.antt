-- What stands of a builder's nodes where a node is entered, and where one is left.
use Rattle.std.proofs.Common.{◌≡◌, ℕ, zero, suc, ◌<◌, ◌≤◌, ◌⊎◌, Bool, true, false, if◌then◌else◌, List, [], ◌∷◌, ◌++◌}
use Rattle.std.proofs.Common.{length, set, refl, sym, ◌∙◌, ap, subst, arith, Option, Some, IsSomeAnd, inl, inr}
use Rattle.std.proofs.Common.{length-append, length-set, nat_lt, lit<, lit≤, lt-ltb, le-ltb, ltb-true, ltb-false}
use Rattle.std.specs.Prelude.{slice_get}
use Rattle.csn_desc.specs.declared.node.Node.{Node}
use Rattle.csn_desc.specs.declared.node.Node.TheVariants.{Lits, Spare, Pad, Null, Field, Rest, Seq, Choice, Times, Many, Trunc, Window, Named}
use Rattle.csn_desc.specs.declared.node.Head.{Head}
use Rattle.csn_desc.specs.declared.node.Head.TheVariants as head
use Rattle.csn_desc.specs.Nodes.{head_of, parts_of}
use Rattle.csn_desc.specs.Formed.{IsHead, HasParts, shows_earlier}
use Rattle.csn_desc.specs.Building.{node_of, with_part, set_part, part_begun, begun_parts, TakesPart, HasItsParts}
use Rattle.csn_desc.specs.Laid.{Laid, PartsLaid, laid, laid_end, laid_next, seen_behind}
use Rattle.csn_desc.specs.Standing.{IsPartAfter, Chain, chain_out, chain_in, AreParts, Stands}
use Rattle.csn_desc.proofs.Growth.{Grown, grown_same, grown_part, grown_head, grown_shows, Grows, head_kept}
use Rattle.csn_desc.proofs.Growth.{parts_kept, behind_kept, innermost_before, after_kept, chain_kept, SameFrom}

-- ---- looking up

pub get_here : (nodes : List Node) (n : Node) (more : List Node) → slice_get (nodes ++ n ∷ more) (length nodes) ≡ Some n
get_here [] n more = refl
get_here (m ∷ nodes) n more = get_here nodes n more

pub get_before : (nodes more : List Node) (k : ℕ) → k < length nodes → slice_get (nodes ++ more) k ≡ slice_get nodes k
get_before [] more k h = absurd (omega arith)
get_before (m ∷ nodes) more zero h = refl
get_before (m ∷ nodes) more (suc k) h = get_before nodes more k (omega arith)

pub get_within : (nodes : List Node) (k : ℕ) (n : Node) → slice_get nodes k ≡ Some n → k < length nodes
get_within [] k n at = cc
get_within (m ∷ nodes) zero n at = omega arith
get_within (m ∷ nodes) (suc k) n at = omega (arith, get_within nodes k n at)

get_set_here : (nodes : List Node) (k : ℕ) (n : Node) → k < length nodes → slice_get (set nodes k n) k ≡ Some n
get_set_here [] k n h = absurd (omega arith)
get_set_here (m ∷ nodes) zero n h = refl
get_set_here (m ∷ nodes) (suc k) n h = get_set_here nodes k n (omega arith)

get_set_other : (nodes : List Node) (i k : ℕ) (n : Node) → k < i ⊎ i < k → slice_get (set nodes i n) k ≡ slice_get nodes k
get_set_other [] i k n h = refl
get_set_other (m ∷ nodes) zero zero n (inl h) = absurd (omega arith)
get_set_other (m ∷ nodes) zero zero n (inr h) = absurd (omega arith)
get_set_other (m ∷ nodes) zero (suc k) n h = refl
get_set_other (m ∷ nodes) (suc i) zero n h = refl
get_set_other (m ∷ nodes) (suc i) (suc k) n (inl h) = get_set_other nodes i k n (inl (omega arith))
get_set_other (m ∷ nodes) (suc i) (suc k) n (inr h) = get_set_other nodes i k n (inr (omega arith))

some_and : {A : Type 0} (P : A → Type 0) {o : Option A} {x : A} → o ≡ Some x → IsSomeAnd o P → P x
some_and {A} P e h = let Q : Option A → Type 0 = λ o. IsSomeAnd o P in subst Q e h

-- ---- the node that gets a part

head_of-node_of : (h : Head) (next : ℕ) → head_of (node_of h next) ≡ h
head_of-node_of (head.Lits run) next = refl
head_of-node_of (head.Spare symbol) next = refl
head_of-node_of head.Pad next = refl
head_of-node_of head.Null next = refl
head_of-node_of (head.Field unit count) next = refl
head_of-node_of head.Rest next = refl
head_of-node_of head.Seq next = refl
head_of-node_of head.Choice next = refl
head_of-node_of (head.Times count) next = refl
head_of-node_of head.Many next = refl
head_of-node_of head.Trunc next = refl
head_of-node_of (head.Window unit count) next = refl
head_of-node_of (head.Named label) next = refl

abbrev TakesOne : Node → ℕ → Type 0
TakesOne n have = (parts : ℕ) × (have < parts) × HasParts (head_of n) parts

-- a node whose parts were begun, and that takes one more
more_added : (n : Node) (p : ℕ) → TakesOne n (length (parts_of n)) → parts_of (with_part p n) ≡ parts_of n ++ p ∷ []
more_added (Seq parts) p h = refl
more_added (Choice parts) p h = refl
more_added (Trunc parts) p h = refl
more_added _ p h = absurd (omega (arith, h.1, h.2))

-- one whose parts were not begun
first_head : (h : Head) (p : ℕ) → TakesOne (node_of h p) 0 → parts_of (with_part p (node_of h p)) ≡ p ∷ []
first_head head.Seq p h = refl
first_head head.Choice p h = refl
first_head (head.Times count) p h = refl
first_head head.Many p h = refl
first_head head.Trunc p h = refl
first_head (head.Window unit count) p h = refl
first_head (head.Named label) p h = refl
first_head _ p h = absurd (omega (arith, h.1, h.2))

first_added : (n : Node) (p : ℕ) → n ≡ node_of (head_of n) p → TakesOne n 0 → parts_of (with_part p n) ≡ p ∷ []
first_added n p e h =
    let P : Node → Type 0 = λ m. TakesOne m 0 in
    ap (λ m. parts_of (with_part p m)) e ∙ first_head (head_of n) p (subst P e h)

pub begun_yes : (nodes : List Node) (i : ℕ) (n : Node) → suc i < length nodes → begun_parts nodes i n ≡ parts_of n
begun_yes nodes i n h = ap (λ b. if b then parts_of n else []) (lt-ltb (suc i) (length nodes) h)

pub begun_no : (nodes : List Node) (i : ℕ) (n : Node) → length nodes ≤ suc i → begun_parts nodes i n ≡ []
begun_no nodes i n h = ap (λ b. if b then parts_of n else []) (le-ltb (suc i) (length nodes) h)

part_added : (nodes : List Node) (i : ℕ) (n : Node) (parts : List ℕ) (b : Bool) → nat_lt (suc i) (length nodes) ≡ b
    → i < length nodes → parts ≡ begun_parts nodes i n → (length nodes ≤ suc i → n ≡ node_of (head_of n) (suc i))
    → TakesOne n (length (begun_parts nodes i n)) → parts_of (with_part (length nodes) n) ≡ parts ++ length nodes ∷ []
part_added nodes i n parts true e within are fresh takes =
    let begun : begun_parts nodes i n ≡ parts_of n = begun_yes nodes i n (ltb-true (suc i) (length nodes) e) in
    let P : List ℕ → Type 0 = λ l. TakesOne n (length l) in
    more_added n (length nodes) (subst P begun takes) ∙ ap (λ l. l ++ length nodes ∷ []) (sym (are ∙ begun))
part_added nodes i n parts false e within are fresh takes =
    let last : length nodes ≤ suc i = ltb-false (suc i) (length nodes) e in
    let begun : begun_parts nodes i n ≡ [] = begun_no nodes i n last in
    let P : List ℕ → Type 0 = λ l. TakesOne n (length l) in
    let next : suc i ≡ length nodes = omega arith in
    first_added n (length nodes) (fresh last ∙ ap (λ k. node_of (head_of n) k) next) (subst P begun takes)
    ∙ ap (λ l. l ++ length nodes ∷ []) (sym (are ∙ begun))

-- ---- a node is entered

out_sees_none : {nodes : List Node} {end : ℕ} {parts seen : List ℕ} → Chain nodes [] end parts seen → seen ≡ []
out_sees_none (chain_out h e) = e

data Order (k i : ℕ) : Type 0 where
  less : k < i → Order k i
  same : k ≡ i → Order k i
  greater : i < k → Order k i

one_more : {k i : ℕ} → Order k i → Order (suc k) (suc i)
one_more (less h) = less (omega arith)
one_more (same h) = same (omega arith)
one_more (greater h) = greater (omega arith)

compare : (k i : ℕ) → Order k i
compare zero zero = same refl
compare zero (suc i) = less (omega arith)
compare (suc k) zero = greater (omega arith)
compare (suc k) (suc i) = one_more (compare k i)

-- the node that was entered sees what the next one was to see, and has no parts yet
new_innermost :
    (nodes : List Node) (around : List ℕ) (h : Head) (at : ℕ) (parts seen : List ℕ)
    → slice_get nodes at ≡ Some (node_of h (suc at)) → length nodes ≡ suc at → length nodes ≤ 16384
    → Chain nodes around at parts seen → IsPartAfter nodes around parts at → length around < 64
    → IsHead nodes seen h → Stands nodes (at ∷ around)
new_innermost nodes around h at parts seen here long few chain after deep head =
    let node = node_of h (suc at) in
    let P : Head → Type 0 = λ g. IsHead nodes seen g in
    record {
      few = few;
      parts = [];
      seen = seen;
      chain = chain_in node parts seen chain after here deep (subst P (sym (head_of-node_of h (suc at))) head) (laid_end long) refl;
      are_parts = (node, here, sym (begun_no nodes at node (omega arith)), λ last. ap (λ g. node_of g (suc at)) (sym (head_of-node_of h (suc at))));
    }

pub enters_outside : (h : Head) (s : Stands [] []) → IsHead [] s.seen h → Stands (node_of h 1 ∷ []) (0 ∷ [])
enters_outside h s head =
    let others = node_of h 1 ∷ [] in
    let grows : Grows [] others = λ k n at. cc in
    let P : List ℕ → Type 0 = λ seen. IsHead others seen h in
    new_innermost others [] h 0 [] [] refl refl (lit≤ tt) (chain_out (laid_end refl) refl) refl (lit< tt)
    (subst P (out_sees_none s.chain) (head_kept [] others grows s.seen h head))

module _ (nodes : List Node) (top : ℕ) (rest : List ℕ) (n : Node) (new : Node) (at : slice_get nodes top ≡ Some n) where
  abbrev wide : List Node
  wide = set nodes top (with_part (length nodes) n)

  abbrev others : List Node
  others = wide ++ new ∷ []

  within : top < length nodes
  within = get_within nodes top n at

  long : length wide ≡ length nodes
  long = length-set nodes top (with_part (length nodes) n)

  get_top : slice_get others top ≡ Some (with_part (length nodes) n)
  get_top = get_before wide (new ∷ []) top (omega (arith, within, long)) ∙ get_set_here nodes top (with_part (length nodes) n) within

  get_other : (k : ℕ) → k < length nodes → k < top ⊎ top < k → slice_get others k ≡ slice_get nodes k
  get_other k h apart = get_before wide (new ∷ []) k (omega (arith, long)) ∙ get_set_other nodes top k (with_part (length nodes) n) apart

  grows_at : (k : ℕ) (m : Node) → slice_get nodes k ≡ Some m → Order k top → (g : Node) × (slice_get others k ≡ Some g) × Grown m g
  grows_at k m is (less h) = (m, get_other k (get_within nodes k m is) (inl h) ∙ is, grown_same refl)
  grows_at k m is (greater h) = (m, get_other k (get_within nodes k m is) (inr h) ∙ is, grown_same refl)
  grows_at k m is (same e) =
      let one : m ≡ n = cc in
      let P : Node → Type 0 = λ x. Grown x (with_part (length nodes) n) in
      (with_part (length nodes) n, ap (λ j. slice_get others j) e ∙ get_top, subst P (sym one) (grown_part (length nodes) n))

  grows : Grows nodes others
  grows k m is = grows_at k m is (compare k top)

  chain_later : {parts seen : List ℕ} → Chain nodes (top ∷ rest) (length nodes) parts seen → Chain others (top ∷ rest) (length nodes) parts seen
  chain_later {parts} {seen} (chain_in m before round c after is deep head inner e) =
      let one : m ≡ n = cc in
      let grown = with_part (length nodes) n in
      let same_head : head_of m ≡ head_of grown = ap head_of one ∙ sym (grown_head (grown_part (length nodes) n)) in
      let same_shows : shows_earlier m ≡ shows_earlier grown = ap shows_earlier one ∙ sym (grown_shows (grown_part (length nodes) n)) in
      let P : Head → Type 0 = λ g. IsHead others round g in
      let Q : Bool → Type 0 = λ b. PartsLaid others b round (suc (length rest)) parts (suc top) (length nodes) in
      let lower : SameFrom nodes others grows 0 top = λ k a b. get_other k (omega (arith, within)) (inl b) in
      chain_in grown before round (chain_kept nodes others grows lower c) (after_kept nodes others grows before rest top c lower after)
      get_top deep (subst P same_head (head_kept nodes others grows round (head_of m) head))
      (subst Q same_shows (parts_kept nodes others grows (λ k a b. get_other k b (inr (omega arith))) inner))
      (e ∙ sym (behind_kept nodes others grows inner) ∙ ap (λ b. seen_behind others b parts round) same_shows)

pub enters_inside :
    (nodes : List Node) (top : ℕ) (rest : List ℕ) (h : Head) (s : Stands nodes (top ∷ rest))
    → length nodes < 16384 → length (top ∷ rest) < 64 → TakesPart nodes (top ∷ rest) → IsHead nodes s.seen h
    → Stands (part_begun nodes (top ∷ rest) ++ node_of h (suc (length nodes)) ∷ []) (length nodes ∷ top ∷ rest)
enters_inside nodes top rest h s few deep takes head =
    let n = s.are_parts.0 in
    let at : slice_get nodes top ≡ Some n = s.are_parts.1 in
    let new = node_of h (suc (length nodes)) in
    let all = others nodes top rest n new at in
    let long_all : length all ≡ suc (length nodes) = omega (arith, length-append (wide nodes top rest n new at) (new ∷ []), long nodes top rest n new at) in
    let here : slice_get all (length nodes) ≡ Some new =
    ap (λ k. slice_get all k) (sym (long nodes top rest n new at)) ∙ get_here (wide nodes top rest n new at) new [] in
    let one = some_and (λ m. TakesOne m (length (begun_parts nodes top m))) at takes in
    let added : parts_of (with_part (length nodes) n) ≡ s.parts ++ length nodes ∷ [] =
    part_added nodes top n s.parts (nat_lt (suc top) (length nodes)) refl (get_within nodes top n at) s.are_parts.2 s.are_parts.3 one in
    let stands : Stands all (length nodes ∷ top ∷ rest) =
    new_innermost all (top ∷ rest) h (length nodes) s.parts s.seen here long_all (omega arith)
    (chain_later nodes top rest n new at s.chain) (with_part (length nodes) n, get_top nodes top rest n new at, added) deep
    (head_kept nodes all (grows nodes top rest n new at) s.seen h head) in
    let P : List Node → Type 0 = λ l. Stands (l ++ new ∷ []) (length nodes ∷ top ∷ rest) in
    subst P (sym (ap (set_part nodes top) at)) stands

-- ---- a node is left

laid_more :
    {nodes : List Node} {shows : Bool} {seen : List ℕ} {round at middle end : ℕ} {parts : List ℕ}
    → PartsLaid nodes shows seen round parts at middle → Laid nodes (seen_behind nodes shows parts seen) round middle end
    → PartsLaid nodes shows seen round (parts ++ middle ∷ []) at end
laid_more {nodes} {shows} {seen} {round} {at} {middle} {end} (laid_end e) h = laid_next end (omega (arith, e)) h (laid_end refl)
laid_more (laid_next m e first rest) h = laid_next m e first (laid_more rest h)

no_parts : (n : Node) → HasParts (head_of n) 0 → parts_of n ≡ []
no_parts (Lits run) h = refl
no_parts (Spare symbol) h = refl
no_parts Pad h = refl
no_parts Null h = refl
no_parts (Field unit count) h = refl
no_parts Rest h = refl
no_parts (Seq parts) h = absurd (omega (arith, h))
no_parts (Choice parts) h = absurd (omega (arith, h))
no_parts (Times count part) h = absurd (omega (arith, h))
no_parts (Many part) h = absurd (omega (arith, h))
no_parts (Trunc parts) h = absurd (omega (arith, h))
no_parts (Window unit count part) h = absurd (omega (arith, h))
no_parts (Named label part) h = absurd (omega (arith, h))

-- all parts of a node that has its number of them were begun
all_begun : (nodes : List Node) (i : ℕ) (n : Node) (b : Bool) → nat_lt (suc i) (length nodes) ≡ b
    → HasParts (head_of n) (length (begun_parts nodes i n)) → begun_parts nodes i n ≡ parts_of n
all_begun nodes i n true e has = begun_yes nodes i n (ltb-true (suc i) (length nodes) e)
all_begun nodes i n false e has =
    let none : begun_parts nodes i n ≡ [] = begun_no nodes i n (ltb-false (suc i) (length nodes) e) in
    let P : List ℕ → Type 0 = λ l. HasParts (head_of n) (length l) in
    none ∙ sym (no_parts n (subst P none has))

none_shown : (nodes : List Node) (parts seen : List ℕ) → seen_behind nodes false parts seen ≡ seen
none_shown nodes [] seen = refl
none_shown nodes (i ∷ parts) seen = none_shown nodes parts seen

first_is_root : {nodes : List Node} {parts : List ℕ} {i : ℕ} → PartsLaid nodes false [] 0 parts 0 i → parts ≡ [] → i ≡ 0
first_is_root (laid_end e) none = e
first_is_root (laid_next middle e h rest) none = cc

left_below :
    (nodes : List Node) (rest before round : List ℕ) (i : ℕ) → length nodes ≤ 16384 → i < length nodes
    → Chain nodes rest i before round → IsPartAfter nodes rest before i → Laid nodes round (length rest) i (length nodes)
    → Stands nodes rest
left_below nodes [] before round i few inside (chain_out h e) after whole =
    let P : List ℕ → Type 0 = λ seen. Laid nodes seen 0 i (length nodes) in
    let root : i ≡ 0 = first_is_root h after in
    record {
      few = few;
      parts = before ++ i ∷ [];
      seen = [];
      chain = chain_out (laid_more h (subst P (e ∙ sym (none_shown nodes before [])) whole)) refl;
      are_parts = inr (ap (λ l. l ++ i ∷ []) after ∙ ap (λ k. k ∷ []) root);
    }
left_below nodes (above ∷ rest) before round i few inside (chain_in m before1 round1 c after1 at deep head laid1 e) after whole =
    let P : List ℕ → Type 0 = λ seen. Laid nodes seen (suc (length rest)) i (length nodes) in
    let one : after.0 ≡ m = let first = after.1 in cc in
    let earlier : above < i = innermost_before nodes nodes (λ k n is. (n, is, grown_same refl)) (chain_in m before1 round1 c after1 at deep head laid1 e) in
    record {
      few = few;
      parts = before ++ i ∷ [];
      seen = seen_behind nodes (shows_earlier m) (before ++ i ∷ []) round1;
      chain = chain_in m before1 round1 c after1 at deep head (laid_more laid1 (subst P e whole)) refl;
      are_parts = (m, at, sym (begun_yes nodes above m (omega arith) ∙ ap parts_of (sym one) ∙ after.2), λ last. absurd (omega arith));
    }

leaves_chain :
    (nodes : List Node) (i : ℕ) (rest parts seen : List ℕ) → length nodes ≤ 16384 → (n : Node) → slice_get nodes i ≡ Some n
    → parts ≡ begun_parts nodes i n → HasParts (head_of n) (length (begun_parts nodes i n))
    → Chain nodes (i ∷ rest) (length nodes) parts seen → Stands nodes rest
leaves_chain nodes i rest parts seen few n is are has (chain_in m before round c after at deep head laid1 e) =
    let one : n ≡ m = cc in
    let all : begun_parts nodes i n ≡ parts_of n = all_begun nodes i n (nat_lt (suc i) (length nodes)) refl has in
    let parts_are : parts ≡ parts_of m = are ∙ all ∙ ap parts_of one in
    let P : List ℕ → Type 0 = λ l. PartsLaid nodes (shows_earlier m) round (suc (length rest)) l (suc i) (length nodes) in
    let Q : List ℕ → Type 0 = λ l. HasParts (head_of n) (length l) in
    let R : Node → Type 0 = λ k. HasParts (head_of k) (length (parts_of k)) in
    let whole : Laid nodes round (length rest) i (length nodes) = laid m at deep head (subst R one (subst Q all has)) (subst P parts_are laid1) in
    left_below nodes rest before round i few (get_within nodes i m at) c after whole

pub leaves : (nodes : List Node) (i : ℕ) (rest : List ℕ) → Stands nodes (i ∷ rest) → HasItsParts nodes (i ∷ rest) → Stands nodes rest
leaves nodes i rest s has =
    let n = s.are_parts.0 in
    leaves_chain nodes i rest s.parts s.seen s.few n s.are_parts.1 s.are_parts.2
    (some_and (λ m. HasParts (head_of m) (length (begun_parts nodes i m))) s.are_parts.1 has) s.chain

-- ---- all is left

laid_root : (nodes : List Node) {parts : List ℕ} (end : ℕ) → PartsLaid nodes false [] 0 parts 0 end → parts ≡ 0 ∷ [] → Laid nodes [] 0 0 end
laid_root nodes end (laid_end e) root = cc
laid_root nodes end (laid_next {i = i} {parts = []} middle e h (laid_end last)) root =
    let P : ℕ → Type 0 = λ k. Laid nodes [] 0 k end in
    let Q : ℕ → Type 0 = λ m. Laid nodes [] 0 i m in subst P e (subst Q (sym last) h)
laid_root nodes end (laid_next {parts = j ∷ parts} middle e h others) root = cc

pub all_laid : (nodes : List Node) → Stands nodes [] → 0 < length nodes → Laid nodes [] 0 0 (length nodes)
all_laid nodes s some = from_parts s.chain s.are_parts
  where
    from_parts : {parts seen : List ℕ} → Chain nodes [] (length nodes) parts seen → AreParts nodes [] parts (length nodes) → Laid nodes [] 0 0 (length nodes)
    from_parts (chain_out h e) (inl none) = absurd (omega (arith, none.1))
    from_parts (chain_out h e) (inr root) = laid_root nodes (length nodes) h root
