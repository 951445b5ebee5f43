-- The innermost node of a builder is the last of its list.
use Rattle.std.proofs.Common.{◌≡◌, ℕ, zero, suc, ◌-◌, ◌+◌, ◌<◌, ◌≤◌, Bool, true, false, List, [], ◌∷◌, ◌++◌, length}
use Rattle.std.proofs.Common.{reverse, take, refl, sym, ◌∙◌, ap, subst, arith, Option, Some, None, option_to_list}
use Rattle.std.proofs.Common.{nat_lt, ltb-true, ltb-false, append-nil, length-append, set, get_or, Result, Ok, Err}
use Rattle.std.proofs.Common.{is_err, OnOk, OnErr, add-one, ◌==◌, ◌⊎◌, inl, inr, eq-eqb, eq-or-lt_of_le}
use Rattle.std.specs.Prelude.{slice_get, ◌&&◌, ◌||◌, IsSome}
use Rattle.std.specs.List.{list_any}
use Rattle.std.proofs.lemmas.List.{reverse-append, set-append_left, length-reverse}
use Rattle.csn_desc.specs.declared.node.Node.{Node}
use Rattle.csn_desc.specs.declared.node.Head.{Head}
use Rattle.csn_desc.specs.declared.node.Head.TheVariants as head
use Rattle.csn_desc.specs.declared.reading.Reading.{Reading}
use Rattle.csn_desc.specs.Nodes.{head_of, parts_of}
use Rattle.csn_desc.specs.Building.{entered, node_of, with_part, set_part, part_begun, Takes, HasItsParts}
use Rattle.csn_desc.specs.Laid.{PartsLaid, laid_end, laid_next}
use Rattle.csn_desc.specs.Standing.{Chain, chain_in, Stands}
use Rattle.csn_desc.proofs.WellFormed.{laid_behind}
use Rattle.csn_desc.proofs.Entering.{get_within, get_before, begun_yes, enters_outside, enters_inside, leaves}
use Rattle.csn_desc.proofs.Shown.{next_head}

pub last_first : {A : Type 0} (xs : List A) (x : A) → reverse (xs ++ x ∷ []) ≡ x ∷ reverse xs
last_first xs x = reverse-append xs (x ∷ [])

split_last : {A : Type 0} (xs : List A) (x : A) (k : ℕ) → length xs ≡ suc k → slice_get xs k ≡ Some x → xs ≡ take k xs ++ x ∷ []
split_last [] x k long at = absurd (omega (arith, long))
split_last (y ∷ []) x zero long at = let same : y ≡ x = cc in ap (λ z. z ∷ []) same
split_last (y ∷ []) x (suc k) long at = absurd (omega (arith, long))
split_last (y ∷ z ∷ xs) x zero long at = absurd (omega (arith, long))
split_last (y ∷ z ∷ xs) x (suc k) long at = ap (λ l. y ∷ l) (split_last (z ∷ xs) x k (omega (arith, long)) at)

within_last : {A : Type 0} (xs : List A) (x : A) (k : ℕ) → slice_get xs k ≡ Some x → k < length xs
within_last [] x k at = cc
within_last (y ∷ xs) x zero at = omega arith
within_last (y ∷ xs) x (suc k) at = omega (arith, within_last xs x k at)

pub top_is : {A : Type 0} (xs : List A) (x : A) → slice_get xs (length xs - 1) ≡ Some x → reverse xs ≡ x ∷ reverse (take (length xs - 1) xs)
top_is xs x at =
    let some = within_last xs x (length xs - 1) at in
    ap (λ l. reverse l) (split_last xs x (length xs - 1) (omega (arith, some)) at) ∙ last_first (take (length xs - 1) xs) x

last_there : {A : Type 0} (xs : List A) (k : ℕ) → k < length xs → slice_get xs k ≡ None → ⊥
last_there [] k h at = absurd (omega (arith, h))
last_there (x ∷ xs) zero h at = cc
last_there (x ∷ xs) (suc k) h at = last_there xs k (omega (arith, h)) at

none_is : {A : Type 0} (xs : List A) → slice_get xs (length xs - 1) ≡ None → xs ≡ []
none_is [] at = refl
none_is (x ∷ xs) at = absurd (last_there (x ∷ xs) (length (x ∷ xs) - 1) (omega arith) at)

pub top_within : (nodes : List Node) (items : List ℕ) (i : ℕ) → slice_get items (length items - 1) ≡ Some i → Stands nodes (reverse items) → i < length nodes
top_within nodes items i at s =
    let P : List ℕ → Type 0 = λ l. Stands nodes l in
    let top = subst P (top_is items i at) s in
    get_within nodes i top.are_parts.0 top.are_parts.1

pub node_at_index : (nodes : List Node) (i : ℕ) (n : Node) → i < length nodes → n ≡ get_or nodes i n → slice_get nodes i ≡ Some n
node_at_index [] i n within is = absurd (omega (arith, within))
node_at_index (m ∷ nodes) zero n within is = ap Some (sym is)
node_at_index (m ∷ nodes) (suc i) n within is = node_at_index nodes i n (omega (arith, within)) is

-- the last number of a list that was read, where there is one
pub last_read : {seen items : List ℕ} {last : Option ℕ} → seen ≡ items → last ≡ slice_get seen (length seen - 1) → slice_get items (length items - 1) ≡ last
last_read same at = sym (ap (λ l. slice_get l (length l - 1)) same) ∙ sym at

-- ---- a node is left

pub leaves_last : (nodes : List Node) (items fewer : List ℕ) (last : Option ℕ) → items ≡ fewer ++ option_to_list last
    → Stands nodes (reverse items) → HasItsParts nodes (reverse items) → Stands nodes (reverse fewer)
leaves_last nodes items fewer None e s has =
    let P : List ℕ → Type 0 = λ l. Stands nodes (reverse l) in subst P (e ∙ append-nil fewer) s
leaves_last nodes items fewer (Some i) e s has =
    let around : reverse items ≡ i ∷ reverse fewer = ap (λ l. reverse l) e ∙ last_first fewer i in
    let P : List ℕ → Type 0 = λ l. Stands nodes l in
    let Q : List ℕ → Type 0 = λ l. HasItsParts nodes l in
    leaves nodes i (reverse fewer) (subst P around s) (subst Q around has)

-- ---- a node is entered

laid_count : {nodes : List Node} {shows : Bool} {seen : List ℕ} {round at end : ℕ} {parts : List ℕ}
    → PartsLaid nodes shows seen round parts at end → length parts + at ≤ end
laid_count (laid_end e) = omega (arith, e)
laid_count {nodes} (laid_next middle e h rest) = omega (arith, e, laid_count rest, laid_behind nodes h)

entered_few : (h : Head) (next : ℕ) → length (parts_of (node_of h next)) ≤ 1
entered_few (head.Lits run) next = omega arith
entered_few (head.Spare symbol) next = omega arith
entered_few head.Pad next = omega arith
entered_few head.Null next = omega arith
entered_few (head.Field unit count) next = omega arith
entered_few head.Rest next = omega arith
entered_few head.Seq next = omega arith
entered_few head.Choice next = omega arith
entered_few (head.Times count) next = omega arith
entered_few head.Many next = omega arith
entered_few head.Trunc next = omega arith
entered_few (head.Window unit count) next = omega arith
entered_few (head.Named label) next = omega arith

parts_few : {nodes : List Node} {i end : ℕ} {rest parts seen : List ℕ} → Chain nodes (i ∷ rest) end parts seen → length parts + suc i ≤ end
parts_few (chain_in n before round c after at deep head inner e) = laid_count inner

-- the innermost node has few parts
pub top_few : (nodes : List Node) (i : ℕ) (rest : List ℕ) → Stands nodes (i ∷ rest)
    → length nodes < 16384 → (n : Node) × (slice_get nodes i ≡ Some n) × (length (parts_of n) < 16384)
top_few nodes i rest s few = (s.are_parts.0, s.are_parts.1, by_test (nat_lt (suc i) (length nodes)) refl)
  where
    by_test : (b : Bool) → nat_lt (suc i) (length nodes) ≡ b → length (parts_of s.are_parts.0) < 16384
    by_test true e =
        let all : length s.parts ≡ length (parts_of s.are_parts.0) =
        ap (λ l. length l) (s.are_parts.2 ∙ begun_yes nodes i s.are_parts.0 (ltb-true (suc i) (length nodes) e)) in
        omega (arith, parts_few s.chain)
    by_test false e =
        let fresh = s.are_parts.3 (ltb-false (suc i) (length nodes) e) in
        let same : length (parts_of s.are_parts.0) ≡ length (parts_of (node_of (head_of s.are_parts.0) (suc i))) = ap (λ n. length (parts_of n)) fresh in
        omega (arith, entered_few (head_of s.are_parts.0) (suc i))

enters_around : (r : Reading) (nodes : List Node) (around : List ℕ) (h : Head)
    → Stands nodes around → length nodes < 16384 → length around < 64
    → Takes (record { reading = r; nodes = nodes; around = around }) h
    → Stands (part_begun nodes around ++ node_of h (suc (length nodes)) ∷ []) (length nodes ∷ around)
enters_around r [] [] h s few deep takes = enters_outside h s (next_head (record { reading = r; nodes = []; around = [] }) h s takes.1)
enters_around r (n ∷ nodes) [] h s few deep takes = let none = takes.0 in cc
enters_around r nodes (top ∷ rest) h s few deep takes =
    enters_inside nodes top rest h s few deep takes.0 (next_head (record { reading = r; nodes = nodes; around = top ∷ rest }) h s takes.1)

begun_as : (nodes : List Node) (around : List ℕ) (items : List ℕ) (above : Option ℕ)
    → around ≡ reverse items → slice_get items (length items - 1) ≡ above
    → part_begun nodes (option_to_list above) ≡ part_begun nodes around
begun_as nodes around items (Some i) e at = sym (ap (λ l. part_begun nodes l) (e ∙ top_is items i at))
begun_as nodes around items None e at = sym (ap (λ l. part_begun nodes l) (e ∙ ap (λ l. reverse l) (none_is items at)))

pub enters_last :
    (r : Reading) (nodes : List Node) (items : List ℕ) (above : Option ℕ) (h : Head)
    → Stands nodes (reverse items) → length nodes < 16384 → length (reverse items) < 64
    → Takes (record { reading = r; nodes = nodes; around = reverse items }) h
    → slice_get items (length items - 1) ≡ above
    → Stands (part_begun nodes (option_to_list above) ++ node_of h (suc (length nodes)) ∷ []) (reverse (items ++ length nodes ∷ []))
enters_last r nodes items above h s few deep takes at =
    let P : List Node → Type 0 = λ l. Stands (l ++ node_of h (suc (length nodes)) ∷ []) (reverse (items ++ length nodes ∷ [])) in
    let Q : List ℕ → Type 0 = λ l. Stands (part_begun nodes (reverse items) ++ node_of h (suc (length nodes)) ∷ []) l in
    subst P (sym (begun_as nodes (reverse items) items above refl at))
    (subst Q (sym (last_first items (length nodes))) (enters_around r nodes (reverse items) h s few deep takes))

pub entered_last :
    (r : Reading) (nodes : List Node) (items : List ℕ) (above : Option ℕ) (h : Head) (node : Node) (number : ℕ) (new : List Node) (around : List ℕ)
    → number ≡ length nodes → slice_get items (length items - 1) ≡ above → node ≡ node_of h (number + 1)
    → new ≡ part_begun nodes (option_to_list above) ++ node ∷ [] → around ≡ items ++ number ∷ []
    → record { reading = r; nodes = new; around = reverse around } ≡ entered h (record { reading = r; nodes = nodes; around = reverse items })
entered_last r nodes items above h node number new around is at node_is new_is around_is =
    let nodes_are : new ≡ part_begun nodes (reverse items) ++ node_of h (suc (length nodes)) ∷ [] =
    new_is ∙ ap (λ n. part_begun nodes (option_to_list above) ++ n ∷ []) (node_is ∙ ap (λ k. node_of h k) (add-one number ∙ ap suc is))
    ∙ ap (λ l. l ++ node_of h (suc (length nodes)) ∷ []) (begun_as nodes (reverse items) items above refl at) in
    let around_are : reverse around ≡ length nodes ∷ reverse items =
    ap (λ l. reverse l) around_is ∙ last_first items number ∙ ap (λ k. k ∷ reverse items) is in
    ap (λ l. record { reading = r; nodes = l; around = reverse around }) nodes_are
    ∙ ap (λ (l : List ℕ). record { reading = r; nodes = part_begun nodes (reverse items) ++ node_of h (suc (length nodes)) ∷ []; around = l }) around_are

-- ---- what is pushed

pub ok_holds : {A E : Type 0} {P : Type 0} (r : Result A E) → is_err r ≡ false → OnOk r P → P
ok_holds (Ok x) e h = h
ok_holds (Err x) e h = cc

pub err_holds : {A E : Type 0} {P : Type 0} (r : Result A E) → is_err r ≡ true → OnErr r P → P
err_holds (Ok x) e h = cc
err_holds (Err x) e h = h

pub pushed :
    (nodes : List Node) (node : Node) (i : ℕ) (above : Option ℕ) (m new : Node)
    → above ≡ Some i → slice_get nodes i ≡ Some m → new ≡ with_part (length nodes) m
    → set (nodes ++ node ∷ []) i new ≡ part_begun nodes (option_to_list above) ++ node ∷ []
pushed nodes node i above m new is at e =
    set-append_left nodes (node ∷ []) i new (get_within nodes i m at)
    ∙ ap (λ k. set nodes i k ++ node ∷ []) e
    ∙ ap (λ o. set_part nodes i o ++ node ∷ []) (sym at)
    ∙ ap (λ o. part_begun nodes (option_to_list o) ++ node ∷ []) (sym is)

pub set_same : (nodes : List Node) (i : ℕ) (k : Node) → k ≡ get_or nodes i k → set nodes i k ≡ nodes
set_same [] i k is = refl
set_same (n ∷ nodes) zero k is = ap (λ m. m ∷ nodes) is
set_same (n ∷ nodes) (suc i) k is = ap (λ l. n ∷ l) (set_same nodes i k is)

-- a node that was read is the one that stands there
pub read_node : (nodes : List Node) (i : ℕ) (m k : Node) → slice_get nodes i ≡ Some m → k ≡ get_or nodes i k → k ≡ m
read_node nodes i m k at is =
    let there : slice_get nodes i ≡ Some k = node_at_index nodes i k (get_within nodes i m at) is in
    cc

-- where the node above it has it as a part
pub above_begun : (nodes : List Node) (node : Node) (above : Option ℕ) (all new : List Node)
    → ((i : ℕ) → above ≡ Some i → (n : Node) × (slice_get nodes i ≡ Some n) × (length (parts_of n) < 16384))
    → all ≡ nodes ++ node ∷ [] → (above ≡ None → new ≡ all)
    → ((i : ℕ) (n : Node) → above ≡ Some i → slice_get all i ≡ Some n → new ≡ set all i (with_part (length nodes) n))
    → new ≡ part_begun nodes (option_to_list above) ++ node ∷ []
above_begun nodes node None all new there is none some = none refl ∙ is
above_begun nodes node (Some i) all new there is none some =
    let n = there i refl in
    let at : slice_get all i ≡ Some n.0 = ap (λ l. slice_get l i) is ∙ get_before nodes (node ∷ []) i (get_within nodes i n.0 n.1) ∙ n.1 in
    some i n.0 refl at ∙ ap (λ l. set l i (with_part (length nodes) n.0)) is ∙ pushed nodes node i (Some i) n.0 (with_part (length nodes) n.0) refl n.1 refl

snoc_same : {A : Type 0} (xs ys : List A) (x y : A) → xs ++ x ∷ [] ≡ ys ++ y ∷ [] → ys ≡ xs
snoc_same [] [] x y same = refl
snoc_same [] (b ∷ ys) x y same = absurd (omega (arith, ap length same, length-append ys (y ∷ [])))
snoc_same (a ∷ xs) [] x y same = absurd (omega (arith, ap length same, length-append xs (x ∷ [])))
snoc_same (a ∷ xs) (b ∷ ys) x y same =
    let head : b ≡ a = cc in
    let tail : xs ++ x ∷ [] ≡ ys ++ y ∷ [] = cc in
    ap (λ z. z ∷ ys) head ∙ ap (λ l. a ∷ l) (snoc_same xs ys x y tail)

-- the last one leaves again
pub popped : {A : Type 0} (xs ys : List A) (x : A) (last : Option A) → xs ++ x ∷ [] ≡ ys ++ option_to_list last → IsSome last → ys ≡ xs
popped xs ys x None same some = absurd (cc)
popped xs ys x (Some y) same some = snoc_same xs ys x y same

pub long_reverse : {A : Type 0} (xs : List A) → length (reverse xs) ≡ length xs
long_reverse xs = length-reverse xs

-- ---- tests over all, in any order

any_either : (a b c : Bool) → (a || (b || c)) ≡ (b || (a || c))
any_either true true c = refl
any_either true false c = refl
any_either false true c = refl
any_either false false c = refl

any_more : (p : ℕ → Bool) (xs : List ℕ) (x : ℕ) → list_any p (xs ++ x ∷ []) ≡ list_any p (x ∷ xs)
any_more p [] x = refl
any_more p (y ∷ xs) x = ap (λ b. p y || b) (any_more p xs x) ∙ any_either (p y) (p x) (list_any p xs)

pub any_reverse : (p : ℕ → Bool) (xs : List ℕ) → list_any p (reverse xs) ≡ list_any p xs
any_reverse p [] = refl
any_reverse p (x ∷ xs) =
    ap (λ l. list_any p l) (reverse-append (x ∷ []) xs) ∙ any_more p (reverse xs) x ∙ ap (λ b. p x || b) (any_reverse p xs)

pub both_false : (a : Bool) → (a && false) ≡ false
both_false true = refl
both_false false = refl

-- a number that is not the bound is below it
pub not_full : (n most : ℕ) → n ≤ most → (n == most) ≡ false → n < most
not_full n most within test = by_case (eq-or-lt_of_le within)
  where
    by_case : (n ≡ most) ⊎ (n < most) → n < most
    by_case (inl same) = let full : (n == most) ≡ true = eq-eqb n most same in cc
    by_case (inr less) = less
