-- Part by part: what is kept behind the first parts, that there is room for it, and what is taken then.
use Rattle.std.proofs.Common.{◌≡◌, ℕ, zero, suc, ◌+◌, ◌<◌, ◌≤◌, Bool, true, false, if◌then◌else◌, IsTrue, List, []}
use Rattle.std.proofs.Common.{◌∷◌, ◌++◌, length, take, get_or, refl, sym, ◌∙◌, ap, subst, arith, inl, inr, Option}
use Rattle.std.proofs.Common.{Some, None, append-nil, append_assoc}
use Rattle.std.proofs.Math.Seq.{take-append_seam}
use Rattle.std.proofs.lemmas.Bool.{cases_order}
use Rattle.std.specs.Prelude.{slice_get, count_by}
use Rattle.std.proofs.lemmas.List.{length-append}
use Rattle.std.proofs.lemmas.List.Sums.{sum_by-cons}
use Rattle.std.proofs.lemmas.Option.{slice_get_within, get_or_from_slice_get}
use Rattle.csn_desc.specs.declared.node.Node.{Node}
use Rattle.csn_desc.specs.declared.node.Node.TheVariants.{Seq, Trunc}
use Rattle.csn_desc.specs.Nodes.{DescV, parts_of, head_of}
use Rattle.csn_desc.specs.Values.{is_named}
use Rattle.csn_desc.specs.Formed.{value_width, is_counted, with_seen, shows_earlier, HasParts, IsDescription, Formed, PartsFormed, formed, formed_next}
use Rattle.csn_desc.proofs.Nodewise.{held_along, choice_formed}
use Rattle.csn_desc.proofs.Placed.{node_placed}
use Rattle.csn_compat.specs.declared.pairs.Pair.{Pair}
use Rattle.csn_compat.specs.Pairs.{same_width, with_kept}
use Rattle.csn_compat.specs.Places.{pairs_behind, AreShown, HasRoom}
use Rattle.csn_compat.proofs.Below.{IsBehind, is_behind}
use Rattle.csn_compat.proofs.PairFacts.{width_named}

module _ (was now : DescV) where
  -- ---- what is kept

  -- the first part and then the others
  pub behind_cons : (p q : ℕ) (parts others : List ℕ) (pairs : List Pair) (k : ℕ)
      → pairs_behind was now (p ∷ parts) (q ∷ others) pairs (suc k) ≡ pairs_behind was now parts others
      (with_kept was now p q pairs) k
  behind_cons p q parts others pairs zero = refl
  behind_cons p q parts others pairs (suc k) = ap (with_kept was now (get_or parts k 0) (get_or others k 0)) (behind_cons p q parts others pairs k)

  -- one more part
  pub behind_next : (parts others : List ℕ) (pairs before after : List Pair) (k p q : ℕ)
      → slice_get parts k ≡ Some p → slice_get others k ≡ Some q → before ≡ pairs_behind was now parts others pairs k
      → after ≡ with_kept was now p q before → after ≡ pairs_behind was now parts others pairs (suc k)
  behind_next parts others pairs before after k p q at_p at_q is next =
      let old : p ≡ get_or parts k 0 = sym (get_or_from_slice_get parts k p 0 at_p) in
      let new : q ≡ get_or others k 0 = sym (get_or_from_slice_get others k q 0 at_q) in
      next
      ∙ ap (λ x. with_kept was now x q before) old
      ∙ ap (λ x. with_kept was now (get_or parts k 0) x before) new
      ∙ ap (λ x. with_kept was now (get_or parts k 0) (get_or others k 0) x) is

  -- pairs are kept at the end
  pub kept_extends : (p q : ℕ) (pairs : List Pair) → (more : List Pair) × (with_kept was now p q pairs ≡ pairs ++ more)
  kept_extends p q pairs = at (is_counted was.nodes p) (same_width (value_width was.nodes p) (value_width now.nodes q))
    where
      at : (counted same : Bool) → (more : List Pair)
          × ((if counted then (if same then pairs ++ record { before = p; after = q } ∷ [] else pairs) else pairs)
          ≡ pairs ++ more)
      at true true = (record { before = p; after = q } ∷ [], refl)
      at true false = ([], sym (append-nil pairs))
      at false same = ([], sym (append-nil pairs))

  -- ---- room for it

  -- one part more
  pub next_few : (p q : ℕ) (pairs : List Pair) (seen : List ℕ) → length pairs ≤ count_by (is_counted was.nodes) seen
      → length (with_kept was now p q pairs) ≤ count_by (is_counted was.nodes) (with_seen was.nodes true p seen)
  next_few p q pairs seen few =
      at (is_counted was.nodes p) (same_width (value_width was.nodes p) (value_width now.nodes q))
      (is_named was.nodes p) refl (λ same. wide_named (value_width was.nodes p) (value_width now.nodes q) refl same)
    where
      wide_named : (w x : Option ℕ) → value_width was.nodes p ≡ w → same_width w x ≡ true → is_named was.nodes p ≡ true
      wide_named (Some w) x is same = width_named was.nodes p w is
      wide_named None x is same = absurd (cc)

      one_more : (counted : Bool) → is_counted was.nodes p ≡ counted → count_by (is_counted was.nodes)
          (p ∷ seen) ≡ (if counted then 1 else 0) + count_by (is_counted was.nodes) seen
      one_more counted is =
          sum_by-cons (λ x. if is_counted was.nodes x then 1 else 0) p seen
          ∙ ap (λ x. (if x then 1 else 0) + count_by (is_counted was.nodes) seen) is

      at : (counted same named : Bool) → is_counted was.nodes p ≡ counted → (same ≡ true → named ≡ true)
          → length (if counted then (if same then pairs ++ record { before = p; after = q } ∷ [] else pairs)
          else pairs) ≤ count_by (is_counted was.nodes) (if named then p ∷ seen else seen)
      at true true true counted both = let more = one_more true counted in omega (arith, length-append pairs (record { before = p; after = q } ∷ []))
      at true true false counted both = let wrong : false ≡ true = both refl in absurd (cc)
      at true false true counted both = let more = one_more true counted in omega arith
      at true false false counted both = few
      at false same true counted both = let more = one_more false counted in omega arith
      at false same false counted both = few

  -- the parts of a node that shows them
  pub room_at : (parts : List ℕ) (k p : ℕ) (others : List ℕ) (pairs : List Pair) (seen : List ℕ) {round : ℕ}
      → PartsFormed was.nodes true seen round parts → length pairs ≤ count_by (is_counted was.nodes) seen
      → k ≤ length others → slice_get parts k ≡ Some p → HasRoom was.nodes (pairs_behind was now parts others pairs k)
      p
  room_at [] k p others pairs seen h few within at = absurd (cc)
  room_at (i ∷ parts) zero p others pairs seen {round = round} (formed_next h rest) few within at =
      let same : i ≡ p = cc in
      subst (λ x. HasRoom was.nodes pairs x) same (record { seen = seen; round = round; formed = h; few = few })
  room_at (i ∷ parts) (suc k) p [] pairs seen (formed_next h rest) few within at = absurd (omega arith)
  room_at (i ∷ parts) (suc k) p (q ∷ others) pairs seen (formed_next h rest) few within at =
      subst (λ x. HasRoom was.nodes x p) (sym (behind_cons i q parts others pairs k))
      (room_at parts k p others (with_kept was now i q pairs) (with_seen was.nodes true i seen) rest
      (next_few i q pairs seen few) (omega arith) at)

  -- the parts of a sequence or truncation
  pub room_shown : (i k p : ℕ) (parts others : List ℕ) (pairs : List Pair)
      → HasRoom was.nodes pairs i → AreShown was.nodes i parts → k ≤ length others → slice_get parts k ≡ Some p
      → HasRoom was.nodes (pairs_behind was now parts others pairs k) p
  room_shown i k p parts others pairs room shown within at = from room.formed shown
    where
      from : {round : ℕ} → Formed was.nodes room.seen round i → AreShown was.nodes i parts → HasRoom was.nodes (pairs_behind was now parts others pairs k) p
      from (formed n at_n deep head has counted inside) (inl is) =
          let same : n ≡ Seq parts = cc in
          room_at parts k p others pairs room.seen (held_along was.nodes same inside) room.few within at
      from (formed n at_n deep head has counted inside) (inr is) =
          let same : n ≡ Trunc parts = cc in
          room_at parts k p others pairs room.seen (held_along was.nodes same inside) room.few within at

module _ (nodes : List Node) where
  -- the parts of a node that does not show them
  pub room_below : (i k p : ℕ) (n : Node) (pairs : List Pair) → HasRoom nodes pairs i → slice_get nodes i ≡ Some n
      → shows_earlier n ≡ false → slice_get (parts_of n) k ≡ Some p → HasRoom nodes pairs p
  room_below i k p n pairs room is hides at = from room.formed
    where
      from : {round : ℕ} → Formed nodes room.seen round i → HasRoom nodes pairs p
      from {round = round} (formed m at_m deep head has counted inside) =
          let same : m ≡ n = cc in
          let P : Bool → Type 0 = λ shows. PartsFormed nodes shows room.seen (suc round) (parts_of n) in
          let parts = subst P hides (held_along nodes same inside) in
          record { seen = room.seen; round = suc round; formed = choice_formed nodes k p parts at; few = room.few }

  pub room_within : (i : ℕ) (pairs : List Pair) → HasRoom nodes pairs i → i < length nodes
  room_within i pairs room = from room.formed
    where
      from : {round : ℕ} → Formed nodes room.seen round i → i < length nodes
      from (formed n at_n deep head has counted inside) = slice_get_within nodes i n at_n

  -- one pair more, where some count stands on the field
  pub room_for_one : (i : ℕ) (pairs : List Pair) → HasRoom nodes pairs i → IsTrue (is_counted nodes i) → length pairs < 64
  room_for_one i pairs room is = from room.formed
    where
      from : {round : ℕ} → Formed nodes room.seen round i → length pairs < 64
      from (formed n at_n deep head has counted inside) = let less = counted is in let few = room.few in omega arith

  pub room_along : (i : ℕ) (pairs others : List Pair) → others ≡ pairs → HasRoom nodes pairs i → HasRoom nodes others i
  room_along i pairs others same room = subst (λ ps. HasRoom nodes ps i) (sym same) room

-- a sequence has two parts at least
pub seq_long : (d : DescV) (i : ℕ) (parts : List ℕ) → IsDescription d → slice_get d.nodes i ≡ Some (Seq parts) → 2 ≤ length parts
seq_long d i parts is at = let placed = node_placed d is i (Seq parts) at in from placed.is
  where
    from : {seen : List ℕ} {round : ℕ} → Formed d.nodes seen round i → 2 ≤ length parts
    from (formed n at_n deep head has counted inside) =
        let same : n ≡ Seq parts = cc in
        subst (λ m. HasParts (head_of m) (length (parts_of m))) same has

-- the parts of a sequence or truncation stand behind it
pub shown_behind : (d : DescV) (i k p : ℕ) (parts : List ℕ) → IsDescription d → AreShown d.nodes i parts → slice_get parts k ≡ Some p → IsBehind d i p
shown_behind d i k p parts is (inl at) there = is_behind d i k p (Seq parts) _ is at refl there
shown_behind d i k p parts is (inr at) there = is_behind d i k p (Trunc parts) _ is at refl there

-- the one part of an old node and that of a new one, which is compared with it
pub record AreCompared (was now : DescV) (i p q : ℕ) (pairs : List Pair) : Type 0 where
  pub old : IsBehind was i p
  pub room : HasRoom was.nodes pairs p
  pub within : q < length now.nodes

pub are_compared :
    (was now : DescV) (i j p q : ℕ) (n x m y : Node) (pairs : List Pair) → IsDescription was → IsDescription now → HasRoom was.nodes pairs i
    → slice_get was.nodes i ≡ Some x → x ≡ n → shows_earlier n ≡ false → slice_get (parts_of n) 0 ≡ Some p
    → slice_get now.nodes j ≡ Some y → y ≡ m → slice_get (parts_of m) 0 ≡ Some q → AreCompared was now i p q pairs
are_compared was now i j p q n x m y pairs old new room at is hides part across other inside =
    record {
      old = is_behind was i 0 p n x old at is part;
      room = room_below was.nodes i 0 p n pairs room (at ∙ ap (λ k. Some k) is) hides part;
      within = (is_behind now j 0 q m y new across other inside).within;
    }

-- ---- lists that go on

pub extends_none : (pairs : List Pair) → (more : List Pair) × (pairs ≡ pairs ++ more)
extends_none pairs = ([], sym (append-nil pairs))

-- the front of a list that goes on
pub extends_front : (pairs longer more : List Pair) → longer ≡ pairs ++ more → take (length pairs) longer ≡ pairs
extends_front pairs longer more is = ap (take (length pairs)) is ∙ take-append_seam pairs more

-- a pair more
pub extends_more : (was now : DescV) (p q : ℕ) (pairs before after : List Pair) → (more : List Pair)
    × (before ≡ pairs ++ more) → after ≡ with_kept was now p q before → (more : List Pair) × (after ≡ pairs ++ more)
extends_more was now p q pairs before after h next =
    let kept = kept_extends was now p q before in
    (h.0 ++ kept.0, next ∙ kept.1 ∙ ap (λ x. x ++ kept.0) h.1 ∙ append_assoc pairs h.0 kept.0)

-- what holds of the elements at the places below k, and of that at k
pub up_to : (P : ℕ → ℕ → Type 0) (xs : List ℕ) (k x : ℕ) → slice_get xs k ≡ Some x → P k x
    → ((m y : ℕ) → m < k → slice_get xs m ≡ Some y → P m y) → (m y : ℕ) → m < k + 1 → slice_get xs m ≡ Some y → P m y
up_to P xs k x at here before m y less there = elim (cases_order m k) [
  | inl same ↦
      let equal : slice_get xs k ≡ Some y = ap (slice_get xs) (sym same) ∙ there in
      let one : x ≡ y = cc in
      subst (λ z. P m z) one (subst (λ z. P z x) (sym same) here)
  | inr order ↦ elim order [
    | inl below ↦ before m y below there
    | inr above ↦ absurd (omega arith)
  ]
]
