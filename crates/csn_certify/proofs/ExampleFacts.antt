-- That the worked examples hold.
use Rattle.std.proofs.Common.{◌≡◌, ℕ, zero, suc, ◌<◌, ◌⊎◌, inl, inr, Bool, true, false, List, [], ◌∷◌, refl, sym, ◌∙◌}
use Rattle.std.proofs.Common.{ap, subst, arith, Some, slice_get, lit<, lit≤}
use Rattle.csn_desc.specs.declared.symbol.Symbol.{Symbol}
use Rattle.csn_desc.specs.declared.symbol.Symbol.TheVariants.{Zero, One}
use Rattle.csn_desc.specs.declared.node.Count.{Count}
use Rattle.csn_desc.specs.declared.node.Node.{Node}
use Rattle.csn_desc.specs.declared.node.Node.TheVariants.{Null, Lits, Choice, Times, Many}
use Rattle.csn_look.specs.Nullable.{Nullable, NodeNullable}
use Rattle.csn_look.specs.Keys.{Cut, kept, cut, InKeys, NodeKeys, keys_lits, IsNotFirm}
use Rattle.csn_look.proofs.Meaning.LeastSets.{nullable_of, keys_at, as_keys}
use Rattle.csn_certify.specs.declared.pick.Pick.TheVariants.{Take, Wait}
use Rattle.csn_certify.specs.Conflicts.{IsNull, IsBegunBy, IsLast, two_empty, choice_not_firm, many_not_firm}
use Rattle.csn_certify.specs.Conflicts.{times_not_firm, overlap, empty_clash, loop_clash, not_last, Certified}
use Rattle.csn_certify.specs.Picks.{BeginsWithKey, Picks, pick_key, pick_wait}
use Rattle.csn_certify.specs.Examples.{zero_or_one}

-- ---- its nodes

data IsNode (i : ℕ) (n : Node) : Type 0 where
  root : i ≡ 0 → n ≡ Choice (1 ∷ 2 ∷ []) → IsNode i n
  left : i ≡ 1 → n ≡ Lits (Zero ∷ []) → IsNode i n
  right : i ≡ 2 → n ≡ Lits (One ∷ []) → IsNode i n

node_is : (i : ℕ) (n : Node) → slice_get zero_or_one.nodes i ≡ Some n → IsNode i n
node_is zero n at = root refl (cc)
node_is (suc zero) n at = left refl (cc)
node_is (suc (suc zero)) n at = right refl (cc)
node_is (suc (suc (suc i))) n at = absurd (cc)

no_null : (i : ℕ) → IsNull zero_or_one i → ⊥
no_null i at = by_node (node_is i Null at)
  where
    by_node : IsNode i Null → ⊥
    by_node (root is same) = cc
    by_node (left is same) = cc
    by_node (right is same) = cc

no_many : (i : ℕ) {p : ℕ} → slice_get zero_or_one.nodes i ≡ Some (Many p) → ⊥
no_many i {p} at = by_node (node_is i (Many p) at)
  where
    by_node : IsNode i (Many p) → ⊥
    by_node (root is same) = cc
    by_node (left is same) = cc
    by_node (right is same) = cc

no_times : (i : ℕ) {p : ℕ} {count : Count} → slice_get zero_or_one.nodes i ≡ Some (Times count p) → ⊥
no_times i {p} {count} at = by_node (node_is i (Times count p) at)
  where
    by_node : IsNode i (Times count p) → ⊥
    by_node (root is same) = cc
    by_node (left is same) = cc
    by_node (right is same) = cc

no_last : (i : ℕ) (n : Node) → slice_get zero_or_one.nodes i ≡ Some n → IsLast n → ⊥
no_last i n at last = by_node (node_is i n at)
  where
    by_node : IsNode i n → ⊥
    by_node (root is same) = elim (subst (λ m. IsLast m) same last) [ ]
    by_node (left is same) = elim (subst (λ m. IsLast m) same last) [ ]
    by_node (right is same) = elim (subst (λ m. IsLast m) same last) [ ]

parts_are : (i : ℕ) {parts : List ℕ} → slice_get zero_or_one.nodes i ≡ Some (Choice parts) → parts ≡ 1 ∷ 2 ∷ []
parts_are i {parts} at = by_node (node_is i (Choice parts) at)
  where
    by_node : IsNode i (Choice parts) → parts ≡ 1 ∷ 2 ∷ []
    by_node (root is same) = cc
    by_node (left is same) = absurd (cc)
    by_node (right is same) = absurd (cc)

data IsPart (j p : ℕ) : Type 0 where
  part_left : j ≡ 0 → p ≡ 1 → IsPart j p
  part_right : j ≡ 1 → p ≡ 2 → IsPart j p

part_is : (j p : ℕ) → slice_get (1 ∷ 2 ∷ []) j ≡ Some p → IsPart j p
part_is zero p at = part_left refl (cc)
part_is (suc zero) p at = part_right refl (cc)
part_is (suc (suc j)) p at = absurd (cc)

part_of : (i : ℕ) {j p : ℕ} {parts : List ℕ} → slice_get zero_or_one.nodes i ≡ Some (Choice parts) → slice_get parts j ≡ Some p → IsPart j p
part_of i {j = j} {p = p} at at_j = part_is j p (subst (λ l. slice_get l j ≡ Some p) (parts_are i at) at_j)

-- ---- their keys

key_of : {word : List ℕ} {mark : Bool} (bit : ℕ) → Cut 12 (bit ∷ []) true word mark → word ≡ bit ∷ []
key_of bit (kept short is whole) = is
key_of bit (cut long is whole) = absurd (omega arith)

key_left : {o : ℕ} {word : List ℕ} {mark : Bool} → InKeys zero_or_one 12 1 o word mark → word ≡ 0 ∷ []
key_left {o} {word} {mark} h = of_lits (as_keys refl h)
  where
    of_lits : NodeKeys zero_or_one 12 (Lits (Zero ∷ [])) o word mark → word ≡ 0 ∷ []
    of_lits (keys_lits h) = key_of 0 h

key_right : {o : ℕ} {word : List ℕ} {mark : Bool} → InKeys zero_or_one 12 2 o word mark → word ≡ 1 ∷ []
key_right {o} {word} {mark} h = of_lits (as_keys refl h)
  where
    of_lits : NodeKeys zero_or_one 12 (Lits (One ∷ [])) o word mark → word ≡ 1 ∷ []
    of_lits (keys_lits h) = key_of 1 h

key_is : {j p o : ℕ} {word : List ℕ} {mark : Bool} → IsPart j p → InKeys zero_or_one 12 p o word mark → word ≡ j ∷ []
key_is {j} {p} {o} {word} {mark} (part_left is same) key = key_left (subst (λ i. InKeys zero_or_one 12 i o word mark) same key) ∙ ap (λ b. b ∷ []) (sym is)
key_is {j} {p} {o} {word} {mark} (part_right is same) key = key_right (subst (λ i. InKeys zero_or_one 12 i o word mark) same key) ∙ ap (λ b. b ∷ []) (sym is)

no_bits : {s : Symbol} → NodeNullable zero_or_one (Lits (s ∷ [])) → ⊥
no_bits h = elim h [ ]

not_nullable : {j p : ℕ} → IsPart j p → Nullable zero_or_one p → ⊥
not_nullable {p = p} part null = let u = nullable_of null in by_node (node_is p u.node u.at) part u.has
  where
    by_node : {j : ℕ} {n : Node} → IsNode p n → IsPart j p → NodeNullable zero_or_one n → ⊥
    by_node (root is same) (part_left a b) h = absurd (omega arith)
    by_node (root is same) (part_right a b) h = absurd (omega arith)
    by_node (left is same) q h = no_bits (subst (λ m. NodeNullable zero_or_one m) same h)
    by_node (right is same) q h = no_bits (subst (λ m. NodeNullable zero_or_one m) same h)

firm : {j p : ℕ} → IsPart j p → IsNotFirm zero_or_one 12 p → ⊥
firm part (inl empty) = not_nullable part empty
firm part (inr (o, small, mark, key)) = let is = key_is part key in absurd (cc)

-- ---- no conflict

apart : {i j : ℕ} {v w : List ℕ} → i < j → v ≡ i ∷ [] → w ≡ j ∷ [] → IsBegunBy v w ⊎ IsBegunBy w v → ⊥
apart {i} {j} less a b (inl (rest, is)) = let same : i ≡ j = cc in absurd (omega arith)
apart {i} {j} less a b (inr (rest, is)) = let same : i ≡ j = cc in absurd (omega arith)

pub certified : Certified zero_or_one 12
certified c (two_empty {p = p} at less at_i at_j null other) = no_null p null
certified c (choice_not_firm {node = node} at at_i real not_firm) = firm (part_of node at at_i) not_firm
certified c (many_not_firm {node = node} at is not_firm) = no_many node at
certified c (times_not_firm {node = node} at is empty) = no_times node at
certified c (overlap {node = node} mark_i mark_j at reached less at_i at_j real_i real_j key_i key_j either) =
    apart less (key_is (part_of node at at_i) key_i) (key_is (part_of node at at_j) key_j) either
certified c (empty_clash {p = p} at reached at_i null at_j differs start follow) = no_null p null
certified c (loop_clash {node = node} at reached start follow) = no_many node at
certified c (not_last {node = node} n from at last reached ends follow) = no_last node n at last

-- ---- its picks

pub second : Picks zero_or_one 12 0 0 (1 ∷ []) false (Take 1)
second =
    pick_key (1 ∷ 2 ∷ []) refl
    (record {
      own = record {
        part = 2;
        word = 1 ∷ [];
        mark = true;
        is_part = refl;
        key =
            keys_at _ refl (keys_lits (kept (lit≤ tt) refl refl));
      };
      takes_bits = λ null. no_null 2 null;
      begins =
          ([], refl);
    })

no_key : (j : ℕ) → BeginsWithKey zero_or_one 12 (1 ∷ 2 ∷ []) 0 [] j → ⊥
no_key j h =
    let word = key_is (part_is j h.part h.is_part) h.key in
    let begins = h.begins.1 in
    absurd (cc)

pub bit_needed : Picks zero_or_one 12 0 0 [] false Wait
bit_needed =
    pick_wait (1 ∷ 2 ∷ []) refl no_key (λ i t. no_null t.part t.is_null) refl
    (record {
      j = 0;
      own = record {
        part = 1;
        word = 0 ∷ [];
        mark = true;
        is_part = refl;
        key =
            keys_at _ refl (keys_lits (kept (lit≤ tt) refl refl));
      };
      begins = (0 ∷ [], refl);
      not_all = lit< tt;
    })
