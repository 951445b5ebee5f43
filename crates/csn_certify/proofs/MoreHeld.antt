-- What look-ahead takes with some held bits, it takes with more.
use Rattle.std.proofs.Common.{◌≡◌, ℕ, ◌%◌, Bool, false, List, [], ◌∷◌, ◌++◌, sym, ◌∙◌, ap, subst, arith, append_assoc, refl, Some, slice_get}
use Rattle.csn_desc.specs.declared.node.Node.TheVariants.{Choice}
use Rattle.csn_desc.specs.Nodes.{DescV}
use Rattle.csn_desc.specs.Formed.{IsDescription}
use Rattle.csn_look.specs.Starts.{InStart}
use Rattle.csn_look.specs.Keys.{InKeys}
use Rattle.csn_look.specs.Reached.{Reached}
use Rattle.csn_look.specs.Laws.{KeysStart, KeysOfFirmNodesHaveBits, ReachedAreOctets}
use Rattle.csn_certify.specs.declared.conflict.Conflict.TheVariants.{NotFirm, EmptyClash}
use Rattle.csn_certify.specs.declared.pick.Pick.TheVariants.{Take}
use Rattle.csn_certify.specs.Conflicts.{IsNull, IsBegunBy, choice_not_firm, empty_clash, Certified}
use Rattle.csn_certify.specs.Picks.{IsAsked, asked_choice, asked_many, BeginsWithKey, StandsBehind, behind_bit}
use Rattle.csn_certify.specs.Picks.{behind_end, TakesNone, Picks, pick_key, pick_none, pick_again}

-- bits that begin with a key begin with it where they go on
pub key_on : (d : DescV) (most : ℕ) {octet j : ℕ} {parts held front : List ℕ}
    → IsBegunBy held front → BeginsWithKey d most parts octet front j → BeginsWithKey d most parts octet held j
key_on d most begun h =
    record {
      own = h.own;
      takes_bits = h.takes_bits;
      begins = (h.begins.0 ++ begun.0, begun.1 ∙ ap (λ l. l ++ begun.0) h.begins.1 ∙ append_assoc h.word h.begins.0 begun.0);
    }

module _ (starts : KeysStart) (firm : KeysOfFirmNodesHaveBits) (octets : ReachedAreOctets) (d : DescV) (most : ℕ)
    (is : IsDescription d) (certified : Certified d most) where
  -- beside an alternative that takes no bits, where a bit stands that may stand behind the choice, no key begins with it
  module _ (node octet bit i : ℕ) (parts rest : List ℕ) (at : slice_get d.nodes node ≡ Some (Choice parts))
      (reached : Reached d node octet) (none : TakesNone d most node parts octet (bit ∷ rest) false i) where
    no_start : {q : ℕ} (j : ℕ) → slice_get parts j ≡ Some q → (IsNull d q → ⊥) → InStart d q octet bit → StandsBehind d most node octet (bit ∷ rest) false → ⊥
    no_start {q} j at_j real start (behind_bit follow) =
        certified (EmptyClash node octet bit) (empty_clash at reached none.is_part none.is_null at_j differs start follow)
      where
        differs : j ≡ i → ⊥
        differs same =
            let its = none.is_part in
            let one : none.part ≡ q = cc in
            let P : ℕ → Type 0 = λ p. IsNull d p in
            real (subst P one none.is_null)

    no_key : {j : ℕ} (more : List ℕ) → BeginsWithKey d most parts octet (bit ∷ (rest ++ more)) j → ⊥
    no_key {j} more h = by_word h.word h.key h.begins.1
      where
        by_word : (word : List ℕ) → InKeys d most h.part octet word h.mark → bit ∷ (rest ++ more) ≡ word ++ h.begins.0 → ⊥
        by_word [] key e =
            let some = firm d most h.part octet [] h.mark
            (λ never. certified (NotFirm node j) (choice_not_firm at h.is_part h.takes_bits never))
            (octets d node octet reached) key in
            omega arith
        by_word (a ∷ r) key e =
            let small = octets d node octet reached in
            let same : octet ≡ octet % 8 = omega arith in
            let first : a ≡ bit = cc in
            let P : ℕ → Type 0 = λ o. InKeys d most h.part o (a ∷ r) h.mark in
            let Q : ℕ → Type 0 = λ o. InStart d h.part o a in
            let R : ℕ → Type 0 = λ b. InStart d h.part octet b in
            no_start j h.is_part h.takes_bits (subst R first (subst Q (sym same) (starts d most h.part octet a r h.mark is (subst P same key)))) none.behind

  none_held : {node octet i : ℕ} {parts held : List ℕ} {ended : Bool} (more : List ℕ)
      → slice_get d.nodes node ≡ Some (Choice parts)
      → Reached d node octet → TakesNone d most node parts octet held false i
      → StandsBehind d most node octet held false → Picks d most node octet (held ++ more) ended (Take i)
  none_held {node} {octet} {i} {parts} more at reached none (behind_bit {bit = bit} {rest = rest} follow) =
      pick_none parts at (λ j h. no_key node octet bit i parts rest at reached none more h)
      (record { part = none.part; is_part = none.is_part; is_null = none.is_null; behind = behind_bit follow })
  none_held more at reached none (behind_end never) = absurd (cc)

  reached_choice : {node octet : ℕ} {parts : List ℕ} → slice_get d.nodes node ≡ Some (Choice parts) → IsAsked d node octet → Reached d node octet
  reached_choice at (asked_choice those is_choice reached) = reached
  reached_choice at (asked_many part is_many reached) = absurd (cc)

  pub takes_stay : {node octet j : ℕ} {held : List ℕ} {ended : Bool} (more : List ℕ)
      → IsAsked d node octet → Picks d most node octet held false (Take j)
      → Picks d most node octet (held ++ more) ended (Take j)
  takes_stay more asked (pick_key parts at h) = pick_key parts at (key_on d most (more, refl) h)
  takes_stay more asked (pick_none parts at absent none) = none_held more at (reached_choice at asked) none none.behind
  takes_stay more asked (pick_again part at start) = pick_again part at start
