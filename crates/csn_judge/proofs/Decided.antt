-- A choice decides by the bits at hand: the alternative whose key they begin with, or the one that takes none.
use Rattle.std.proofs.Common.{◌≡◌, ℕ, suc, ◌+◌, ◌%◌, ◌<◌, ◌≤◌, ◌⊎◌, inl, inr, Bool, false, List, [], ◌∷◌, ◌++◌}
use Rattle.std.proofs.Common.{length, refl, sym, ap, subst, arith, append-nil, length-append, Option, Some, slice_get}
use Rattle.csn_desc.specs.declared.node.Node.TheVariants.{Choice}
use Rattle.csn_desc.specs.Nodes.{DescV}
use Rattle.csn_desc.specs.Values.{Values}
use Rattle.csn_desc.specs.Formed.{Formed}
use Rattle.csn_desc.specs.Follows.{NFollow}
use Rattle.csn_look.specs.Keys.{InKeys}
use Rattle.csn_desc.proofs.Nodewise.{parts_there}
use Rattle.csn_certify.specs.declared.pick.Pick.{Pick}
use Rattle.csn_certify.specs.declared.pick.Pick.TheVariants.{Take, Wait, Refuse}
use Rattle.csn_certify.specs.Picks.{BeginsWithKey, StandsBehind, behind_bit, TakesNone, Picks, pick_key, pick_none}
use Rattle.csn_certify.specs.Picks.{pick_wait, pick_refuse, pick_again, pick_leave}
use Rattle.csn_certify.specs.CountedValues.{fields_of}
use Rattle.csn_certify.proofs.CountedValues.{fields_have_values}
use Rattle.csn_certify.proofs.MoreHeld.{key_on}
use Rattle.csn_judge.specs.Known.{Known}
use Rattle.csn_judge.specs.Left.{Left, choice_left}
use Rattle.csn_judge.specs.Remains.{Within}
use Rattle.csn_judge.specs.Inside.{IsStack, stack_node, of_all, of_choice}
use Rattle.csn_judge.proofs.Choosing.{node_empty}
use Rattle.csn_judge.proofs.LookAhead.{Decides, within_less}
use Rattle.csn_judge.proofs.Stacks.{Begun, begun_of, alternative_begun, first_next}
use Rattle.csn_judge.proofs.Turning.{moving}

module _ (d : DescV) where
  -- a choice has alternatives
  pub has_alternatives : {seen : List ℕ} {round k : ℕ} (parts : List ℕ) → slice_get d.nodes k ≡ Some (Choice parts)
      → Formed d.nodes seen round k → 2 ≤ length parts
  has_alternatives parts at is = parts_there d.nodes at is

  -- the choice that is open is the node of the frame: its first alternative is the node behind it
  pub choice_at : {next k : ℕ} {fresh : Option ℕ} {parts : List ℕ} {v : Values} {outer : List Left} {done : List ℕ} → Known d
      → slice_get d.nodes k ≡ Some (Choice parts) → IsStack d next fresh (choice_left parts v ∷ outer) done
      → Begun d fresh k v outer done × (next ≡ suc k)
  choice_at {next} {k} {fresh} {parts} {v} {outer} {done} known at (stack_node i from w bits ready (of_choice here same place just) inner) =
      let begun = begun_of d {next = suc i} (stack_node i from w bits ready (of_all same place refl) inner) in
      let equal = by parts (has_alternatives parts here ready.formed) here at in
      let P : ℕ → Type 0 = λ n. Begun d fresh n v outer done × (next ≡ suc n) in
      subst P equal (begun, just)
    where
      by : (all : List ℕ) → 2 ≤ length all → slice_get d.nodes i ≡ Some (Choice all) → slice_get d.nodes k ≡ Some (Choice all) → i ≡ k
      by [] few one other = absurd (omega (arith, few))
      by (p ∷ ps) few one other =
          let first = first_next d 12 known.description known.certified one refl in
          let second = first_next d 12 known.description known.certified other refl in
          omega (arith, first, second)

  none_longer : {node octet bit i : ℕ} {parts rest : List ℕ} (more : List ℕ)
      → TakesNone d 12 node parts octet (bit ∷ rest) false i → TakesNone d 12 node parts octet ((bit ∷ rest) ++ more)
      false i
  none_longer more none = record { part = none.part; is_part = none.is_part; is_null = none.is_null; behind = by none.behind }
    where
      by : {node octet bit : ℕ} {rest : List ℕ} → StandsBehind d 12 node octet (bit ∷ rest) false → StandsBehind d 12 node octet ((bit ∷ rest) ++ more) false
      by (behind_bit follows) = behind_bit follows

  -- what is taken is an alternative whose key they begin with, or the one that takes none
  takes_of : {k octet bit j : ℕ} {parts rest : List ℕ} → slice_get d.nodes k ≡ Some (Choice parts) → Picks d 12 k octet (bit ∷ rest) false (Take j)
      → BeginsWithKey d 12 parts octet (bit ∷ rest) j ⊎ (((i : ℕ) → ¬ BeginsWithKey d 12 parts octet (bit ∷ rest) i)
      × TakesNone d 12 k parts octet (bit ∷ rest) false j)
  takes_of {octet = octet} {bit} {j} {parts} {rest} at (pick_key some here key) =
      let same : some ≡ parts = cc in
      let P : List ℕ → Type 0 = λ l. BeginsWithKey d 12 l octet (bit ∷ rest) j in
      inl (subst P same key)
  takes_of {k} {octet} {bit} {j} {parts} {rest} at (pick_none some here never none) =
      let same : some ≡ parts = cc in
      let P : List ℕ → Type 0 = λ l. TakesNone d 12 k l octet (bit ∷ rest) false j in
      let Q : List ℕ → Type 0 = λ l. (i : ℕ) → ¬ BeginsWithKey d 12 l octet (bit ∷ rest) i in
      inr (subst Q same never, subst P same none)
  takes_of at (pick_again part many start) = absurd (cc)

  -- what is taken with some bits is not refused with more
  pub not_refused : {k octet bit j : ℕ} {parts rest : List ℕ} (more : List ℕ) → slice_get d.nodes k ≡ Some (Choice parts)
      → Picks d 12 k octet (bit ∷ rest) false (Take j) → ¬ Picks d 12 k octet ((bit ∷ rest) ++ more) false Refuse
  not_refused {k} {octet} {bit} {j} {parts} {rest} more at takes (pick_refuse others other no_key no_none no_wait) =
      let same : others ≡ parts = cc in
      let P : List ℕ → Type 0 = λ l. ¬ BeginsWithKey d 12 l octet ((bit ∷ rest) ++ more) j in
      let Q : List ℕ → Type 0 = λ l. ¬ TakesNone d 12 k l octet ((bit ∷ rest) ++ more) false j in
      elim (takes_of at takes) [
        | inl key ↦ subst P same (no_key j) (key_on d 12 (more, refl) key)
        | inr none ↦ subst Q same (no_none j) (none_longer more none.1)
      ]

  -- where it does not refuse bits, and refuses one more, it waits with them
  pub waits_or_refuses : {k octet : ℕ} {answer : Pick} {parts : List ℕ} (alike : List ℕ) (bit : ℕ)
      → 0 < length alike → slice_get d.nodes k ≡ Some (Choice parts)
      → Picks d 12 k octet alike false answer → ¬ (answer ≡ Refuse) → Picks d 12 k octet (alike ++ bit ∷ []) false Refuse → Picks d 12 k octet alike false Wait
  waits_or_refuses [] bit some at picks not more = absurd (omega (arith, some))
  waits_or_refuses (b ∷ alike) bit some at (pick_key parts here key) not more = absurd (not_refused (bit ∷ []) at (pick_key parts here key) more)
  waits_or_refuses (b ∷ alike) bit some at (pick_none parts here never none) not more =
      absurd (not_refused (bit ∷ []) at (pick_none parts here never none) more)
  waits_or_refuses (b ∷ alike) bit some at (pick_wait parts here never none going begins) not more = pick_wait parts here never none going begins
  waits_or_refuses (b ∷ alike) bit some at (pick_refuse parts here never none begins) not more = absurd (not refl)
  waits_or_refuses (b ∷ alike) bit some at (pick_again part many start) not more = absurd (cc)
  waits_or_refuses (b ∷ alike) bit some at (pick_leave part many start) not more = absurd (cc)

  -- the first of the held bits that decide
  pub record Decided (k part j : ℕ) (parts : List ℕ) (v : Values) (outer : List Left) (done held : List ℕ) (known : Known d) : Type 0 where
    pub word : List ℕ
    pub more : List ℕ
    pub is : held ≡ word ++ more
    pub how : Decides d 12 known.description known.certified (moving d known) known k part j parts v outer done word

  -- an alternative follows no bits
  pub part_empty : {fresh : Option ℕ} {k part : ℕ} {parts : List ℕ} {v : Values} {outer : List Left} {done : List ℕ} (j : ℕ) (known : Known d)
      → slice_get d.nodes k ≡ Some (Choice parts) → slice_get parts j ≡ Some part → Begun d fresh k v outer done → NFollow d part (length done) v []
  part_empty {v = v} {done = done} j known at here begun =
      node_empty d (moving d known) known.empties (length done) v (alternative_begun d 12 known.description known.certified j at here begun).ready.formed

  module _ {fresh : Option ℕ} {k part j bit : ℕ} {parts rest : List ℕ} {v : Values} {outer : List Left} {done : List ℕ} (known : Known d)
      (at : slice_get d.nodes k ≡ Some (Choice parts)) (here : slice_get parts j ≡ Some part) (begun : Begun d fresh k v outer done)
      (within : Within outer (length done + length (bit ∷ rest))) where
    decides : (word more : List ℕ) → bit ∷ rest ≡ word ++ more → 0 < length word → Picks d 12 k (length done % 8) word false (Take j)
        → ((y r : List ℕ) → word ≡ y ++ r → 0 < length r → NFollow d part (length done) v y) → Decided k part j parts v outer done (bit ∷ rest) known
    decides word more e some picks fronts =
        record {
          word = word;
          more = more;
          is = e;
          how = record {
            at = at;
            is_part = here;
            ready = begun.ready;
            fresh = fresh;
            inner = begun.inner;
            some = some;
            picks = picks;
            within = within_less outer (length done + length word) (length done + length (bit ∷ rest))
                (omega (arith, ap (λ l. length l) e, length-append word more)) within;
            fronts = fronts;
          };
        }

    -- by the first bit
    one_decides : Picks d 12 k (length done % 8) (bit ∷ []) false (Take j) → Decided k part j parts v outer done (bit ∷ rest) known
    one_decides picks =
        decides (bit ∷ []) rest refl (omega arith) picks fronts
      where
        fronts : (y r : List ℕ) → bit ∷ [] ≡ y ++ r → 0 < length r → NFollow d part (length done) v y
        fronts [] r e some = part_empty j known at here begun
        fronts (a ∷ y) r e some = absurd (omega (arith, ap (λ l. length l) e, length-append y r, some))

    -- by a key that they begin with
    key_decides : (word more : List ℕ) (mark : Bool) → bit ∷ rest ≡ word ++ more → InKeys d 12 part (length done % 8) word mark
        → Picks d 12 k (length done % 8) (bit ∷ []) false (Take j) ⊎ (0 < length word)
        → Picks d 12 k (length done % 8) word false (Take j) → Decided k part j parts v outer done (bit ∷ rest) known
    key_decides word more mark e key (inl one) picks = one_decides one
    key_decides word more mark e key (inr some) picks =
        decides word more e some picks fronts
      where
        fronts : (y r : List ℕ) → word ≡ y ++ r → 0 < length r → NFollow d part (length done) v y
        fronts y r cut longer =
            let P : List ℕ → Type 0 = λ l. InKeys d 12 part (length done % 8) l mark in
            let formed_part = (alternative_begun d 12 known.description known.certified j at here begun).ready.formed in
            known.keys d 12 (fields_of v) (suc (length outer)) part (length done) v y r mark formed_part (fields_have_values v) (subst P cut key)

    pub decided : Picks d 12 k (length done % 8) (bit ∷ rest) false (Take j) → Decided k part j parts v outer done (bit ∷ rest) known
    decided picks = elim (takes_of at picks) [ inl key ↦ by_key key | inr none ↦ by_none none.0 none.1 ]
      where
        by_none : ((i : ℕ) → ¬ BeginsWithKey d 12 parts (length done % 8) (bit ∷ rest) i)
            → TakesNone d 12 k parts (length done % 8) (bit ∷ rest) false j → Decided k part j parts v outer done
            (bit ∷ rest) known
        by_none never found =
            one_decides (pick_none parts at (λ i key. never i (key_on d 12 (rest, refl) key))
            (record {
              part = found.part;
              is_part = found.is_part;
              is_null = found.is_null;
              behind =
                  by found.behind;
            }))
          where
            by : StandsBehind d 12 k (length done % 8) (bit ∷ rest) false → StandsBehind d 12 k (length done % 8) (bit ∷ []) false
            by (behind_bit follows) = behind_bit follows

        by_key : BeginsWithKey d 12 parts (length done % 8) (bit ∷ rest) j → Decided k part j parts v outer done (bit ∷ rest) known
        by_key found =
            let equal : found.part ≡ part = let f = found.is_part in cc in
            let P : ℕ → Type 0 = λ n. InKeys d 12 n (length done % 8) found.word found.mark in
            key_decides found.word found.begins.0 found.mark found.begins.1 (subst P equal found.key) (first found.word refl)
            (pick_key parts at (record { own = found.own; takes_bits = found.takes_bits; begins = ([], sym (append-nil found.word)) }))
          where
            first : (word : List ℕ) → found.word ≡ word → Picks d 12 k (length done % 8) (bit ∷ []) false (Take j) ⊎ (0 < length found.word)
            first [] none =
                inl (pick_key parts at (record {
                  own = found.own;
                  takes_bits = found.takes_bits;
                  begins =
                      (bit ∷ [], ap (λ l. l ++ bit ∷ []) (sym none));
                }))
            first (a ∷ word) some = inr (omega (arith, ap (λ l. length l) some))
