-- Look-ahead has one answer: of two alternatives whose keys both begin the held bits one key begins with the
-- other, and two alternatives do not both take no bits.
use Rattle.std.proofs.Common.{◌≡◌, ℕ, Bool, true, false, List, [], ◌∷◌, refl, sym, ◌∙◌, ap, subst, Some, slice_get}
use Rattle.csn_desc.specs.declared.node.Node.TheVariants.{Choice, Many}
use Rattle.csn_desc.specs.Nodes.{DescV}
use Rattle.csn_look.specs.Starts.{InStart}
use Rattle.csn_look.specs.Reached.{Reached}
use Rattle.csn_claims.proofs.Pieces.{order, equal_numbers, first_less, second_less, begun_both}
use Rattle.csn_certify.specs.declared.conflict.Conflict.TheVariants.{TwoEmpty, Overlap}
use Rattle.csn_certify.specs.declared.pick.Pick.{Pick}
use Rattle.csn_certify.specs.declared.pick.Pick.TheVariants.{Take, Leave, Wait, Refuse}
use Rattle.csn_certify.specs.Conflicts.{Certified, two_empty, overlap}
use Rattle.csn_certify.specs.Picks.{IsAsked, asked_choice, asked_many, BeginsWithKey, BeginsKey, TakesNone, Picks}
use Rattle.csn_certify.specs.Picks.{pick_key, pick_none, pick_wait, pick_refuse, pick_bit, pick_again, pick_leave}
use Rattle.csn_certify.specs.Picks.{pick_ended}

module _ (d : DescV) (most : ℕ) where
  -- an answer at a choice with these alternatives
  data Chosen (node octet : ℕ) (parts held : List ℕ) (ended : Bool) (p : Pick) : Type 0 where
    by_key : (j : ℕ) → p ≡ Take j → BeginsWithKey d most parts octet held j → Chosen node octet parts held ended p
    by_none :
        (i : ℕ) → p ≡ Take i → ((j : ℕ) → ¬ BeginsWithKey d most parts octet held j)
        → TakesNone d most node parts octet held ended i
        → Chosen node octet parts held ended p
    later :
        p ≡ Wait → ((j : ℕ) → ¬ BeginsWithKey d most parts octet held j)
        → ((i : ℕ) → ¬ TakesNone d most node parts octet held ended i) → ended ≡ false
        → BeginsKey d most parts octet held
        → Chosen node octet parts held ended p
    never :
        p ≡ Refuse → ((j : ℕ) → ¬ BeginsWithKey d most parts octet held j)
        → ((i : ℕ) → ¬ TakesNone d most node parts octet held ended i)
        → (ended ≡ false → ¬ BeginsKey d most parts octet held)
        → Chosen node octet parts held ended p

  chosen : {node octet : ℕ} {parts held : List ℕ} {ended : Bool} {p : Pick}
      → slice_get d.nodes node ≡ Some (Choice parts) → Picks d most node octet held ended p
      → Chosen node octet parts held ended p
  chosen {octet = octet} {parts = parts} {held = held} at (pick_key {j = j} those is h) =
      let same : those ≡ parts = cc in
      let P : List ℕ → Type 0 = λ l. BeginsWithKey d most l octet held j in
      by_key j refl (subst P same h)
  chosen {node} {octet} {parts} {held} {ended} at (pick_none {i = i} those is no_key h) =
      let same : those ≡ parts = cc in
      let P : List ℕ → Type 0 = λ l. (j : ℕ) → ¬ BeginsWithKey d most l octet held j in
      let Q : List ℕ → Type 0 = λ l. TakesNone d most node l octet held ended i in
      by_none i refl (subst P same no_key) (subst Q same h)
  chosen {node} {octet} {parts} {held} {ended} at (pick_wait those is no_key no_none goes_on h) =
      let same : those ≡ parts = cc in
      let P : List ℕ → Type 0 = λ l. (j : ℕ) → ¬ BeginsWithKey d most l octet held j in
      let Q : List ℕ → Type 0 = λ l. (i : ℕ) → ¬ TakesNone d most node l octet held ended i in
      let R : List ℕ → Type 0 = λ l. BeginsKey d most l octet held in
      later refl (subst P same no_key) (subst Q same no_none) goes_on (subst R same h)
  chosen {node} {octet} {parts} {held} {ended} at (pick_refuse those is no_key no_none no_more) =
      let same : those ≡ parts = cc in
      let P : List ℕ → Type 0 = λ l. (j : ℕ) → ¬ BeginsWithKey d most l octet held j in
      let Q : List ℕ → Type 0 = λ l. (i : ℕ) → ¬ TakesNone d most node l octet held ended i in
      let R : List ℕ → Type 0 = λ l. ended ≡ false → ¬ BeginsKey d most l octet held in
      never refl (subst P same no_key) (subst Q same no_none) (subst R same no_more)
  chosen at (pick_bit part is goes_on) = absurd (cc)
  chosen at (pick_again part is start) = absurd (cc)
  chosen at (pick_leave part is absent) = absurd (cc)
  chosen at (pick_ended part is ended) = absurd (cc)

  -- an answer at a free repetition of this part
  data Turned (part octet : ℕ) (held : List ℕ) (ended : Bool) (p : Pick) : Type 0 where
    needs_bit : p ≡ Wait → held ≡ [] → ended ≡ false → Turned part octet held ended p
    again : (bit : ℕ) (rest : List ℕ) → p ≡ Take 0 → held ≡ bit ∷ rest → InStart d part octet bit → Turned part octet held ended p
    over : (bit : ℕ) (rest : List ℕ) → p ≡ Leave → held ≡ bit ∷ rest → ¬ InStart d part octet bit → Turned part octet held ended p
    at_end : p ≡ Leave → held ≡ [] → ended ≡ true → Turned part octet held ended p

  turned : {node part octet : ℕ} {held : List ℕ} {ended : Bool} {p : Pick} → slice_get d.nodes node ≡ Some (Many part)
      → Picks d most node octet held ended p → Turned part octet held ended p
  turned at (pick_bit those is goes_on) = needs_bit refl refl goes_on
  turned {part = part} {octet = octet} at (pick_again {bit = bit} {rest = rest} those is start) =
      let same : those ≡ part = cc in
      let P : ℕ → Type 0 = λ i. InStart d i octet bit in
      again bit rest refl refl (subst P same start)
  turned {part = part} {octet = octet} at (pick_leave {bit = bit} {rest = rest} those is absent) =
      let same : those ≡ part = cc in
      let P : ℕ → Type 0 = λ i. ¬ InStart d i octet bit in
      over bit rest refl refl (subst P same absent)
  turned at (pick_ended those is ended) = at_end refl refl ended
  turned at (pick_key parts is h) = absurd (cc)
  turned at (pick_none parts is no_key h) = absurd (cc)
  turned at (pick_wait parts is no_key no_none goes_on h) = absurd (cc)
  turned at (pick_refuse parts is no_key no_none no_more) = absurd (cc)

  start_of : {part octet a b : ℕ} {held r s : List ℕ} → held ≡ a ∷ r → held ≡ b ∷ s → InStart d part octet a → InStart d part octet b
  start_of {part} {octet} {a} {b} is also start =
      let same : a ≡ b = cc in
      let P : ℕ → Type 0 = λ bit. InStart d part octet bit in
      subst P same start

  one_turned : {part octet : ℕ} {held : List ℕ} {ended : Bool} {p q : Pick} → Turned part octet held ended p → Turned part octet held ended q → p ≡ q
  one_turned (needs_bit a e goes_on) (needs_bit b f also) = a ∙ sym b
  one_turned (needs_bit a e goes_on) (again bit rest b f start) = absurd (cc)
  one_turned (needs_bit a e goes_on) (over bit rest b f absent) = absurd (cc)
  one_turned (needs_bit a e goes_on) (at_end b f ended) = absurd (cc)
  one_turned (again bit rest a e start) (needs_bit b f goes_on) = absurd (cc)
  one_turned (again bit rest a e start) (again other more b f also) = a ∙ sym b
  one_turned (again bit rest a e start) (over other more b f absent) = absurd (absent (start_of e f start))
  one_turned (again bit rest a e start) (at_end b f ended) = absurd (cc)
  one_turned (over bit rest a e absent) (needs_bit b f goes_on) = absurd (cc)
  one_turned (over bit rest a e absent) (again other more b f start) = absurd (absent (start_of f e start))
  one_turned (over bit rest a e absent) (over other more b f also) = a ∙ sym b
  one_turned (over bit rest a e absent) (at_end b f ended) = absurd (cc)
  one_turned (at_end a e ended) (needs_bit b f goes_on) = absurd (cc)
  one_turned (at_end a e ended) (again bit rest b f start) = absurd (cc)
  one_turned (at_end a e ended) (over bit rest b f absent) = absurd (cc)
  one_turned (at_end a e ended) (at_end b f also) = a ∙ sym b

module _ (d : DescV) (most : ℕ) (certified : Certified d most) where
  module _ {node octet : ℕ} {parts held : List ℕ} (at : slice_get d.nodes node ≡ Some (Choice parts)) (reached : Reached d node octet) where
    pub one_key : {j k : ℕ} → BeginsWithKey d most parts octet held j → BeginsWithKey d most parts octet held k → j ≡ k
    one_key {j} {k} a b =
        elim (order j k) [
          | equal_numbers same ↦ same
          | first_less less ↦
              let both = begun_both a.word a.begins.0 b.word b.begins.0 [] [] a.begins.1 b.begins.1 refl in
              absurd (certified (Overlap node octet j k a.word b.word)
              (overlap a.mark b.mark at reached less a.is_part b.is_part a.takes_bits b.takes_bits a.key b.key
              both))
          | second_less less ↦
              let both = begun_both b.word b.begins.0 a.word a.begins.0 [] [] b.begins.1 a.begins.1 refl in
              absurd (certified (Overlap node octet k j b.word a.word)
              (overlap b.mark a.mark at reached less b.is_part a.is_part b.takes_bits a.takes_bits b.key a.key
              both))
        ]

    one_none : {ended : Bool} {i j : ℕ} → TakesNone d most node parts octet held ended i → TakesNone d most node parts octet held ended j → i ≡ j
    one_none {i = i} {j = j} a b =
        elim (order i j) [
          | equal_numbers same ↦ same
          | first_less less ↦ absurd (certified (TwoEmpty node i j) (two_empty at less a.is_part b.is_part a.is_null b.is_null))
          | second_less less ↦ absurd (certified (TwoEmpty node j i) (two_empty at less b.is_part a.is_part b.is_null a.is_null))
        ]

    one_chosen : {ended : Bool} {p q : Pick} → Chosen d most node octet parts held ended p → Chosen d most node octet parts held ended q → p ≡ q
    one_chosen (by_key j a h) (by_key k b g) = a ∙ ap Take (one_key h g) ∙ sym b
    one_chosen (by_key j a h) (by_none i b no_key g) = absurd (no_key j h)
    one_chosen (by_key j a h) (later b no_key no_none goes_on g) = absurd (no_key j h)
    one_chosen (by_key j a h) (never b no_key no_none no_more) = absurd (no_key j h)
    one_chosen (by_none i a no_key h) (by_key j b g) = absurd (no_key j g)
    one_chosen (by_none i a no_key h) (by_none j b also g) = a ∙ ap Take (one_none h g) ∙ sym b
    one_chosen (by_none i a no_key h) (later b also no_none goes_on g) = absurd (no_none i h)
    one_chosen (by_none i a no_key h) (never b also no_none no_more) = absurd (no_none i h)
    one_chosen (later a no_key no_none goes_on h) (by_key j b g) = absurd (no_key j g)
    one_chosen (later a no_key no_none goes_on h) (by_none j b also g) = absurd (no_none j g)
    one_chosen (later a no_key no_none goes_on h) (later b also nor too g) = a ∙ sym b
    one_chosen (later a no_key no_none goes_on h) (never b also nor no_more) = absurd (no_more goes_on h)
    one_chosen (never a no_key no_none no_more) (by_key j b g) = absurd (no_key j g)
    one_chosen (never a no_key no_none no_more) (by_none j b also g) = absurd (no_none j g)
    one_chosen (never a no_key no_none no_more) (later b also nor goes_on g) = absurd (no_more goes_on g)
    one_chosen (never a no_key no_none no_more) (never b also nor too) = a ∙ sym b

  pub one_pick : {node octet : ℕ} {held : List ℕ} {ended : Bool} {p q : Pick}
      → IsAsked d node octet → Picks d most node octet held ended p → Picks d most node octet held ended q → p ≡ q
  one_pick (asked_choice parts at reached) a b = one_chosen at reached (chosen d most at a) (chosen d most at b)
  one_pick (asked_many part at reached) a b = one_turned d most (turned d most at a) (turned d most at b)
