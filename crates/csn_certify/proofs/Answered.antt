-- What look-ahead answers at a choice and at a free repetition, from what was found there.
use Rattle.std.proofs.Common.{◌≡◌, ℕ, ◌<◌, Bool, true, false, ◌&&◌, List, [], ◌∷◌, length, ◌↔◌, refl, sym, subst, arith, Option, Some, None, slice_get}
use Rattle.std.specs.Prelude.{IsTrue, if◌then◌else◌, not, slice_index}
use Rattle.csn_desc.specs.declared.node.Node.{Node}
use Rattle.csn_desc.specs.declared.node.Node.TheVariants.{Choice, Many}
use Rattle.csn_desc.specs.Nodes.{DescV}
use Rattle.csn_look.specs.Starts.{InStart}
use Rattle.csn_look.specs.Reached.{Reached, InFollow}
use Rattle.csn_certify.specs.declared.pick.Pick.{Pick}
use Rattle.csn_certify.specs.declared.pick.Pick.TheVariants.{Take, Leave, Wait, Refuse}
use Rattle.csn_certify.specs.Picks.{IsAsked, asked_choice, asked_many, StandsBehind, behind_bit, behind_end}
use Rattle.csn_certify.specs.Picks.{TakesNone, Picks, pick_none, pick_wait, pick_refuse, pick_bit, pick_again}
use Rattle.csn_certify.specs.Picks.{pick_leave, pick_ended}
use Rattle.csn_certify.specs.Choosing.{AreWithoutKey}

-- look-ahead is asked at no other node
pub not_asked : (d : DescV) (node octet : ℕ) (n : Node) → slice_get d.nodes node ≡ Some n
    → ((parts : List ℕ) → n ≡ Choice parts → ⊥) → ((part : ℕ) → n ≡ Many part → ⊥) → IsAsked d node octet → ⊥
not_asked d node octet n at no_choice no_many (asked_choice parts is reached) = no_choice parts (cc)
not_asked d node octet n at no_choice no_many (asked_many part is reached) = no_many part (cc)

-- at a choice it is asked where this is reached
pub reached_where_asked : (d : DescV) (node octet : ℕ) (parts : List ℕ) → slice_get d.nodes node ≡ Some (Choice parts)
    → IsAsked d node octet → Reached d node octet
reached_where_asked d node octet parts at (asked_choice those is reached) = reached
reached_where_asked d node octet parts at (asked_many part is reached) = absurd (cc)

-- ---- a choice

module _ (d : DescV) {node octet : ℕ} {parts held : List ℕ} {ended : Bool} (at : slice_get d.nodes node ≡ Some (Choice parts)) where
  module _ {none : Option ℕ} {begun : Bool} (h : AreWithoutKey d parts octet held none begun) where
    pub takes_none : (i : ℕ) → none ≡ Some i → StandsBehind d 12 node octet held ended → Picks d 12 node octet held ended (Take i)
    takes_none i is behind =
        let n = h.is_none i is in
        pick_none parts at h.no_key (record { part = n.part; is_part = n.is_part; is_null = n.is_null; behind = behind })

    pub none_there : none ≡ None → (i : ℕ) → TakesNone d 12 node parts octet held ended i → ⊥
    none_there is i t = h.no_none is i (record { part = t.part; is_part = t.is_part; is_null = t.is_null })

    -- where no alternative is taken, further bits are needed or it is refused
    pub untaken : (p : Pick) → p ≡ (if begun && not ended then Wait else Refuse)
        → ((i : ℕ) → TakesNone d 12 node parts octet held ended i → ⊥) → Picks d 12 node octet held ended p
    untaken p is no_none = by_both begun ended refl refl is
      where
        by_both : (b e : Bool) → begun ≡ b → ended ≡ e → p ≡ (if b && not e then Wait else Refuse) → Picks d 12 node octet held ended p
        by_both true false some goes_on is =
            let P : Pick → Type 0 = λ q. Picks d 12 node octet held ended q in
            subst P (sym is) (pick_wait parts at h.no_key no_none goes_on (h.begins.0 some))
        by_both true true some over is =
            let P : Pick → Type 0 = λ q. Picks d 12 node octet held ended q in
            subst P (sym is) (pick_refuse parts at h.no_key no_none (λ goes_on. absurd (cc)))
        by_both false e never ends is =
            let P : Pick → Type 0 = λ q. Picks d 12 node octet held ended q in
            subst P (sym is) (pick_refuse parts at h.no_key no_none (λ goes_on begins. let some = h.begins.1 begins in absurd (cc)))

-- ---- what stands next

module _ (d : DescV) {node octet : ℕ} {ended : Bool} where
  pub behind_none : (held : List ℕ) → length held ≡ 0 → IsTrue ended ↔ StandsBehind d 12 node octet held ended
  behind_none (bit ∷ rest) is = absurd (omega arith)
  behind_none [] is = (behind_end, of_end)
    where
      of_end : StandsBehind d 12 node octet [] ended → IsTrue ended
      of_end (behind_end over) = over

  pub behind_first : (r : Bool) (first : ℕ) (held : List ℕ) → 0 < length held → first ≡ slice_index held 0
      → IsTrue r ↔ InFollow d node octet (Some first) → IsTrue r ↔ StandsBehind d 12 node octet held ended
  behind_first r first [] some is tells = absurd (omega arith)
  behind_first r first (bit ∷ rest) some is tells =
      let P : ℕ → Type 0 = λ b. InFollow d node octet (Some b) in (
        (λ h. behind_bit (subst P is (tells.0 h))),
        (λ h. tells.1 (subst P (sym is) (of_bit h))),
      )
    where
      of_bit : StandsBehind d 12 node octet (bit ∷ rest) ended → InFollow d node octet (Some bit)
      of_bit (behind_bit follow) = follow

-- ---- a free repetition

module _ (d : DescV) {node part octet : ℕ} {ended : Bool} (at : slice_get d.nodes node ≡ Some (Many part)) where
  pub many_over : (held : List ℕ) → length held ≡ 0 → ended ≡ true → Picks d 12 node octet held ended Leave
  many_over [] is over = pick_ended part at over
  many_over (bit ∷ rest) is over = absurd (omega arith)

  pub many_waits : (held : List ℕ) → length held ≡ 0 → ended ≡ false → Picks d 12 node octet held ended Wait
  many_waits [] is goes_on = pick_bit part at goes_on
  many_waits (bit ∷ rest) is goes_on = absurd (omega arith)

  pub many_again : (first : ℕ) (held : List ℕ) → 0 < length held → first ≡ slice_index held 0
      → InStart d part octet first → Picks d 12 node octet held ended (Take 0)
  many_again first [] some is start = absurd (omega arith)
  many_again first (bit ∷ rest) some is start = let P : ℕ → Type 0 = λ b. InStart d part octet b in pick_again part at (subst P is start)

  pub many_leaves : (first : ℕ) (held : List ℕ) → 0 < length held → first ≡ slice_index held 0
      → (InStart d part octet first → ⊥) → Picks d 12 node octet held ended Leave
  many_leaves first [] some is never = absurd (omega arith)
  many_leaves first (bit ∷ rest) some is never = let P : ℕ → Type 0 = λ b. InStart d part octet b → ⊥ in pick_leave part at (subst P is never)
