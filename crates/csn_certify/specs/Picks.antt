-- What look-ahead answers at a choice, and where a free repetition may begin its part again, from the
-- bits that are held, and whether the block has ended behind them. (This project's own choice.)
use Rattle.std.specs.Prelude.{◌≡◌, ℕ, ◌<◌, Bool, true, false, List, [], ◌∷◌, length, slice_get, Some}
use Rattle.csn_desc.specs.declared.node.Node.TheVariants.{Choice, Many}
use Rattle.csn_desc.specs.Nodes.{DescV}
use Rattle.csn_look.specs.Starts.{InStart}
use Rattle.csn_look.specs.Keys.{InKeys}
use Rattle.csn_look.specs.Reached.{Reached, InFollow}
use Rattle.csn_certify.specs.declared.pick.Pick.{Pick}
use Rattle.csn_certify.specs.declared.pick.Pick.TheVariants.{Take, Leave, Wait, Refuse}
use Rattle.csn_certify.specs.Conflicts.{IsNull, IsBegunBy}

module _ (d : DescV) where
  -- where look-ahead is asked: at a choice that is reached, and at a free repetition whose part is
  pub data IsAsked : ℕ → ℕ → Type 0 where
    asked_choice :
        {node octet : ℕ}
        (parts : List ℕ) → slice_get d.nodes node ≡ Some (Choice parts) → Reached d node octet
        → IsAsked node octet
    asked_many :
        {node octet : ℕ}
        (part : ℕ) → slice_get d.nodes node ≡ Some (Many part) → Reached d part octet
        → IsAsked node octet

module _ (d : DescV) (most : ℕ) where
  -- a key of the alternative j
  pub record AlternativeKey (parts : List ℕ) (octet j : ℕ) : Type 0 where
    pub part : ℕ
    pub word : List ℕ
    pub mark : Bool
    pub is_part : slice_get parts j ≡ Some part
    pub key : InKeys d most part octet word mark

  -- the held bits begin with a key of the alternative j, which takes bits
  pub record BeginsWithKey (parts : List ℕ) (octet : ℕ) (held : List ℕ) (j : ℕ) : Type 0 where
    pub own : AlternativeKey parts octet j
    pub open own use *
    pub takes_bits : ¬ IsNull d part
    pub begins : IsBegunBy held word

  -- the held bits are the beginning of a key of some alternative, and not all of it
  pub record BeginsKey (parts : List ℕ) (octet : ℕ) (held : List ℕ) : Type 0 where
    pub j : ℕ
    pub own : AlternativeKey parts octet j
    pub open own use *
    pub begins : IsBegunBy word held
    pub not_all : length held < length word

  -- what may follow the node stands next: the first held bit may, or the block has ended
  pub data StandsBehind : ℕ → ℕ → List ℕ → Bool → Type 0 where
    behind_bit :
        {node octet bit : ℕ} {rest : List ℕ} {ended : Bool}
        → InFollow d node octet (Some bit)
        → StandsBehind node octet (bit ∷ rest) ended
    behind_end : {node octet : ℕ} {ended : Bool} → ended ≡ true → StandsBehind node octet [] ended

  -- the alternative i takes no bits, and what may follow the choice stands next
  pub record TakesNone (node : ℕ) (parts : List ℕ) (octet : ℕ) (held : List ℕ) (ended : Bool) (i : ℕ) : Type 0 where
    pub part : ℕ
    pub is_part : slice_get parts i ≡ Some part
    pub is_null : IsNull d part
    pub behind : StandsBehind node octet held ended

  -- the answer at the octet position, each where none before it is
  pub data Picks : ℕ → ℕ → List ℕ → Bool → Pick → Type 0 where
    -- an alternative whose key the held bits begin with
    pick_key :
        {node octet j : ℕ} {held : List ℕ} {ended : Bool}
        (parts : List ℕ) → slice_get d.nodes node ≡ Some (Choice parts)
        → BeginsWithKey parts octet held j
        → Picks node octet held ended (Take j)
    -- the one that takes no bits
    pick_none :
        {node octet i : ℕ} {held : List ℕ} {ended : Bool}
        (parts : List ℕ) → slice_get d.nodes node ≡ Some (Choice parts)
        → ((j : ℕ) → ¬ BeginsWithKey parts octet held j) → TakesNone node parts octet held ended i
        → Picks node octet held ended (Take i)
    -- none yet, where further bits may make a key
    pick_wait :
        {node octet : ℕ} {held : List ℕ} {ended : Bool}
        (parts : List ℕ) → slice_get d.nodes node ≡ Some (Choice parts)
        → ((j : ℕ) → ¬ BeginsWithKey parts octet held j)
        → ((i : ℕ) → ¬ TakesNone node parts octet held ended i) → ended ≡ false
        → BeginsKey parts octet held
        → Picks node octet held ended Wait
    -- and else none
    pick_refuse :
        {node octet : ℕ} {held : List ℕ} {ended : Bool}
        (parts : List ℕ) → slice_get d.nodes node ≡ Some (Choice parts)
        → ((j : ℕ) → ¬ BeginsWithKey parts octet held j)
        → ((i : ℕ) → ¬ TakesNone node parts octet held ended i)
        → (ended ≡ false → ¬ BeginsKey parts octet held)
        → Picks node octet held ended Refuse
    -- a repetition: a bit is needed, or the first one begins the part, or it does not
    pick_bit :
        {node octet : ℕ} {ended : Bool}
        (part : ℕ) → slice_get d.nodes node ≡ Some (Many part) → ended ≡ false
        → Picks node octet [] ended Wait
    pick_again :
        {node octet bit : ℕ} {rest : List ℕ} {ended : Bool}
        (part : ℕ) → slice_get d.nodes node ≡ Some (Many part) → InStart d part octet bit
        → Picks node octet (bit ∷ rest) ended (Take 0)
    pick_leave :
        {node octet bit : ℕ} {rest : List ℕ} {ended : Bool}
        (part : ℕ) → slice_get d.nodes node ≡ Some (Many part) → ¬ InStart d part octet bit
        → Picks node octet (bit ∷ rest) ended Leave
    pick_ended :
        {node octet : ℕ} {ended : Bool}
        (part : ℕ) → slice_get d.nodes node ≡ Some (Many part) → ended ≡ true
        → Picks node octet [] ended Leave
