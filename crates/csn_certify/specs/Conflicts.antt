-- The conflicts of a description, where words of at most `most` bits are looked at, and the order in
-- which they are told. (This project's own choice.)
use Rattle.std.specs.Prelude.{◌≡◌, ◌≢◌, ℕ, suc, ◌<◌, ◌⊎◌, ⊤, Bool, List, [], ◌∷◌, ◌++◌, map, slice_get, Some}
use Rattle.csn_desc.specs.declared.node.Count.{Count}
use Rattle.csn_desc.specs.declared.node.Node.{Node}
use Rattle.csn_desc.specs.declared.node.Node.TheVariants.{Choice, Times, Many}
use Rattle.csn_desc.specs.Nodes.{DescV}
use Rattle.csn_look.specs.Nullable.{Nullable}
use Rattle.csn_look.specs.Ends.{InEnds}
use Rattle.csn_look.specs.Starts.{InStart}
use Rattle.csn_look.specs.Keys.{InKeys, IsNotFirm}
use Rattle.csn_look.specs.Reached.{Reached, InFollow}
pub use Rattle.csn_claims.specs.Conflicts.{IsBegunBy, IsLast, IsNull}
use Rattle.csn_certify.specs.declared.conflict.Conflict.{Conflict}
use Rattle.csn_certify.specs.declared.conflict.Conflict.TheVariants.{TwoEmpty, NotFirm, Overlap, EmptyClash, LoopClash, NotLast}

module _ (d : DescV) (most : ℕ) where
  -- the description has this conflict
  pub data IsConflict : Conflict → Type 0 where
    -- two alternatives i and j of a choice take no bits
    two_empty :
        {node i j p q : ℕ} {parts : List ℕ}
        → slice_get d.nodes node ≡ Some (Choice parts) → i < j → slice_get parts i ≡ Some p
        → slice_get parts j ≡ Some q → IsNull d p → IsNull d q
        → IsConflict (TwoEmpty node i j)
    -- an alternative of a choice that takes bits is not firm, or the part of a free repetition is not;
    -- or the part of a repetition by number is nullable
    choice_not_firm :
        {node i p : ℕ} {parts : List ℕ}
        → slice_get d.nodes node ≡ Some (Choice parts) → slice_get parts i ≡ Some p → ¬ IsNull d p
        → IsNotFirm d most p
        → IsConflict (NotFirm node i)
    many_not_firm :
        {node i p : ℕ}
        → slice_get d.nodes node ≡ Some (Many p) → i ≡ 0 → IsNotFirm d most p
        → IsConflict (NotFirm node i)
    times_not_firm :
        {node i p : ℕ} {count : Count}
        → slice_get d.nodes node ≡ Some (Times count p) → i ≡ 0 → Nullable d p
        → IsConflict (NotFirm node i)
    -- two alternatives that take bits have keys of which one begins with the other
    overlap :
        {node octet i j p q : ℕ} {word_i word_j : List ℕ} {parts : List ℕ}
        (mark_i mark_j : Bool) → slice_get d.nodes node ≡ Some (Choice parts) → Reached d node octet
        → i < j → slice_get parts i ≡ Some p → slice_get parts j ≡ Some q → ¬ IsNull d p
        → ¬ IsNull d q → InKeys d most p octet word_i mark_i → InKeys d most q octet word_j mark_j
        → IsBegunBy word_i word_j ⊎ IsBegunBy word_j word_i
        → IsConflict (Overlap node octet i j word_i word_j)
    -- beside an alternative i that takes no bits, another one may begin with a bit that may follow the
    -- choice
    empty_clash :
        {node octet bit i j p q : ℕ} {parts : List ℕ}
        → slice_get d.nodes node ≡ Some (Choice parts) → Reached d node octet
        → slice_get parts i ≡ Some p → IsNull d p → slice_get parts j ≡ Some q → j ≢ i
        → InStart d q octet bit → InFollow d node octet (Some bit)
        → IsConflict (EmptyClash node octet bit)
    -- where a free repetition may begin its part, the part may begin with a bit that may follow the
    -- repetition
    loop_clash :
        {node octet bit p : ℕ}
        → slice_get d.nodes node ≡ Some (Many p) → Reached d p octet → InStart d p octet bit
        → InFollow d node octet (Some bit)
        → IsConflict (LoopClash node octet bit)
    -- where a node that must be last ends, a bit may follow
    not_last :
        {node octet bit : ℕ}
        (n : Node) (from : ℕ) → slice_get d.nodes node ≡ Some n → IsLast n → Reached d node from
        → InEnds d node from octet → InFollow d node octet (Some bit)
        → IsConflict (NotLast node octet)

  -- none of the conflicts holds
  abbrev pub Certified : Type 0
  Certified = (c : Conflict) → ¬ IsConflict c

-- ---- the order

-- a word as a text: the end of it comes before a further bit
abbrev pub text_of : List ℕ → List ℕ
text_of word = map suc word ++ 0 ∷ []

-- the kinds of conflict at a node, in the order in which they are told
abbrev pub rank_two_empty : ℕ
rank_two_empty = 1

abbrev pub rank_not_firm : ℕ
rank_not_firm = 2

-- those that speak of an octet position are one
abbrev pub rank_octets : ℕ
rank_octets = 3

-- the kinds of conflict at an octet position, in the order in which they are told
abbrev pub rank_overlap : ℕ
rank_overlap = 3

abbrev pub rank_empty_clash : ℕ
rank_empty_clash = 4

abbrev pub rank_loop_clash : ℕ
rank_loop_clash = 5

abbrev pub rank_not_last : ℕ
rank_not_last = 6

-- the rank of a conflict: by the node and the kind; of those that speak of an octet position by it, and then by their
-- kind; then by alternatives, words and bit
abbrev pub rank_of : Conflict → List ℕ
rank_of (TwoEmpty node i j) = node ∷ rank_two_empty ∷ i ∷ j ∷ []
rank_of (NotFirm node i) = node ∷ rank_not_firm ∷ i ∷ []
rank_of (Overlap node octet i j word_i word_j) =
    node ∷ rank_octets ∷ octet ∷ rank_overlap ∷ i ∷ j ∷ (text_of word_i ++ text_of word_j)
rank_of (EmptyClash node octet bit) = node ∷ rank_octets ∷ octet ∷ rank_empty_clash ∷ bit ∷ []
rank_of (LoopClash node octet bit) = node ∷ rank_octets ∷ octet ∷ rank_loop_clash ∷ bit ∷ []
rank_of (NotLast node octet) = node ∷ rank_octets ∷ octet ∷ rank_not_last ∷ []

-- the first list comes before the second, number by number, or is a prefix of it
abbrev pub NotAfter : List ℕ → List ℕ → Type 0
NotAfter [] ys = ⊤
NotAfter (x ∷ xs) [] = ⊥
NotAfter (x ∷ xs) (y ∷ ys) = (x < y) ⊎ ((x ≡ y) × NotAfter xs ys)

-- the first of a description's conflicts
pub record IsFirstConflict (d : DescV) (most : ℕ) (c : Conflict) : Type 0 where
  pub holds : IsConflict d most c
  pub first : (other : Conflict) → IsConflict d most other → NotAfter (rank_of c) (rank_of other)
