-- The leaves among events, in a list. (This project's own choice.)
use Rattle.std.specs.Prelude.{◌≡◌, ◌⊎◌, Bool, true, false, List, [], ◌∷◌, ◌++◌}
use Rattle.csn_fields.specs.declared.leaf.Leaf.{Leaf}
use Rattle.csn_fields.specs.declared.event.Event.{Event}
use Rattle.csn_fields.specs.declared.event.Event.TheVariants as event

-- the leaves among some events
abbrev pub leaves_in : List Event → List Leaf
leaves_in [] = []
leaves_in (event.Leaf leaf ∷ rest) = leaf ∷ leaves_in rest
leaves_in (event.Begin node role place ∷ rest) = leaves_in rest
leaves_in (event.End node place ∷ rest) = leaves_in rest

-- the leaves so far, and whether memory was wanting for one
pub record LeavesV : Type 0 where
  pub leaves : List Leaf
  pub short : Bool

-- one leaf more stands in the list, unless memory is wanting or was
abbrev pub AddsLeaf : Leaf → LeavesV → LeavesV → Type 0
AddsLeaf leaf old new =
    ((old.short ≡ false) × (new ≡ record { leaves = old.leaves ++ leaf ∷ []; short = false })) ⊎ (new ≡ record { leaves = old.leaves; short = true })

-- what an event makes of the list
abbrev pub Lists : LeavesV → Event → LeavesV → Type 0
Lists old (event.Leaf leaf) new = AddsLeaf leaf old new
Lists old (event.Begin node role place) new = new ≡ old
Lists old (event.End node place) new = new ≡ old

-- these are the leaves of the events; or the first of them, where memory was wanting
abbrev pub AreLeaves : List Event → List Leaf → Bool → Type 0
AreLeaves events leaves false = leaves ≡ leaves_in events
AreLeaves events leaves true = (rest : List Leaf) × (leaves_in events ≡ leaves ++ rest)
