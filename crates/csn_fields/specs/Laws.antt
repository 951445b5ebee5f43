-- Laws over the events of blocks.
use Rattle.std.specs.Prelude.{◌≡◌, ℕ, ◌+◌, ◌≤◌, List, [], ◌∷◌, ◌++◌, length}
use Rattle.csn_bits.specs.Octets.{most_bits}
use Rattle.csn_desc.specs.TreeV.{TreeV}
use Rattle.csn_desc.specs.Nodes.{DescV}
use Rattle.csn_desc.specs.Values.{Values}
use Rattle.csn_desc.specs.Means.{NMeans}
use Rattle.csn_fields.specs.declared.leaf.Role.{Role}
use Rattle.csn_fields.specs.declared.leaf.Leaf.{Leaf}
use Rattle.csn_fields.specs.declared.event.Event.{Event}
use Rattle.csn_fields.specs.Leaves.{number_in}
use Rattle.csn_fields.specs.Events.{EventsAt, AreEvents, BeginEvents}
use Rattle.csn_fields.specs.Lists.{leaves_in}

-- the leaves lie one behind another from a place on, each has the next of these bits, and together they have them all
abbrev pub LieAlong : ℕ → List ℕ → List Leaf → Type 0
LieAlong place b [] = b ≡ []
LieAlong place b (leaf ∷ rest) =
    (b1 : List ℕ) × (b2 : List ℕ) × (b ≡ b1 ++ b2) × (leaf.place ≡ place) × (leaf.bits ≡ length b1) × (leaf.number ≡ number_in b1)
    × LieAlong (place + length b1) b2 rest

-- the leaves of the bits that a tree has lie along them
abbrev pub LeavesLieAlong : Type 0
LeavesLieAlong =
    (d : DescV) (i from to : ℕ) (role : Role) (v : Values) (b : List ℕ) (t : TreeV) (events : List Event)
    → NMeans d i from v b t → EventsAt d i role from to t events
    → LieAlong from b (leaves_in events)

-- a tree has no two lists of events
abbrev pub TreesHaveOneListOfEvents : Type 0
TreesHaveOneListOfEvents =
    (d : DescV) (i from to other : ℕ) (role : Role) (t : TreeV) (events others : List Event)
    → EventsAt d i role from to t events → EventsAt d i role from other t others
    → (to ≡ other) × (events ≡ others)

-- the leaves of a block lie along it
abbrev pub BlocksAreTiled : Type 0
BlocksAreTiled = (d : DescV) (b : List ℕ) (events : List Event) → AreEvents d b events → LieAlong 0 b (leaves_in events)

-- the leaves that are told of a refused block lie along the first bits of each block that goes on from its place
abbrev pub FrontsLieAlong : Type 0
FrontsLieAlong =
    (d : DescV) (b later : List ℕ) (tree : TreeV) (events : List Event)
    → BeginEvents d b events → length (b ++ later) ≤ most_bits → NMeans d 0 0 [] (b ++ later) tree
    → (front : List ℕ) × (back : List ℕ) × (b ++ later ≡ front ++ back) × LieAlong 0 front (leaves_in events)
