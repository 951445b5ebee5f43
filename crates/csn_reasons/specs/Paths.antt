-- The paths of labels to nodes.
use Rattle.std.specs.Prelude.{◌≡◌, ℕ, zero, suc, ◌<◌, ◌==◌, List, [], ◌∷◌, ◌++◌, codes, length, get_or, slice_get, Option, Some, None, unwrap_or}
use Rattle.std.specs.List.{position}
use Rattle.std.specs.Fmt.{decimal}
use Rattle.csn_desc.specs.declared.node.Node.{Node}
use Rattle.csn_desc.specs.declared.node.Node.TheVariants.{Choice, Times, Many, Trunc, Named}
use Rattle.csn_desc.specs.Nodes.{parts_of}

-- which of some parts a node is, counted from 0; 0 too where it is none of them
abbrev pub place_among : ℕ → List ℕ → ℕ
place_among part parts = unwrap_or (position (λ other. other == part) parts) 0

-- a label behind a path, with a dot between unless the path begins with it
abbrev pub dotted : List ℕ → List ℕ → List ℕ
dotted [] label = label
dotted (byte ∷ path) label = (byte ∷ path) ++ 46 ∷ label

-- which alternative, component or turn of a node a part is
abbrev pub part_text : Node → ℕ → List ℕ
part_text (Choice parts) part = 35 ∷ decimal (place_among part parts)
part_text (Trunc parts) part = 91 ∷ decimal (place_among part parts) ++ 93 ∷ []
part_text (Times count turn) part = codes "[]"
part_text (Many turn) part = codes "[]"
part_text _ part = []

-- the path to a node, behind the path to the node above it: a label with a dot, or which part the way goes on to
abbrev pub path_step : List ℕ → Node → Option ℕ → List ℕ
path_step path (Named label part) below = dotted path label
path_step path node None = path
path_step path node (Some part) = path ++ part_text node part

-- what a node adds to a path, where there is such a node
abbrev pub step_at : List ℕ → Option Node → Option ℕ → List ℕ
step_at path None below = path
step_at path (Some node) below = path_step path node below

-- the path to the first of these nodes, each a part of the next, where the way goes on `below` it
abbrev pub path_of : List Node → Option ℕ → List ℕ → List ℕ
path_of nodes below [] = []
path_of nodes below (i ∷ up) = step_at (path_of nodes (Some i) up) (slice_get nodes i) below

-- the node below the one at a place of a way up
abbrev pub below_at : List ℕ → ℕ → Option ℕ
below_at up zero = None
below_at up (suc at) = slice_get up at

-- a node is a part of another, which has a lower number
pub record IsPart (nodes : List Node) (i parent : ℕ) : Type 0 where
  pub node : Node
  pub here : slice_get nodes parent ≡ Some node
  pub place : ℕ
  pub part : slice_get (parts_of node) place ≡ Some i
  pub before : parent < i

-- the nodes from one up to the root, with both, each a part of the next
pub data LeadsUp (nodes : List Node) : ℕ → List ℕ → Type 0 where
  at_root : LeadsUp nodes 0 (0 ∷ [])
  one_up : {i parent : ℕ} {up : List ℕ} → IsPart nodes i parent → LeadsUp nodes parent up → LeadsUp nodes i (i ∷ up)

-- for each node but the root the node that it is a part of
abbrev pub AreParents : List Node → List ℕ → Type 0
AreParents nodes parents =
    (length parents ≡ length nodes) × ((i : ℕ) → 0 < i → i < length nodes → IsPart nodes i (get_or parents i 0))
