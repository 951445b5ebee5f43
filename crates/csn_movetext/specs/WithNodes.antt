-- Moves with the nodes that they are about.
use Rattle.std.specs.Prelude.{List, [], ◌∷◌, drop, slice_get, Option, Some, None}
use Rattle.csn_desc.specs.declared.moves.Move.{Move}
use Rattle.csn_desc.specs.declared.moves.Move.TheVariants.{Enter, Bit, Leave}
use Rattle.csn_desc.specs.declared.node.Node.{Node}
use Rattle.csn_desc.specs.Nodes.{DescV}

-- the innermost of the nodes that were entered and not left
abbrev pub innermost : List Node → Option Node
innermost [] = None
innermost (n ∷ around) = Some n

abbrev pub inside : Option Node → List Node → List Node
inside None around = around
inside (Some n) around = n ∷ around

-- the node that a move is about, inside the nodes `around`, the innermost first: the one that it enters, else the
-- innermost
abbrev pub node_about : DescV → List Node → Move → Option Node
node_about d around (Enter i) = slice_get d.nodes i
node_about d around (Bit bit) = innermost around
node_about d around Leave = innermost around

abbrev pub around_after : DescV → List Node → Move → List Node
around_after d around (Enter i) = inside (slice_get d.nodes i) around
around_after d around (Bit bit) = around
around_after d around Leave = drop 1 around

abbrev pub with_node : Move → Option Node → List (Move × Node) → List (Move × Node)
with_node move None rest = rest
with_node move (Some n) rest = (move, n) ∷ rest

-- the moves, inside the nodes `around`, each with its node
abbrev pub with_nodes : DescV → List Node → List Move → List (Move × Node)
with_nodes d around [] = []
with_nodes d around (move ∷ rest) =
    with_node move (node_about d around move) (with_nodes d (around_after d around move) rest)
