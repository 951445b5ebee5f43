-- Which nodes may have no bits, as far as the kinds of the nodes tell it. That look-ahead goes by these
-- sets of nodes, of positions and of words is this project's own choice.
use Rattle.std.specs.Prelude.{ℕ, List}
use Rattle.csn_desc.specs.declared.node.Node.{Node}
use Rattle.csn_desc.specs.Nodes.{DescV}
use Rattle.csn_equations.specs.Least.{Least, NodeHas}
use Rattle.csn_equations.specs.Nullable as equation
pub use Rattle.csn_equations.specs.Nullable.{all_end, all_next, nullable_null, nullable_rest, nullable_many}
pub use Rattle.csn_equations.specs.Nullable.{nullable_trunc, nullable_field, nullable_times, nullable_no_times}
pub use Rattle.csn_equations.specs.Nullable.{nullable_window, nullable_seq, nullable_choice, nullable_named}

module _ (d : DescV) where
  -- node i is nullable: the least set that the equation allows
  abbrev pub MakesNullable : (ℕ → Type 0) → ℕ → Type 0
  MakesNullable nullable i = NodeHas d i (equation.NodeNullable nullable)

  abbrev pub Nullable : ℕ → Type 0
  Nullable i = Least MakesNullable i

  -- a node is, and each of its parts is
  abbrev pub NodeNullable : Node → Type 0
  NodeNullable n = equation.NodeNullable Nullable n

  abbrev pub AllNullable : List ℕ → Type 0
  AllNullable parts = equation.AllNullable Nullable parts
