-- Which bits a node may begin with, at an octet position, and what may stand there first where another
-- part follows it. (This project's own choice.)
use Rattle.std.specs.Prelude.{ℕ, ◌⊎◌, List, Option, Some, None}
use Rattle.csn_desc.specs.declared.node.Node.{Node}
use Rattle.csn_desc.specs.Nodes.{DescV}
use Rattle.csn_equations.specs.Least.{Least, NodeHas}
use Rattle.csn_equations.specs.Starts as equation
pub use Rattle.csn_equations.specs.Starts.{starts_here, starts_later, starts_lits, starts_spare, starts_pad}
pub use Rattle.csn_equations.specs.Starts.{starts_field, starts_rest, starts_seq, starts_trunc, starts_choice}
pub use Rattle.csn_equations.specs.Starts.{starts_times, starts_many, starts_window, starts_named}
use Rattle.csn_look.specs.Nullable.{Nullable}
use Rattle.csn_look.specs.Ends.{InEnds}

module _ (d : DescV) where
  -- node i may begin with the bit at the octet position o: the least set that the equation allows
  abbrev pub MakesStart : (ℕ × (ℕ × ℕ) → Type 0) → ℕ × (ℕ × ℕ) → Type 0
  MakesStart starts a =
      NodeHas d a.0 (λ n. equation.NodeStarts d (Nullable d) (InEnds d) (λ i o bit. starts (i, (o, bit))) n a.1.0 a.1.1)

  abbrev pub InStart : ℕ → ℕ → ℕ → Type 0
  InStart i o bit = Least MakesStart (i, (o, bit))

  abbrev pub NodeStarts : Node → ℕ → ℕ → Type 0
  NodeStarts n o bit = equation.NodeStarts d (Nullable d) (InEnds d) InStart n o bit

  abbrev pub PartsStart : List ℕ → ℕ → ℕ → Type 0
  PartsStart parts o bit = equation.PartsStart (Nullable d) (InEnds d) InStart parts o bit

  -- what stands first in a node, where `follow` says for each octet position what may follow it: a bit,
  -- or nothing where the end is met
  abbrev pub InFirst : (follow : ℕ → Option ℕ → Type 0) → ℕ → ℕ → Option ℕ → Type 0
  InFirst follow i o None = Nullable d i × follow o None
  InFirst follow i o (Some bit) = InStart i o bit ⊎ (Nullable d i × follow o (Some bit))

  -- what stands next may begin node i: a bit that it may begin with, and never the end
  abbrev pub StartsSign : ℕ → ℕ → Option ℕ → Type 0
  StartsSign i o None = ⊥
  StartsSign i o (Some bit) = InStart i o bit
