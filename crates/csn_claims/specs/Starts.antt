-- Which bits a node may begin with, from those that its parts are claimed to begin with.
use Rattle.std.specs.Prelude.{ℕ, List, IsTrue}
use Rattle.csn_desc.specs.declared.node.Node.{Node}
use Rattle.csn_desc.specs.Nodes.{DescV}
use Rattle.csn_equations.specs.Starts as equation
pub use Rattle.csn_equations.specs.Starts.{starts_here, starts_later, starts_lits, starts_spare, starts_pad}
pub use Rattle.csn_equations.specs.Starts.{starts_field, starts_rest, starts_seq, starts_trunc, starts_choice}
pub use Rattle.csn_equations.specs.Starts.{starts_times, starts_many, starts_window, starts_named}
use Rattle.csn_claims.specs.Claims.{Claims}

module _ (claims : Claims) where
  abbrev pub PartsStart : List ℕ → ℕ → ℕ → Type 0
  PartsStart parts o bit =
      equation.PartsStart (λ i. IsTrue (claims.nullable i)) (λ i o p. IsTrue (claims.ends i o p)) (λ i o bit. IsTrue (claims.starts i o bit)) parts o bit

module _ (d : DescV) (claims : Claims) where
  abbrev pub NodeStarts : Node → ℕ → ℕ → Type 0
  NodeStarts n o bit =
      equation.NodeStarts d (λ i. IsTrue (claims.nullable i)) (λ i o p. IsTrue (claims.ends i o p)) (λ i o bit. IsTrue (claims.starts i o bit)) n o bit
