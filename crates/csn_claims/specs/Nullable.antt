-- Which nodes may have no bits, from which of their parts are claimed to.
use Rattle.std.specs.Prelude.{ℕ, List, IsTrue}
use Rattle.csn_desc.specs.declared.node.Node.{Node}
use Rattle.csn_equations.specs.Nullable as equation
pub use Rattle.csn_equations.specs.Nullable.{all_end, all_next, nullable_null, nullable_rest, nullable_many}
pub use Rattle.csn_equations.specs.Nullable.{nullable_trunc, nullable_field, nullable_times, nullable_no_times}
pub use Rattle.csn_equations.specs.Nullable.{nullable_window, nullable_seq, nullable_choice, nullable_named}
use Rattle.csn_claims.specs.Claims.{Claims}

module _ (claims : Claims) where
  abbrev pub NodeNullable : Node → Type 0
  NodeNullable n = equation.NodeNullable (λ i. IsTrue (claims.nullable i)) n

  abbrev pub AllNullable : List ℕ → Type 0
  AllNullable parts = equation.AllNullable (λ i. IsTrue (claims.nullable i)) parts
