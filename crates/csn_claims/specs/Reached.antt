-- Where a part of a node may begin, and what may stand behind it, from what is claimed of the node and of its other
-- parts.
use Rattle.std.specs.Prelude.{ℕ, List, Option, IsTrue}
use Rattle.csn_desc.specs.declared.node.Node.{Node}
use Rattle.csn_equations.specs.Reached as equation
pub use Rattle.csn_equations.specs.Reached.{reached_seq, reached_trunc, reached_choice, reached_window, reached_named}
pub use Rattle.csn_equations.specs.Reached.{reached_times, reached_counted, reached_many, follow_later, follow_seq}
pub use Rattle.csn_equations.specs.Reached.{follow_kept, follow_trunc, follow_times_again, follow_times}
pub use Rattle.csn_equations.specs.Reached.{follow_many_again, follow_many, follow_choice, follow_named}
pub use Rattle.csn_equations.specs.Reached.{follow_window}
use Rattle.csn_claims.specs.Claims.{Claims}

module _ (claims : Claims) where
  abbrev pub PartReached : Node → List ℕ → ℕ → ℕ → ℕ → Type 0
  PartReached n before i from o = equation.PartReached (λ i o p. IsTrue (claims.ends i o p)) n before i from o

  abbrev pub PartFollow : Node → ℕ → List ℕ → ℕ → ℕ → Option ℕ → Type 0
  PartFollow n k after i o s =
      equation.PartFollow (λ i. IsTrue (claims.nullable i)) (λ i o p. IsTrue (claims.ends i o p)) (λ i o bit. IsTrue (claims.starts i o bit))
      (λ i o s. IsTrue (claims.follow i o s)) n k after i o s
