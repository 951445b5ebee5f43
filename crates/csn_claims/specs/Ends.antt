-- Where bits of a node may end, from where those of its parts are claimed to.
use Rattle.std.specs.Prelude.{ℕ, List, IsTrue}
use Rattle.csn_desc.specs.declared.node.Node.{Node}
use Rattle.csn_desc.specs.Nodes.{DescV}
use Rattle.csn_equations.specs.Ends as equation
pub use Rattle.csn_equations.specs.Ends.{MayCount, may_fixed, may_counted, parts_end, parts_next, times_end}
pub use Rattle.csn_equations.specs.Ends.{times_next, many_end, many_next, lead_end, lead_next, ends_lits, ends_spare}
pub use Rattle.csn_equations.specs.Ends.{ends_null, ends_pad, ends_rest, ends_field, ends_window, ends_seq}
pub use Rattle.csn_equations.specs.Ends.{ends_choice, ends_times, ends_counted, ends_many, ends_trunc, ends_named}
use Rattle.csn_claims.specs.Claims.{Claims}

module _ (claims : Claims) where
  abbrev pub PartsEnd : List ℕ → ℕ → ℕ → Type 0
  PartsEnd parts o p = equation.PartsEnd (λ i o p. IsTrue (claims.ends i o p)) parts o p

  abbrev pub TimesEnd : ℕ → ℕ → ℕ → ℕ → Type 0
  TimesEnd n i o p = equation.TimesEnd (λ i o p. IsTrue (claims.ends i o p)) n i o p

  abbrev pub ManyEnd : ℕ → ℕ → ℕ → Type 0
  ManyEnd i o p = equation.ManyEnd (λ i o p. IsTrue (claims.ends i o p)) i o p

  abbrev pub LeadEnd : List ℕ → ℕ → ℕ → Type 0
  LeadEnd parts o p = equation.LeadEnd (λ i o p. IsTrue (claims.ends i o p)) parts o p

module _ (d : DescV) (claims : Claims) where
  abbrev pub NodeEnds : Node → ℕ → ℕ → Type 0
  NodeEnds n o p = equation.NodeEnds d (λ i o p. IsTrue (claims.ends i o p)) n o p
