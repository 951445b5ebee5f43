-- Where bits of a node may end, from an octet position, which is a place modulo 8. (This project's own choice.)
use Rattle.std.specs.Prelude.{ℕ, List}
use Rattle.csn_desc.specs.declared.node.Node.{Node}
use Rattle.csn_desc.specs.Nodes.{DescV}
use Rattle.csn_equations.specs.Least.{Least, NodeHas}
use Rattle.csn_equations.specs.Ends as equation
pub use Rattle.csn_equations.specs.Ends.{MayCount, may_fixed, may_counted, parts_end, parts_next, times_end}
pub use Rattle.csn_equations.specs.Ends.{times_next, many_end, many_next, lead_end, lead_next, ends_lits, ends_spare}
pub use Rattle.csn_equations.specs.Ends.{ends_null, ends_pad, ends_rest, ends_field, ends_window, ends_seq}
pub use Rattle.csn_equations.specs.Ends.{ends_choice, ends_times, ends_counted, ends_many, ends_trunc, ends_named}

module _ (d : DescV) where
  -- bits of node i from the octet position o on may end at the octet position p: the least set that the equation
  -- allows
  abbrev pub MakesEnds : (ℕ × (ℕ × ℕ) → Type 0) → ℕ × (ℕ × ℕ) → Type 0
  MakesEnds ends a = NodeHas d a.0 (λ n. equation.NodeEnds d (λ i o p. ends (i, (o, p))) n a.1.0 a.1.1)

  abbrev pub InEnds : ℕ → ℕ → ℕ → Type 0
  InEnds i o p = Least MakesEnds (i, (o, p))

  abbrev pub NodeEnds : Node → ℕ → ℕ → Type 0
  NodeEnds n o p = equation.NodeEnds d InEnds n o p

  -- one part after another, n times a part, any number of times, and the first few parts
  abbrev pub PartsEnd : List ℕ → ℕ → ℕ → Type 0
  PartsEnd parts o p = equation.PartsEnd InEnds parts o p

  abbrev pub TimesEnd : ℕ → ℕ → ℕ → ℕ → Type 0
  TimesEnd n i o p = equation.TimesEnd InEnds n i o p

  abbrev pub ManyEnd : ℕ → ℕ → ℕ → Type 0
  ManyEnd i o p = equation.ManyEnd InEnds i o p

  abbrev pub LeadEnd : List ℕ → ℕ → ℕ → Type 0
  LeadEnd parts o p = equation.LeadEnd InEnds parts o p
