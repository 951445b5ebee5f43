-- What is kept of a plan to tell events by it: the numbers of its alternatives, and the outlines of its nodes.
use Rattle.std.specs.Prelude.{ℕ, List, Option}
use Rattle.csn_desc.specs.Nodes.{DescV}
use Rattle.csn_fields.specs.declared.outline.Mark.{Mark}
use Rattle.csn_fields.specs.Numbers.{HasNumbers}
use Rattle.csn_fields.specs.Outlines.{AreOutlines}

pub record AlternativesV : Type 0 where
  pub numbers : List (Option ℕ)
  pub outlines : List (Option (List Mark))

-- they are those of a description
pub record HasAlternatives (d : DescV) (a : AlternativesV) : Type 0 where
  pub numbers : HasNumbers d a.numbers
  pub outlines : AreOutlines d a.outlines
