use Rattle.std.proofs.Common.{drop}
use Rattle.csn_desc.specs.Nodes.{DescV}
use Rattle.csn_certify.specs.Layouts.{AreLayouts}
use Rattle.csn_certify.specs.LayoutParts.{IsShort, HavePartsLayout}
use Rattle.csn_certify.proofs.layouts.sequence.Given as goal

-- the parts from this place on are laid out
abbrev pub invariant-loop-at : goal.invariant-loop-at
invariant-loop-at l = IsShort l.behind × ((d : DescV) → AreLayouts d l.layouts → HavePartsLayout d (drop l.at l.parts) l.behind)
