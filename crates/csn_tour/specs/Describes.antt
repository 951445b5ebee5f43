-- What a text describes.
use Rattle.std.specs.Prelude.{ℕ, List, [], ◌∷◌}
use Rattle.csn_desc.specs.declared.reading.Reading.{Reading}
use Rattle.csn_desc.specs.Nodes.{DescV}
use Rattle.csn_grammar.specs.RulesV.{RulesV}
use Rattle.csn_grammar.specs.Place.{HasRules}
use Rattle.csn_resolve.specs.Resolved.{IsResolved}

-- the description of the rule `M` of a text, in a reading
abbrev pub Describes : Reading → List ℕ → DescV → Type 0
Describes reading text d = (rules : RulesV) × HasRules text rules × IsResolved rules (77 ∷ []) reading d
