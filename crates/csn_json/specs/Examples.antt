-- Worked examples.
use Rattle.std.specs.Prelude.{[], ◌∷◌, codes}
use Rattle.csn_desc.specs.TreeV.{empty, bits, alt, named}
use Rattle.csn_json.specs.declared.fault.JsonFault.TheVariants.{NotJson, NotTree}
use Rattle.csn_json.specs.JsonText.{JsonText, IsFaultOf}

-- a field A with the bits 1 0 1
abbrev pub LabelsStandBesideTrees : Type 0
LabelsStandBesideTrees = JsonText (named (codes "A") (bits (1 ∷ 0 ∷ 1 ∷ []))) (codes "{\"label\":\"A\",\"tree\":\"A0/3\"}")

-- its members in the other order, and space between
abbrev pub OrderDoesNotMatter : Type 0
OrderDoesNotMatter = JsonText (named (codes "A") (bits (1 ∷ 0 ∷ 1 ∷ []))) (codes "{\"tree\": \"A0/3\", \"label\": \"A\"}")

abbrev pub LastOfEqualKeysCounts : Type 0
LastOfEqualKeysCounts = JsonText (alt 2 empty) (codes "{\"alt\":1,\"tree\":null,\"alt\":2}")

abbrev pub LowerCaseIsNoBlockLine : Type 0
LowerCaseIsNoBlockLine = IsFaultOf (codes "\"a0/3\"") NotTree

abbrev pub BraceIsNoJson : Type 0
BraceIsNoJson = IsFaultOf (codes "{") NotJson
