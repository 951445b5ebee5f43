use Rattle.std.proofs.Common.{◌≡◌, ℕ, nat_le, true, List, [], ◌∷◌, Some, refl, arith, rules, codes}
use Rattle.std.specs.List.{list_all}
use Rattle.std.proofs.lemmas.Str.{IsUtf8-from_ascii}
use Rattle.hex.specs.Hex.{encode_with}
use Rattle.serde_json.proofs.OnLiterals.{serde_json_on_literals}
use Rattle.serde_json.specs.Read.{read}
use Rattle.csn_desc.specs.TreeV.{TreeV, empty, bits, alt, named}
use Rattle.csn_desc.specs.TreeParts.{HasTreeParts}
use Rattle.csn_treetext.specs.Fits.{Fits}
use Rattle.csn_json.specs.JsonTree.{json_of}
use Rattle.csn_json.specs.JsonText.{JsonText}
use Rattle.csn_json.proofs.Ascii.{ascii_if}
use Rattle.csn_json.proofs.examples.worked_examples.Goals as goal

-- a text of ASCII that is read as the value of a tree shows the tree
shows : (t : TreeV) (text : List ℕ) → list_all (λ byte. nat_le byte 127) text ≡ true → read text ≡ Some (json_of t) → Fits t → HasTreeParts t → JsonText t text
shows t text ascii reads fits parts = (
  json_of t,
  record { utf8 = IsUtf8-from_ascii text (ascii_if text ascii); reads = reads },
  record { fits = fits; parts = parts; shown = refl },
)

pub returns-clause-label : goal.returns-clause-label
unfolding serde_json_on_literals encode_with
returns-clause-label c =
    shows (named (codes "A") (bits (1 ∷ 0 ∷ 1 ∷ []))) (codes "{\"label\":\"A\",\"tree\":\"A0/3\"}") refl refl (omega arith) (search rules)

pub returns-clause-order : goal.returns-clause-order
unfolding serde_json_on_literals encode_with
returns-clause-order c =
    shows (named (codes "A") (bits (1 ∷ 0 ∷ 1 ∷ []))) (codes "{\"tree\": \"A0/3\", \"label\": \"A\"}") refl refl (omega arith) (search rules)

pub returns-clause-last : goal.returns-clause-last
unfolding serde_json_on_literals encode_with
returns-clause-last c =
    shows (alt 2 empty) (codes "{\"alt\":1,\"tree\":null,\"alt\":2}") refl refl (search rules) (search rules)
