-- What is written for a tree in each form, and what a form has in place of what the other has. (This project's own
-- choice, as the forms are.)
use Rattle.std.specs.Prelude.{ℕ, Bool, true, false, List, [], ◌∷◌, ◌++◌, codes, Option, Some, None}
use Rattle.std.specs.Fmt.{decimal}
use Rattle.csn_desc.specs.TreeV.{TreeV}
use Rattle.csn_treetext.specs.declared.version.Version.TheVariants.{Second}
use Rattle.csn_treetext.specs.Text.{text_of}
use Rattle.csn_treetext.specs.Place.{TreeText}
use Rattle.csn_json.specs.JsonText.{WrittenJson, json_text}
use Rattle.csn_json.specs.declared.form.TreeForm.{TreeForm}
use Rattle.csn_json.specs.declared.form.TreeForm.TheVariants.{Text, Json}

-- ---- whole trees

abbrev pub text_in : TreeForm → TreeV → List ℕ
text_in Text t = text_of Second t
text_in Json t = json_text t

-- the text that is written for a tree in a form
abbrev pub IsShown : TreeForm → TreeV → List ℕ → Type 0
IsShown Text = TreeText
IsShown Json = WrittenJson

-- ---- where a node begins

-- a literal and no bits, all of it
abbrev pub nothing_text : TreeForm → List ℕ
nothing_text Text = codes "."
nothing_text Json = codes "null"

-- the number of an alternative
abbrev pub mark_text : TreeForm → ℕ → List ℕ
mark_text Text k = codes "#" ++ (decimal k ++ codes ":")
mark_text Json k = codes "{\"alt\":" ++ (decimal k ++ codes ",\"tree\":")

-- a label
abbrev pub label_text : TreeForm → List ℕ → List ℕ
label_text Text label = codes "<" ++ (label ++ codes ">=")
label_text Json label = codes "{\"label\":\"" ++ (label ++ codes "\",\"tree\":")

-- the width of a leaf, where it is known: a text has `w'` for it, JSON has it nowhere
abbrev pub width_text : Option ℕ → List ℕ
width_text None = []
width_text (Some width) = decimal width ++ codes "'"

abbrev pub leaf_opening : TreeForm → Option ℕ → List ℕ
leaf_opening Text width = width_text width
leaf_opening Json width = codes "\""

-- ---- between nodes

-- what stands where a node is entered after another was left
abbrev pub gap : TreeForm → ℕ
gap Text = 32
gap Json = 44

abbrev pub gap_after : TreeForm → Bool → List ℕ
gap_after form false = []
gap_after form true = gap form ∷ []

-- ---- inside a leaf

-- what stands before the octets of a leaf
abbrev pub octets_sign : TreeForm → List ℕ
octets_sign Text = codes "x"
octets_sign Json = []
