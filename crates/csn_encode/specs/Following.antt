-- Texts that begin with the text of a tree, in either form. (This project's own choice.)
use Rattle.std.specs.Prelude.{◌≡◌, false, List, [], ℕ, ◌∷◌, ◌++◌, codes, length}
use Rattle.csn_desc.specs.TreeV.{TreeV, Trees, trees_of}
use Rattle.csn_treetext.specs.declared.version.Version.TheVariants.{Second}
use Rattle.csn_treetext.specs.Text.{row_text}
use Rattle.csn_json.specs.JsonText.{row_text as json_row}
use Rattle.csn_json.specs.declared.form.TreeForm.{TreeForm}
use Rattle.csn_json.specs.declared.form.TreeForm.TheVariants.{Text, Json}
use Rattle.csn_json.specs.Forms.{text_in}

-- the trees of a row, with what is between them
abbrev pub trees_in : TreeForm → Trees → List ℕ
trees_in Text ts = row_text Second ts
trees_in Json ts = json_row false ts

-- what ends an alternative or a labelled part
abbrev pub closing : TreeForm → List ℕ
closing Text = []
closing Json = codes "}"

-- the text is that of a tree, of which this holds, and the rest
abbrev pub BeginsWith : TreeForm → List ℕ → (TreeV → Type 0) → List ℕ → Type 0
BeginsWith form text holds rest = (t : TreeV) × (text ≡ text_in form t ++ rest) × holds t

-- the text is that of the trees of a row, as many as counted, of which this holds, then `]` and the rest
abbrev pub BeginsWithRow : TreeForm → List ℕ → (List TreeV → Type 0) → ℕ → List ℕ → Type 0
BeginsWithRow form text holds count rest =
    (ts : List TreeV) × (length ts ≡ count) × (text ≡ trees_in form (trees_of ts) ++ 93 ∷ rest) × holds ts
