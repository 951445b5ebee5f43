-- A text along which a block was written is the text of the tree of that block.
use Rattle.std.proofs.Common.{◌≡◌, ℕ, List, subst, sym}
use Rattle.csn_desc.specs.TreeV.{TreeV}
use Rattle.csn_desc.specs.Nodes.{DescV}
use Rattle.csn_desc.specs.Formed.{IsDescription}
use Rattle.csn_encode.specs.Encoding.{IsBlockOf}
use Rattle.csn_json.specs.declared.form.TreeForm.TheVariants.{Text}
use Rattle.csn_movetext.specs.Laws.{TreesHaveTexts}
use Rattle.csn_treetext.specs.declared.version.Version.TheVariants.{Second}
use Rattle.csn_treetext.specs.Text.{text_of}
use Rattle.csn_treetext.specs.Place.{TreeText}
use Rattle.csn_rule.specs.Labels.{LabelsAreLabels}

pub read_along : TreesHaveTexts → (d : DescV) → IsDescription d → LabelsAreLabels d → (text b : List ℕ) (t : TreeV)
    → text ≡ text_of Second t → IsBlockOf d t b → TreeText t text
read_along law d description labels text b t spelled block =
    subst (λ bytes. TreeText t bytes) (sym spelled) (law Text d b t description labels block.within block.means)
