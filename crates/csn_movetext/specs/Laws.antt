-- Laws over texts that are written along the moves of a block.
use Rattle.std.specs.Prelude.{◌≡◌, ℕ, ◌≤◌, Bool, true, List, [], ◌++◌, length, slice_get, Some}
use Rattle.csn_bits.specs.Octets.{most_bits}
use Rattle.csn_desc.specs.declared.moves.Move.{Move}
use Rattle.csn_desc.specs.declared.node.Node.{Node}
use Rattle.csn_desc.specs.declared.node.Node.TheVariants.{Named}
use Rattle.csn_desc.specs.TreeV.{TreeV}
use Rattle.csn_desc.specs.Label.{IsLabel}
use Rattle.csn_desc.specs.Nodes.{DescV}
use Rattle.csn_desc.specs.Formed.{IsDescription}
use Rattle.csn_desc.specs.Values.{Values}
use Rattle.csn_desc.specs.Means.{NMeans}
use Rattle.csn_desc.specs.Walks.{Walk}
use Rattle.csn_treetext.specs.Fits.{Fits}
use Rattle.csn_json.specs.declared.form.TreeForm.{TreeForm}
use Rattle.csn_json.specs.Forms.{IsShown, gap_after, text_in}
use Rattle.csn_movetext.specs.WithNodes.{with_nodes}
use Rattle.csn_movetext.specs.Openings.{AreOpenings, node_opening}
use Rattle.csn_movetext.specs.Writing.{ready, written_by}

-- the moves of a tree at a node write it in a form, behind the mark that the node has as a part
abbrev pub MovesWriteTheirTree : Type 0
MovesWriteTheirTree =
    (form : TreeForm) (d : DescV) (openings : ℕ → List ℕ) (i o at : ℕ) (v : Values) (b : List ℕ) (t : TreeV) (moves : List Move)
    (mark : List ℕ) (rest : List Move) (around : List Node) (text : List ℕ) (left : Bool)
    → AreOpenings form d openings → NMeans d i o v b t → Walk d i at t moves
    → ((m : Node) → slice_get d.nodes i ≡ Some m → openings i ≡ mark ++ node_opening form m)
    → written_by form openings (ready text left) (with_nodes d around (moves ++ rest))
    ≡ written_by form openings (ready (text ++ (gap_after form left ++ (mark ++ text_in form t))) true) (with_nodes d around rest)

-- the moves of a block write its tree in a form
abbrev pub BlocksAreWritten : Type 0
BlocksAreWritten =
    (form : TreeForm) (d : DescV) (openings : ℕ → List ℕ) (o at : ℕ) (v : Values) (b : List ℕ) (t : TreeV) (moves : List Move)
    (text : List ℕ) (left : Bool)
    → AreOpenings form d openings → NMeans d 0 o v b t → Walk d 0 at t moves
    → written_by form openings (ready text left) (with_nodes d [] moves)
    ≡ Some (ready (text ++ (gap_after form left ++ text_in form t)) true)

-- the tree of a block by a description is no deeper than a text can be, and has no further alternatives
abbrev pub TreesFit : Type 0
TreesFit = (d : DescV) (b : List ℕ) (t : TreeV) → IsDescription d → NMeans d 0 0 [] b t → Fits t

-- the tree of a block by a description whose labels are labels has a text in each form
abbrev pub TreesHaveTexts : Type 0
TreesHaveTexts =
    (form : TreeForm) (d : DescV) (b : List ℕ) (t : TreeV)
    → IsDescription d → ((i part : ℕ) (label : List ℕ) → slice_get d.nodes i ≡ Some (Named label part) → IsLabel label)
    → length b ≤ most_bits → NMeans d 0 0 [] b t
    → IsShown form t (text_in form t)
