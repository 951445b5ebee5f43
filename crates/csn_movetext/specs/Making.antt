-- What is added to a template while it is made, for each kind of node. (This project's own choice.)
use Rattle.std.specs.Prelude.{◌≡◌, ℕ, ◌+◌, ◌/◌, ◌^◌, List, [], ◌∷◌, ◌++◌, length, slice_get, Option, Some}
use Rattle.csn_desc.specs.declared.node.Node.{Node}
use Rattle.csn_desc.specs.declared.node.Node.TheVariants.{Seq}
use Rattle.csn_desc.specs.TreeV.{TreeV, Trees, row}
use Rattle.csn_desc.specs.Nodes.{DescV, parts_of}
use Rattle.csn_desc.specs.Values.{Values}
use Rattle.csn_desc.specs.Means.{NMeans, NodeMeans, PartsMean}
use Rattle.csn_json.specs.declared.form.TreeForm.TheVariants.{Text}
use Rattle.csn_movetext.specs.declared.template.Template.{Template}
use Rattle.csn_json.specs.Forms.{text_in}
use Rattle.csn_movetext.specs.Openings.{OpeningsV, opening_in, AreTemplates, node_opening, opening_of, number_at}
use Rattle.csn_movetext.specs.Templates.{filled, template_at, EndsIn}

-- the template of a part is added, with so many bits behind the part
pub record HasPart (templates : List (Option Template)) (part behind : ℕ) (old new : Template) : Type 0 where
  pub made : Template
  pub there : template_at templates part ≡ Some made
  pub added : (number : ℕ) → filled new number ≡ filled old number ++ filled made (number / 2 ^ behind)

-- the strings of a part have as many bits as are missing to others
abbrev pub EndsAt : DescV → ℕ → ℕ → ℕ → Type 0
EndsAt d part bits behind = (o : ℕ) (v : Values) (b : List ℕ) (t : TreeV) → NMeans d part o v b t → length b + behind ≡ bits

-- the parts of a node have these templates, and their openings
pub record AreReady (d : DescV) (n : Node) (templates : List (Option Template)) : Type 0 where
  pub openings : OpeningsV
  pub form : openings.form ≡ Text
  pub opened :
      (j part : ℕ) (m : Node) → slice_get (parts_of n) j ≡ Some part → slice_get d.nodes part ≡ Some m
      → opening_in openings part ≡ opening_of Text (number_at n j) m
  pub made : AreTemplates d openings templates

-- a template that had the opening of a node has the text of its tree, for the bits that a number ends in
abbrev pub WritesTree : Node → Template → Template → ℕ → TreeV → Type 0
WritesTree node old new number t =
    (front : List ℕ) → filled old number ≡ front ++ node_opening Text node → filled new number ≡ front ++ text_in Text t

abbrev pub WritesLeaf : Node → ℕ → Template → Template → Type 0
WritesLeaf node width old new =
    (d : DescV) (o : ℕ) (v : Values) (b : List ℕ) (t : TreeV) (number : ℕ)
    → NodeMeans d node o v b t → length b ≡ width → EndsIn number b → WritesTree node old new number t

abbrev pub WritesNode : DescV → Node → ℕ → List (Option Template) → Template → Template → Type 0
WritesNode d node width templates old new =
    (o : ℕ) (v : Values) (b : List ℕ) (t : TreeV) (number : ℕ) → AreReady d node templates
    → NodeMeans d node o v b t → length b ≡ width → EndsIn number b → WritesTree node old new number t

abbrev pub WritesParts : DescV → List ℕ → ℕ → List (Option Template) → Template → Template → Type 0
WritesParts d parts width templates old new =
    (o : ℕ) (v : Values) (b : List ℕ) (ts : Trees) (number : ℕ) → AreReady d (Seq parts) templates
    → PartsMean d parts o v b ts → length b ≡ width → EndsIn number b
    → (front : List ℕ) → filled old number ≡ front ++ 91 ∷ [] → filled new number ≡ front ++ text_in Text (row ts)
