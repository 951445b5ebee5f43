-- What each node of a description writes of its tree where it begins, in each form. (This project's own choice, as the
-- forms are.)
use Rattle.std.specs.Prelude.{◌≡◌, refl, ℕ, ◌*◌, nat_le, ◌&&◌, if◌then◌else◌, List, [], ◌∷◌, ◌++◌, slice_get, codes, Option, Some, None, unwrap_or}
use Rattle.std.specs.Fmt.{digits}
use Rattle.csn_desc.specs.declared.node.Count.TheVariants.{Fixed}
use Rattle.csn_desc.specs.declared.node.Node.{Node}
use Rattle.csn_desc.specs.declared.node.Node.TheVariants.{Lits, Spare, Pad, Null, Field, Rest, Seq, Choice, Times, Many, Trunc, Named}
use Rattle.csn_desc.specs.Label.{IsLabel}
use Rattle.csn_desc.specs.TreeV.{TreeV}
use Rattle.csn_desc.specs.Nodes.{DescV, parts_of}
use Rattle.csn_desc.specs.Values.{Values}
use Rattle.csn_desc.specs.Means.{NMeans}
use Rattle.csn_treetext.specs.declared.bounds.TheConstants.{MOST_SHORT}
use Rattle.csn_json.specs.declared.form.TreeForm.{TreeForm}
use Rattle.csn_json.specs.declared.form.TreeForm.TheVariants.{Text, Json}
use Rattle.csn_movetext.specs.declared.template.Template.{Template}
use Rattle.csn_json.specs.Forms.{leaf_opening, label_text, mark_text, nothing_text, text_in}
use Rattle.csn_movetext.specs.Templates.{EndsIn, filled, template_at}

-- the number of an alternative, which stands before what it writes
abbrev pub number_text : TreeForm → Option ℕ → List ℕ
number_text form None = []
number_text form (Some k) = mark_text form k

-- a width of 1 to 64 bits can be written before the bits are there
abbrev pub told_width : ℕ → Option ℕ
told_width width = if nat_le 1 width && nat_le width MOST_SHORT then Some width else None

-- the constant width of a leaf, where a text has it before the bits
abbrev pub leaf_width : Node → Option ℕ
leaf_width (Spare symbol) = told_width 1
leaf_width (Field unit (Fixed n)) = told_width (unit * n)
leaf_width _ = None

-- what a node writes where it begins: a literal and no bits all of it, a row its `[`, a label, and a leaf what stands
-- before its bits
abbrev pub node_opening : TreeForm → Node → List ℕ
node_opening form (Lits run) = nothing_text form
node_opening form Null = nothing_text form
node_opening form (Seq parts) = 91 ∷ []
node_opening form (Times count part) = 91 ∷ []
node_opening form (Many part) = 91 ∷ []
node_opening form (Trunc parts) = 91 ∷ []
node_opening form (Named label part) = label_text form label
node_opening form (Spare symbol) = leaf_opening form (leaf_width (Spare symbol))
node_opening form Pad = leaf_opening form None
node_opening form (Field unit count) = leaf_opening form (leaf_width (Field unit count))
node_opening form Rest = leaf_opening form None
node_opening form _ = []

-- with its number before it, where it is an alternative
abbrev pub opening_of : TreeForm → Option ℕ → Node → List ℕ
opening_of form number n = number_text form number ++ node_opening form n

-- the number that the part j of a node has among its alternatives
abbrev pub number_at : Node → ℕ → Option ℕ
number_at (Choice parts) j = Some j
number_at _ j = None

-- what the nodes write in a form where they begin, and the templates of those that are written at once
pub record OpeningsV : Type 0 where
  pub form : TreeForm
  pub texts : List (List ℕ)
  pub templates : List (Option Template)

abbrev pub opening_in : OpeningsV → ℕ → List ℕ
opening_in openings i = unwrap_or (slice_get openings.texts i) []

-- one text more behind the others
abbrev pub with_text : OpeningsV → List ℕ → OpeningsV
with_text openings text =
    record { form = openings.form; texts = openings.texts ++ text ∷ []; templates = openings.templates }

-- the text of a label, where there is one
abbrev pub label_part : TreeForm → Option (List ℕ) → List ℕ
label_part form None = []
label_part form (Some label) = label_text form label

-- the label of a node, where it has one, is a label
abbrev pub HasLabel : Node → Type 0
HasLabel (Named label part) = IsLabel label
HasLabel _ = Unit {0}

-- the openings of the nodes of a description, whose labels are labels: its number stands before what an alternative
-- writes
pub record AreOpenings (form : TreeForm) (d : DescV) (openings : ℕ → List ℕ) : Type 0 where
  pub parts :
      (c j i : ℕ) (n m : Node) → slice_get d.nodes c ≡ Some n → slice_get (parts_of n) j ≡ Some i → slice_get d.nodes i ≡ Some m
      → openings i ≡ opening_of form (number_at n j) m
  pub root : (m : Node) → slice_get d.nodes 0 ≡ Some m → openings 0 ≡ opening_of form None m
  pub labels : (i part : ℕ) (label : List ℕ) → slice_get d.nodes i ≡ Some (Named label part) → IsLabel label

-- node i writes this mark before what its kind does
abbrev pub IsMark : DescV → OpeningsV → ℕ → List ℕ → Type 0
IsMark d openings i mark = (n : Node) → slice_get d.nodes i ≡ Some n → opening_in openings i ≡ mark ++ node_opening openings.form n

-- a template of node i: for the bits that a number ends in, where they are a string of the node, it has the text of their
-- tree behind the mark
pub record IsTemplate (d : DescV) (openings : OpeningsV) (i : ℕ) (template : Template) : Type 0 where
  pub form : openings.form ≡ Text
  pub mark : List ℕ
  pub marked : IsMark d openings i mark
  pub writes :
      (front : List ℕ) → IsMark d openings i front
      → (o : ℕ) (v : Values) (b : List ℕ) (t : TreeV) (number : ℕ) → NMeans d i o v b t → EndsIn number b
      → filled template number ≡ front ++ text_in Text t

abbrev pub AreTemplates : DescV → OpeningsV → List (Option Template) → Type 0
AreTemplates d openings templates =
    (i : ℕ) (template : Template) → template_at templates i ≡ Some template → IsTemplate d openings i template

-- what the nodes write are their openings in the form, each with a mark or none
pub record AreOpened (d : DescV) (openings : OpeningsV) : Type 0 where
  pub opened : AreOpenings openings.form d (opening_in openings)
  pub marks : (i : ℕ) (n : Node) → slice_get d.nodes i ≡ Some n → (mark : List ℕ) × IsMark d openings i mark

-- so that a text can be written by them
pub record HasOpenings (d : DescV) (openings : OpeningsV) : Type 0 where
  pub opened : AreOpenings openings.form d (opening_in openings)
  pub templates : AreTemplates d openings openings.templates

-- ---- examples

-- the second alternative of a choice, a labelled part, in both forms
pub labelled_alternative : opening_of Text (Some 1) (Named (codes "RB Id") 7) ≡ codes "#1:<RB Id>="
unfolding digits
labelled_alternative = refl

pub labelled_in_json : opening_of Json (Some 1) (Named (codes "RB Id") 7) ≡ codes "{\"alt\":1,\"tree\":{\"label\":\"RB Id\",\"tree\":"
unfolding digits
labelled_in_json = refl

-- a field of ten bits, and one of two octets
pub field_of_ten : opening_of Text None (Field 1 (Fixed 10)) ≡ codes "10'"
unfolding digits
field_of_ten = refl

pub field_of_octets : opening_of Text None (Field 8 (Fixed 2)) ≡ codes "16'"
unfolding digits
field_of_octets = refl

-- of 65 bits nothing is written ahead
pub long_field : opening_of Text None (Field 1 (Fixed 65)) ≡ []
long_field = refl
