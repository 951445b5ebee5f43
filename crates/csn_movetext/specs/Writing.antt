-- The text of a tree, in a form, while it is written along the moves of a block.
use Rattle.std.specs.Prelude.{◌≡◌, refl, ℕ, Bool, true, false, if◌then◌else◌, ◌==◌, List, [], ◌∷◌, ◌++◌, length, codes, Option, Some, None}
use Rattle.std.specs.Option.{option_and_then}
use Rattle.std.specs.Fmt.{decimal, digits}
use Rattle.hex.specs.Hex.{encode_with}
use Rattle.csn_bits.specs.Line.{written}
use Rattle.csn_bits.specs.Numbers.{number_of}
use Rattle.csn_desc.specs.declared.moves.Move.{Move}
use Rattle.csn_desc.specs.declared.moves.Move.TheVariants.{Enter, Bit, Leave}
use Rattle.csn_desc.specs.declared.node.Count.TheVariants.{Fixed}
use Rattle.csn_desc.specs.declared.node.Node.{Node}
use Rattle.csn_desc.specs.declared.node.Node.TheVariants.{Lits, Spare, Pad, Field, Rest, Seq, Choice, Times, Many, Trunc, Named}
use Rattle.csn_treetext.specs.declared.version.Version.TheVariants.{Second}
use Rattle.csn_treetext.specs.Text.{leaf_text}
use Rattle.csn_json.specs.declared.form.TreeForm.{TreeForm}
use Rattle.csn_json.specs.declared.form.TreeForm.TheVariants.{Text, Json}
use Rattle.csn_json.specs.Forms.{gap_after}
use Rattle.csn_movetext.specs.Openings.{leaf_width, opening_in}

-- the text so far; whether the last move left a node; and the bits of the leaf that is open
pub record WritingV : Type 0 where
  pub text : List ℕ
  pub left : Bool
  pub gathered : List ℕ

-- no leaf is open
abbrev pub ready : List ℕ → Bool → WritingV
ready text left = record { text = text; left = left; gathered = [] }

-- some bits more of the leaf
abbrev pub gathering : WritingV → List ℕ → WritingV
gathering w more = record { text = w.text; left = w.left; gathered = w.gathered ++ more }

-- only where no leaf is open
abbrev pub when_none : List ℕ → WritingV → Option WritingV
when_none [] w = Some w
when_none (bit ∷ rest) w = None

-- a node is entered, which writes its opening
abbrev pub entered : TreeForm → List ℕ → WritingV → Option WritingV
entered form opening w = when_none w.gathered (ready (w.text ++ (gap_after form w.left ++ opening)) false)

-- a bit is taken; those of a literal are in no text
abbrev pub took : ℕ → Node → WritingV → Option WritingV
took bit (Lits run) w = Some w
took bit _ w = Some (gathering w (bit ∷ []))

-- a node is left that writes one byte then
abbrev pub shut : ℕ → WritingV → Option WritingV
shut byte w = when_none w.gathered (ready (w.text ++ byte ∷ []) true)

-- a node is left that writes nothing then
abbrev pub passed : WritingV → Option WritingV
passed w = when_none w.gathered (ready w.text true)

-- a node is left whose part has a number or a label: JSON has an object round it
abbrev pub part_left : TreeForm → WritingV → Option WritingV
part_left Text w = passed w
part_left Json w = shut 125 w

-- the bits are as many as were told
abbrev pub has_width : Option ℕ → List ℕ → Bool
has_width None b = true
has_width (Some width) b = length b == width

-- the text of a leaf, all of it, or what is left of it behind its width
abbrev pub bits_text : Option ℕ → List ℕ → List ℕ
bits_text None b = leaf_text Second b
bits_text (Some width) b = decimal (number_of b)

-- a leaf is left: JSON has its block line
abbrev pub closed : TreeForm → Option ℕ → WritingV → Option WritingV
closed Text width w =
    if has_width width w.gathered then Some (ready (w.text ++ bits_text width w.gathered) true) else None
closed Json width w = Some (ready (w.text ++ (written w.gathered ++ codes "\"")) true)

abbrev pub left_node : TreeForm → Node → WritingV → Option WritingV
left_node form (Spare symbol) w = closed form (leaf_width (Spare symbol)) w
left_node form Pad w = closed form None w
left_node form (Field unit count) w = closed form (leaf_width (Field unit count)) w
left_node form Rest w = closed form None w
left_node form (Seq parts) w = shut 93 w
left_node form (Times count part) w = shut 93 w
left_node form (Many part) w = shut 93 w
left_node form (Trunc parts) w = shut 93 w
left_node form (Choice parts) w = part_left form w
left_node form (Named label part) w = part_left form w
left_node form _ w = passed w

-- behind one move, where `openings` tells what each node writes where it begins. There is nothing where a leaf is open
-- and another node is entered or left, or as a text the leaf has other bits than were told
abbrev pub behind : TreeForm → (ℕ → List ℕ) → Move → Node → WritingV → Option WritingV
behind form openings (Enter i) n w = entered form (openings i) w
behind form openings (Bit bit) n w = took bit n w
behind form openings Leave n w = left_node form n w

-- behind some moves with their nodes
abbrev pub written_by : TreeForm → (ℕ → List ℕ) → WritingV → List (Move × Node) → Option WritingV
written_by form openings w [] = Some w
written_by form openings w (first ∷ rest) =
    option_and_then (λ next. written_by form openings next rest) (behind form openings first.0 first.1 w)

-- ---- examples

abbrev two_bits : Node
two_bits = Field 1 (Fixed 2)

abbrev example_moves : List (Move × Node)
example_moves =
    (Enter 0, Seq (1 ∷ 2 ∷ [])) ∷ (Enter 1, two_bits) ∷ (Bit 1, two_bits) ∷ (Bit 0, two_bits) ∷ (Leave, two_bits)
    ∷ (Enter 2, two_bits) ∷ (Bit 1, two_bits) ∷ (Bit 1, two_bits) ∷ (Leave, two_bits) ∷ (Leave, Seq (1 ∷ 2 ∷ [])) ∷ []

-- what is written behind a text of a sequence of two fields of two bits each, which these bytes open
abbrev fields_written : TreeForm → List ℕ → Option WritingV
fields_written form field =
    written_by form (opening_in (record { form = form; texts = codes "[" ∷ field ∷ field ∷ []; templates = [] })) (ready (codes "a") false) example_moves

-- such a sequence
pub two_fields : fields_written Text (codes "2'") ≡ Some (ready (codes "a[2'2 2'3]") true)
unfolding digits
two_fields = refl

-- the same in JSON
pub two_fields_in_json : fields_written Json (codes "\"") ≡ Some (ready (codes "a[\"80/2\",\"C0/2\"]") true)
unfolding encode_with
two_fields_in_json = refl

-- a row of no trees, and a leaf of no bits
pub no_turns :
    written_by Text (λ i. codes "[") (ready [] true) ((Enter 0, Many 1) ∷ (Leave, Many 1) ∷ [])
    ≡ Some (ready (codes " []") true)
no_turns = refl

pub no_bits_in_json :
    written_by Json (λ i. codes "\"") (ready [] true) ((Enter 0, Rest) ∷ (Leave, Rest) ∷ [])
    ≡ Some (ready (codes ",\".\"") true)
no_bits_in_json = refl
