-- The labelled fields that a part sees, and the counts that stand on their values: `val(Label)` of 3GPP
-- TS 24.007 Annex B. Which fields a part sees is this project's own choice: the labelled ones among the
-- earlier items of each sequence and each truncation round it. So a rule sees the labels round the place
-- where its name is written, and no label inside an item is seen behind that item.
use Rattle.std.specs.Prelude.{ℕ, ◌+◌, ◌*◌, if◌then◌else◌, List, [], ◌∷◌, Option, Some, None}
use Rattle.std.specs.Option.{option_map, option_or}
use Rattle.csn_desc.specs.declared.reading.Reading.{Reading}
use Rattle.csn_desc.specs.declared.reading.Reading.TheVariants.{Received, Sent}
use Rattle.csn_bits.specs.Numbers.{number_of}
use Rattle.csn_grammar.specs.declared.exponent.Exponent.{Exponent}
use Rattle.csn_grammar.specs.declared.exponent.Exponent.TheVariants.{Any, Number, Linear}
use Rattle.csn_grammar.specs.ExprV.{ExprV, expr, FormV, labelled, sends}
use Rattle.csn_grammar.specs.Names.{same_name}

-- the labels and the bits of the labelled items of one sequence or truncation that stand before a part,
-- the last one first
abbrev pub Frame : Type 0
Frame = List (List ℕ × List ℕ)

-- a frame for each sequence and truncation round a part, the innermost first
abbrev pub Env : Type 0
Env = List Frame

-- the value of the last field with this label in a frame: the number that its bits write
abbrev pub value_in : Frame → List ℕ → Option ℕ
value_in [] label = None
value_in (last ∷ earlier) label =
    if same_name last.0 label then Some (number_of last.1) else value_in earlier label

-- `val(label)`: the value in the innermost frame that has one
abbrev pub value_of : Env → List ℕ → Option ℕ
value_of [] label = None
value_of (frame ∷ env) label = option_or (value_in frame label) (value_of env label)

-- how many an exponent is; none where it is any number, and where its label has no value
abbrev pub count_of : Env → Exponent → Option ℕ
count_of env Any = None
count_of env (Number n) = Some n
count_of env (Linear m label c) = option_map (λ value. m * value + c) (value_of env label)

-- the label of an item `<label : x>`; `X = Y` has that of the side that is taken, and no other item
-- has one
abbrev mutual
  pub label_of : Reading → ExprV → Option (List ℕ)
  label_of r (expr s e f) = form_label r f

  pub form_label : Reading → FormV → Option (List ℕ)
  form_label r (labelled label x) = Some label
  form_label Received (sends x y) = label_of Received x
  form_label Sent (sends x y) = label_of Sent y
  form_label r _ = None

-- a frame with a field more, where the item has a label
abbrev pub with_label : Option (List ℕ) → List ℕ → Frame → Frame
with_label None b frame = frame
with_label (Some label) b frame = (label, b) ∷ frame

-- the frame behind the item x that has the bits b
abbrev pub with_item : Reading → ExprV → List ℕ → Frame → Frame
with_item r x b frame = with_label (label_of r x) b frame
