-- The labelled items that a part sees, `val(Label)` of 3GPP TS 24.007 Annex B, each with what is known of it:
-- its node, or its expression. Which items a part sees is this project's own choice, and that of the meaning:
-- the labelled ones among the earlier items of each sequence and each truncation round it.
use Rattle.std.specs.Prelude.{ℕ, if◌then◌else◌, List, [], ◌∷◌, Option, Some, None}
use Rattle.std.specs.Option.{option_or}
use Rattle.csn_desc.specs.declared.reading.Reading.{Reading}
use Rattle.csn_desc.specs.declared.reading.Reading.TheVariants.{Received, Sent}
use Rattle.csn_grammar.specs.ExprV.{ExprV, expr, FormV, labelled, sends}
use Rattle.csn_grammar.specs.Names.{same_name}

-- the labelled items of one sequence or truncation that stand before a part, the last one first
abbrev pub Frame : Type 0 → Type 0
Frame A = List (List ℕ × A)

-- a frame for each sequence and truncation round a part, the innermost first
abbrev pub Seen : Type 0 → Type 0
Seen A = List (Frame A)

-- the last item with this label in a frame
abbrev pub seen_in : {A : Type 0} → Frame A → List ℕ → Option A
seen_in [] label = None
seen_in (last ∷ earlier) label =
    if same_name last.0 label then Some last.1 else seen_in earlier label

-- the item that `val(label)` stands on: that of the innermost frame that has one
abbrev pub seen_of : {A : Type 0} → Seen A → List ℕ → Option A
seen_of [] label = None
seen_of (frame ∷ seen) label = option_or (seen_in frame label) (seen_of seen label)

-- a frame with an item more, where the item has a label
abbrev pub with_labelled : {A : Type 0} → Option (List ℕ) → A → Frame A → Frame A
with_labelled None a frame = frame
with_labelled (Some label) a frame = (label, a) ∷ frame

-- what stands in an item behind its label; `X = Y` counts as the side that is taken
abbrev mutual
  pub inner_of : Reading → ExprV → ExprV
  inner_of r (expr s e f) = form_inner r s e f

  pub form_inner : Reading → ℕ → ℕ → FormV → ExprV
  form_inner r s e (labelled label x) = x
  form_inner Received s e (sends x y) = inner_of Received x
  form_inner Sent s e (sends x y) = inner_of Sent y
  form_inner r s e f = expr s e f
