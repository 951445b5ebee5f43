-- The values of labelled fields, and the counts that stand on them: 3GPP TS 24.007 Annex B writes such
-- a count `val(Label)`. Which fields a part sees is this project's own choice: the labelled ones among
-- the earlier parts of each sequence and truncation round it.
use Rattle.std.specs.Prelude.{ℕ, ◌+◌, ◌*◌, Bool, true, false, if◌then◌else◌, ◌==◌, List, [], ◌∷◌, slice_get, Option, Some, None}
use Rattle.std.specs.Option.{option_map}
use Rattle.csn_bits.specs.Numbers.{number_of}
use Rattle.csn_desc.specs.declared.node.Count.{Count}
use Rattle.csn_desc.specs.declared.node.Count.TheVariants.{Fixed, Counted}
use Rattle.csn_desc.specs.declared.node.Node.{Node}
use Rattle.csn_desc.specs.declared.node.Node.TheVariants.{Named}

-- the bits of the labelled parts that a part sees, each with the node of its label, the last one first
abbrev pub Values : Type 0
Values = List (ℕ × List ℕ)

-- the number of the last bits that are there for a field
abbrev pub value_of : Values → ℕ → Option ℕ
value_of [] field = None
value_of (last ∷ earlier) field =
    if last.0 == field then Some (number_of last.1) else value_of earlier field

-- how many a count is; none where its field has no value
abbrev pub count_of : Values → Count → Option ℕ
count_of values (Fixed n) = Some n
count_of values (Counted m field c) = option_map (λ value. m * value + c) (value_of values field)

-- is the node, where there is one, a labelled part?
abbrev pub is_labelled : Option Node → Bool
is_labelled (Some (Named label part)) = true
is_labelled _ = false

-- is the node with this number a labelled part?
abbrev pub is_named : List Node → ℕ → Bool
is_named nodes i = is_labelled (slice_get nodes i)

-- what the parts behind part i of a sequence or truncation see, where its bits are b
abbrev pub with_value : List Node → ℕ → List ℕ → Values → Values
with_value nodes i b values = if is_named nodes i then (i, b) ∷ values else values
