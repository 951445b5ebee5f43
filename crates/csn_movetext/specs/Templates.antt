-- The text of a node whose strings have as many bits each, where the bits are given as a number: pieces of text, each with
-- the number of a field behind it, and a text behind these. (This project's own choice.)
use Rattle.std.specs.Prelude.{◌≡◌, refl, ℕ, zero, suc, ◌/◌, ◌%◌, ◌^◌, Bool, true, false, List, [], ◌∷◌, ◌++◌, length, slice_get, Option, Some, None, unwrap_or}
use Rattle.std.specs.Fmt.{decimal}
use Rattle.csn_bits.specs.Numbers.{low_bits}
use Rattle.csn_movetext.specs.declared.template.Piece.{Piece}
use Rattle.csn_movetext.specs.declared.template.Template.{Template}

-- a text, and the field in the bits of a number, behind which others stand
abbrev pub piece_text : Piece → ℕ → List ℕ
piece_text p number = p.text.items ++ decimal (number / 2 ^ p.behind % 2 ^ p.width)

abbrev pub pieces_text : List Piece → ℕ → List ℕ
pieces_text [] number = []
pieces_text (p ∷ pieces) number = piece_text p number ++ pieces_text pieces number

-- what a template writes for a number
abbrev pub filled : Template → ℕ → List ℕ
filled t number = pieces_text t.pieces.items number ++ t.tail.items

-- the last bits of a number are these
abbrev pub EndsIn : ℕ → List ℕ → Type 0
EndsIn number b = low_bits (length b) number ≡ b

-- the template that a node has, if it has one
abbrev pub template_at : List (Option Template) → ℕ → Option Template
template_at templates i = unwrap_or (slice_get templates i) None

-- a part has others before it
abbrev pub is_later : ℕ → Bool
is_later zero = false
is_later (suc k) = true
