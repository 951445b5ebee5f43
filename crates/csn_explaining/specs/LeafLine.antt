-- What `fields` writes of a leaf of a block. (This project's own choice.)
use Rattle.std.specs.Prelude.{ℕ, ◌+◌, List, [], ◌∷◌, ◌++◌, map, take, drop, codes, Option, Some, None}
use Rattle.std.specs.Fmt.{decimal}
use Rattle.csn_fields.specs.declared.leaf.Leaf.{Leaf}
use Rattle.csn_fields.specs.declared.leaf.LeafKind.{LeafKind}
use Rattle.csn_fields.specs.declared.leaf.LeafKind.TheVariants.{Literal, Spare, Field, Rest, Padding}

-- bits as digits
abbrev pub digits_of : List ℕ → List ℕ
digits_of bits = map (λ bit. 48 + bit) bits

-- the word for a kind of leaf
abbrev pub kind_text : LeafKind → List ℕ
kind_text Literal = codes "literal"
kind_text Spare = codes "spare"
kind_text Field = codes "field"
kind_text Rest = codes "rest"
kind_text Padding = codes "padding"

-- a number in decimal, where there is one, else bits
abbrev pub number_text : Option ℕ → List ℕ → List ℕ
number_text (Some number) bits = decimal number
number_text None bits = digits_of bits

-- the value of a leaf: the number that its bits write, where it tells it, else these bits of the block
abbrev pub value_text : Leaf → List ℕ → List ℕ
value_text leaf block = number_text leaf.number (take leaf.bits (drop leaf.place block))

-- the line of a leaf of a block, with the way to it: the place of its first bit, how many bits it has, its kind, its value
-- and the way, with tabs between
abbrev pub leaf_line : Leaf → List ℕ → List ℕ → List ℕ
leaf_line leaf path block =
    decimal leaf.place ++ 9 ∷ (decimal leaf.bits ++ 9 ∷ (kind_text leaf.kind ++ 9 ∷ (value_text leaf block ++ 9 ∷ (path ++ 10 ∷ []))))
