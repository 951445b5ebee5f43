-- Labelled fields of an old description, each with the field of a new one that takes its bits, so that the two
-- have one number wherever the new description takes a block of the old one.
use Rattle.std.specs.Prelude.{◌≡◌, ℕ, ◌*◌, ◌==◌, ◌&&◌, Bool, false, if◌then◌else◌, IsTrue, List, [], ◌∷◌, ◌++◌, Option, Some}
use Rattle.std.specs.List.{list_any}
use Rattle.csn_desc.specs.declared.node.Count.{Count}
use Rattle.csn_desc.specs.declared.node.Count.TheVariants.{Fixed, Counted}
use Rattle.csn_desc.specs.Nodes.{DescV}
use Rattle.csn_desc.specs.Formed.{value_width, is_counted}
use Rattle.csn_compat.specs.declared.pairs.Pair.{Pair}

-- are these two fields a pair?
abbrev pub are_paired : List Pair → ℕ → ℕ → Bool
are_paired pairs field taker = list_any (λ pair. pair.before == field && pair.after == taker) pairs

-- two widths that are there and equal
abbrev pub same_width : Option ℕ → Option ℕ → Bool
same_width (Some width) (Some other) = width == other
same_width _ _ = false

-- the pairs behind the parts p and q, of which q takes p: labelled fields of one constant width are one more
abbrev pub with_pair : DescV → DescV → ℕ → ℕ → List Pair → List Pair
with_pair was now p q pairs =
    if same_width (value_width was.nodes p) (value_width now.nodes q)
    then pairs ++ record { before = p; after = q } ∷ []
    else pairs

-- the same, without those whose old field no count stands on
abbrev pub with_kept : DescV → DescV → ℕ → ℕ → List Pair → List Pair
with_kept was now p q pairs = if is_counted was.nodes p then with_pair was now p q pairs else pairs

-- two counts, of units of so many bits, are as many bits: constant ones where they are equal in bits, and those on
-- fields where unit, factor and summand are equal and the fields are a pair
abbrev pub CountsAgree : List Pair → ℕ → Count → ℕ → Count → Type 0
CountsAgree pairs unit (Fixed n) other (Fixed k) = unit * n ≡ other * k
CountsAgree pairs unit (Counted m field c) other (Counted n taker e) =
    (unit ≡ other) × (m ≡ n) × (c ≡ e) × IsTrue (are_paired pairs field taker)
CountsAgree pairs unit (Fixed n) other (Counted m taker e) = ⊥
CountsAgree pairs unit (Counted m field c) other (Fixed k) = ⊥
