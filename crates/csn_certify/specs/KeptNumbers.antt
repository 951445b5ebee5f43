-- The numbers that are kept of labelled fields, for the counts that stand on them. (This project's own choice.)
use Rattle.std.specs.Prelude.{◌≡◌, ℕ, ◌==◌, if◌then◌else◌, List, [], ◌∷◌, ◌++◌, Option, Some, None}
use Rattle.csn_bits.specs.Numbers.{number_of}
use Rattle.csn_desc.specs.declared.node.Count.{Count}
use Rattle.csn_desc.specs.Nodes.{DescV}
use Rattle.csn_desc.specs.Values.{Values}
use Rattle.csn_desc.specs.Formed.{is_counted}
use Rattle.csn_certify.specs.declared.numbers.Number.{Number}
use Rattle.csn_certify.specs.CountedValues.{HasNumber}

-- the first value that there is of a field
abbrev pub value_in : ℕ → List Number → Option ℕ
value_in field [] = None
value_in field (number ∷ others) = if number.field == field then Some number.value else value_in field others

module _ (d : DescV) where
  -- the numbers of the values that counts stand on, the last one last
  abbrev pub numbers_of : Values → List Number
  numbers_of [] = []
  numbers_of (last ∷ earlier) =
      if is_counted d.nodes last.0
      then numbers_of earlier ++ record { field = last.0; value = number_of last.1 } ∷ []
      else numbers_of earlier

  -- the numbers that are kept are those by which a count is a number
  pub record KeepsCount (v : Values) (numbers : List Number) (count : Count) : Type 0 where
    pub kept : numbers ≡ numbers_of v
    pub has : HasNumber d v count
