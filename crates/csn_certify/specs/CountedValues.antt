-- Counts that are numbers by the values of fields. (This project's own choice.)
use Rattle.std.specs.Prelude.{◌≡◌, ℕ, ◌<◌, ◌≤◌, true, List, map, Some}
use Rattle.csn_desc.specs.declared.node.Count.{Count}
use Rattle.csn_desc.specs.declared.node.Count.TheVariants.{Fixed, Counted}
use Rattle.csn_desc.specs.Nodes.{DescV}
use Rattle.csn_desc.specs.Values.{Values, value_of}
use Rattle.csn_desc.specs.Formed.{is_counted}

-- the labelled parts that have values, the last one first
abbrev pub fields_of : Values → List ℕ
fields_of v = map (λ value. value.0) v

-- a count is a number by these values, and counts stand on its field, which has up to 16 bits
abbrev pub HasNumber : DescV → Values → Count → Type 0
HasNumber d v (Fixed n) = n ≤ 65536
HasNumber d v (Counted m field c) =
    (is_counted d.nodes field ≡ true) × (c ≤ 65535) × (number : ℕ) × (value_of v field ≡ Some number) × (number < 65536)
