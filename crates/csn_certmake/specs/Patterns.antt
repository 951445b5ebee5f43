-- Patterns of single nodes, and of one part after another. (This project's own choice.)
use Rattle.std.specs.Prelude.{◌≡◌, ℕ, zero, suc, ◌+◌, ◌%◌, ◌<◌, ◌≤◌, if◌then◌else◌, flat_map, slice_get, Some, true}
use Rattle.std.specs.Prelude.{List, [], ◌∷◌, ◌++◌, length, map, Contains, slice_index_or, ◌↔◌}
use Rattle.csn_desc.specs.declared.reading.Reading.{Reading}
use Rattle.csn_desc.specs.declared.node.Count.TheVariants.{Fixed, Counted}
use Rattle.csn_desc.specs.declared.node.Count.{Count}
use Rattle.csn_desc.specs.declared.node.Node.{Node}
use Rattle.csn_desc.specs.declared.node.Node.TheVariants.{Seq, Choice, Times, Named}
use Rattle.csn_cert.specs.PatternV.{PatternV}
use Rattle.csn_cert.specs.PatternText.{ComesBefore}
use Rattle.csn_cert.specs.CertificateV.{Rises}
use Rattle.csn_good.specs.Patterns.{leaf_pattern, shortened, unread}

-- two patterns one after the other
abbrev pub joined : PatternV → PatternV → PatternV
joined first rest = shortened (first.marks ++ rest.marks) rest.whole

-- the patterns of an octet position, of those of the eight
abbrev pub patterns_in : List (List PatternV) → ℕ → List PatternV
patterns_in row octet = slice_index_or row octet []

-- a pattern at an octet position, as it is where it is cut, and else joined with each pattern of what comes after it
abbrev pub continued : List (List PatternV) → ℕ → PatternV → List PatternV
continued rests octet first =
    if first.whole
    then map (joined first) (patterns_in rests ((octet + length first.marks) % 8))
    else first ∷ []

-- the lists have the same patterns
abbrev pub HasSame : List PatternV → List PatternV → Type 0
HasSame patterns others = (p : PatternV) → Contains patterns p ↔ Contains others p

-- ---- the equations

-- a pattern at an octet position before what has these patterns at each octet position
abbrev pub before_all : (ℕ → List PatternV) → ℕ → PatternV → List PatternV
before_all rests octet first =
    if first.whole
    then map (joined first) (rests ((octet + length first.marks) % 8))
    else first ∷ []

-- of parts one after another, by the patterns of each part at each octet position
abbrev pub sequence_of : (ℕ → ℕ → List PatternV) → List ℕ → ℕ → List PatternV
sequence_of of_part [] octet = record { marks = []; whole = true } ∷ []
sequence_of of_part (i ∷ parts) octet = flat_map (before_all (sequence_of of_part parts) octet) (of_part i octet)

-- of a part so many times
abbrev pub times_of : (ℕ → List PatternV) → ℕ → ℕ → List PatternV
times_of of_part zero octet = record { marks = []; whole = true } ∷ []
times_of of_part (suc n) octet = flat_map (before_all (times_of of_part n) octet) (of_part octet)

-- of a part as many times as counted
abbrev pub turns_of : (ℕ → List PatternV) → Count → ℕ → List PatternV
turns_of of_part (Fixed n) octet = times_of of_part n octet
turns_of of_part (Counted m field c) octet = unread ∷ []

-- of one of some parts
abbrev pub choice_of : (ℕ → ℕ → List PatternV) → List ℕ → ℕ → List PatternV
choice_of of_part parts octet = flat_map (λ i. of_part i octet) parts

-- the patterns of a node at an octet position, in a list for each node
abbrev pub patterns_at : List (List (List PatternV)) → ℕ → ℕ → List PatternV
patterns_at rows i octet = patterns_in (slice_index_or rows i []) octet

-- of a node, from those of its parts
abbrev pub node_patterns : Reading → List (List (List PatternV)) → Node → ℕ → List PatternV
node_patterns reading rows (Seq parts) octet = sequence_of (patterns_at rows) parts octet
node_patterns reading rows (Choice parts) octet = choice_of (patterns_at rows) parts octet
node_patterns reading rows (Times count i) octet = turns_of (patterns_at rows i) count octet
node_patterns reading rows (Named label i) octet = patterns_at rows i octet
node_patterns reading rows n octet = leaf_pattern reading n octet ∷ []

-- the row has these patterns at each octet position, and at each in the order of their texts
pub record IsRow (of : ℕ → List PatternV) (row : List (List PatternV)) : Type 0 where
  pub eight : length row ≡ 8
  pub same : (octet : ℕ) → octet ≤ 7 → HasSame (patterns_in row octet) (of octet)
  pub rising : (octet : ℕ) → octet ≤ 7 → Rises ComesBefore (patterns_in row octet)

-- there is a row of eight lists for each of the parts, each in order
pub record AreRows (table : List (List (List PatternV))) (parts : List ℕ) : Type 0 where
  pub there : (at i : ℕ) → slice_get parts at ≡ Some i → i < length table
  pub rows : (at i : ℕ) → slice_get parts at ≡ Some i → IsRow (patterns_at table i) (slice_index_or table i [])
