-- The tree that bits have, as contracts see it: the nesting of what 3GPP TS 24.007 Annex B writes,
-- with the values that stand in it. Which trees there are is this project's own choice.
use Rattle.std.specs.Prelude.{ℕ, List, [], ◌∷◌}

mutual
  -- nothing, bits, a row of trees, an alternative by its number, or a labelled tree
  pub data TreeV : Type 0 where
    -- nothing to tell, as of a literal
    empty : TreeV
    -- the bits of a field or of a spare part, the first one most significant
    bits : List ℕ → TreeV
    -- one tree for each part
    row : Trees → TreeV
    -- the number of an alternative, from 0, and its tree
    alt : ℕ → TreeV → TreeV
    -- the label of a labelled part, as text, and its tree
    named : List ℕ → TreeV → TreeV

  -- a list of trees: a type of its own, since `TreeV` cannot hold a list of itself
  pub data Trees : Type 0 where
    none : Trees
    more : TreeV → Trees → Trees

-- the trees as a list
abbrev pub list_of : Trees → List TreeV
list_of none = []
list_of (more t ts) = t ∷ list_of ts

-- a list as trees
abbrev pub trees_of : List TreeV → Trees
trees_of [] = none
trees_of (t ∷ ts) = more t (trees_of ts)
