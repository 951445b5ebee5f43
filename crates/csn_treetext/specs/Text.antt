-- The text of a tree. The form is this project's own: 3GPP TS 24.007 Annex B says what bits mean and not
-- how values are shown.
use Rattle.std.specs.Prelude.{ℕ, ◌+◌, nat_le, Bool, ◌&&◌, if◌then◌else◌, List, [], ◌∷◌, ◌++◌, length, map}
use Rattle.std.specs.Fmt.{decimal}
use Rattle.csn_treetext.specs.declared.bounds.TheConstants.{MOST_SHORT}
use Rattle.csn_bits.specs.Line.{written}
use Rattle.csn_bits.specs.Numbers.{number_of}
use Rattle.csn_desc.specs.TreeV.{TreeV, empty, bits, row, alt, named, Trees, none, more}
use Rattle.csn_treetext.specs.declared.version.Version.{Version}
use Rattle.csn_treetext.specs.declared.version.Version.TheVariants.{First, Second}

-- ---- leaves

-- 1 to 64 bits
abbrev pub is_short : List ℕ → Bool
is_short b = nat_le 1 (length b) && nat_le (length b) MOST_SHORT

-- `w'n`: how many bits, and the number that they write, the first one most significant
abbrev pub short_text : List ℕ → List ℕ
short_text b = decimal (length b) ++ 39 ∷ decimal (number_of b)

-- a digit `0` or `1` for each bit
abbrev pub bit_digits : List ℕ → List ℕ
bit_digits b = map (λ bit. 48 + bit) b

-- the text of no bits, or of more than 64. In the first version: `b` and the bits as digits. In the
-- second: `b` alone for no bits, else `x` and their block line
abbrev pub other_text : Version → List ℕ → List ℕ
other_text First b = 98 ∷ bit_digits b
other_text Second [] = 98 ∷ []
other_text Second (bit ∷ rest) = 120 ∷ written (bit ∷ rest)

abbrev pub leaf_text : Version → List ℕ → List ℕ
leaf_text version b = if is_short b then short_text b else other_text version b

-- ---- trees

-- nothing is `.`, a row has its trees in `[` and `]` with one space between, an alternative is `#n:` and
-- its tree, a labelled part `<label>=` and its tree
abbrev mutual
  pub text_of : Version → TreeV → List ℕ
  text_of version empty = 46 ∷ []
  text_of version (bits b) = leaf_text version b
  text_of version (row ts) = 91 ∷ (row_text version ts ++ 93 ∷ [])
  text_of version (alt j t) = 35 ∷ (decimal j ++ 58 ∷ text_of version t)
  text_of version (named l t) = 60 ∷ (l ++ 62 ∷ 61 ∷ text_of version t)

  pub row_text : Version → Trees → List ℕ
  row_text version none = []
  row_text version (more t ts) = text_of version t ++ rest_text version ts

  -- the trees of a row behind its first: each with a space before it
  pub rest_text : Version → Trees → List ℕ
  rest_text version none = []
  rest_text version (more t ts) = 32 ∷ (text_of version t ++ rest_text version ts)
