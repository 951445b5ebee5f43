-- Patterns as the private functions make them. No public contract cites these words.
use Rattle.std.specs.Prelude.{◌≡◌, ℕ, ◌+◌, ◌%◌, ◌≤◌, ◌↔◌, true, false, List, ◌++◌, length, slice_get, Some, Contains}
use Rattle.csn_cert.specs.PatternV.{PatternV}
use Rattle.csn_cert.specs.CertificateV.{NodeV}
use Rattle.csn_good.specs.ClaimedSets.{patterns_at}
use Rattle.csn_good.specs.Patterns.{shortened}

-- ---- patterns from each octet position on

pub record MadeAt (made : List (List PatternV)) (octet : ℕ) (p : PatternV) : Type 0 where
  pub patterns : List PatternV
  pub at : slice_get made octet ≡ Some patterns
  pub is_made : Contains patterns p

-- they are those with the fact
pub record AreMade (made : List (List PatternV)) (P : ℕ → PatternV → Type 0) : Type 0 where
  pub eight : length made ≡ 8
  pub are : (octet : ℕ) (p : PatternV) → octet ≤ 7 → MadeAt made octet p ↔ P octet p

-- what one pattern makes at an octet position with those that may stand behind it
pub data FirstMakes (others : ℕ → PatternV → Type 0) (first : PatternV) (octet : ℕ) (p : PatternV) : Type 0 where
  makes_cut : first.whole ≡ false → p ≡ first → FirstMakes others first octet p
  makes_whole :
      (rest : PatternV) → first.whole ≡ true → others ((octet + length first.marks) % 8) rest
      → p ≡ shortened (first.marks ++ rest.marks) rest.whole
      → FirstMakes others first octet p

-- what some of these patterns makes with them
pub record SomeMakes (others : ℕ → PatternV → Type 0) (firsts : List PatternV) (octet : ℕ) (p : PatternV) : Type 0 where
  pub first : PatternV
  pub is_first : Contains firsts first
  pub makes : FirstMakes others first octet p

-- what the claimed patterns of part i make with them
abbrev pub PartMakes : List NodeV → (ℕ → PatternV → Type 0) → ℕ → ℕ → PatternV → Type 0
PartMakes c others i octet p = SomeMakes others (patterns_at c i octet) octet p
