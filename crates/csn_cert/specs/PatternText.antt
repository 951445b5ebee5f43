-- The texts of key patterns, and their order. (This project's own form.)
use Rattle.std.specs.Prelude.{◌≡◌, ◌++◌, ◌∷◌, [], ℕ, Bool, true, false, List, map, flat_map, codes, refl}
use Rattle.std.specs.Cmp.Lexicographic.{slice_cmp}
use Rattle.std.specs.Ordering.{nat_cmp}
use Rattle.std.specs.declared.cmp.Ordering.TheVariants.{Less}
use Rattle.csn_cert.specs.PatternV.{PatternV}
use Rattle.csn_cert.specs.declared.pattern.Mark.{Mark}
use Rattle.csn_cert.specs.declared.pattern.Mark.TheVariants.{Zero, One, Any}

-- the character of a mark: `0`, `1` or `x`
abbrev pub mark_character : Mark → ℕ
mark_character Zero = 48
mark_character One = 49
mark_character Any = 120

-- marks are written by their characters, and no marks by `e`
abbrev pub marks_text : List Mark → List ℕ
marks_text [] = codes "e"
marks_text (mark ∷ rest) = map mark_character (mark ∷ rest)

-- `!` for whole and `+` for cut
abbrev pub end_character : Bool → ℕ
end_character true = 33
end_character false = 43

-- the text of a pattern
abbrev pub pattern_text : PatternV → List ℕ
pattern_text p = marks_text p.marks ++ end_character p.whole ∷ []

-- the text of the one pattern stands before that of the other, byte by byte
abbrev pub ComesBefore : PatternV → PatternV → Type 0
ComesBefore p q = slice_cmp nat_cmp (pattern_text p) (pattern_text q) ≡ Less

-- the texts of patterns, each behind a `,`
abbrev pub more_patterns_text : List PatternV → List ℕ
more_patterns_text patterns = flat_map (λ p. 44 ∷ pattern_text p) patterns

-- the texts of patterns, joined by `,`, and `-` where there is none
abbrev pub patterns_text : List PatternV → List ℕ
patterns_text [] = codes "-"
patterns_text (p ∷ rest) = pattern_text p ++ more_patterns_text rest

-- ---- examples

pub empty_word : pattern_text (record { marks = []; whole = true }) ≡ codes "e!"
empty_word = refl

pub two_patterns : patterns_text (record { marks = Zero ∷ Any ∷ []; whole = false } ∷ record { marks = One ∷ []; whole = true } ∷ []) ≡ codes "0x+,1!"
two_patterns = refl

-- a shorter word comes before those that go on after it
pub shorter_first : ComesBefore (record { marks = Zero ∷ []; whole = false }) (record { marks = Zero ∷ Zero ∷ []; whole = true })
shorter_first = refl
