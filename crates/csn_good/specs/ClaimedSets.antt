-- The sets that a certificate claims. At an octet position that a node does not have in it, it claims nothing but what
-- may follow. (This project's own choice.)
use Rattle.std.specs.Prelude.{ℕ, ◌+◌, ◌*◌, ◌==◌, nat_le, ◌&&◌, Bool, true, false, List, [], ◌∷◌, slice_get, Option, Some, None, is_some, refl, ◌≡◌}
use Rattle.std.specs.List.{list_any}
use Rattle.std.proofs.Math.Bool.{beq}
use Rattle.csn_bits.specs.Numbers.{low_bits}
use Rattle.csn_cert.specs.declared.pattern.Mark.{Mark}
use Rattle.csn_cert.specs.declared.pattern.Mark.TheVariants.{Zero, One, Any}
use Rattle.csn_cert.specs.PatternV.{PatternV}
use Rattle.csn_cert.specs.CertificateV.{NodeV, PositionV}
use Rattle.csn_cert.specs.Growing.{claimed}
use Rattle.csn_claims.specs.Claims.{Claims}

-- ---- digits

abbrev pub is_one : Option ℕ → Bool
is_one None = false
is_one (Some digit) = digit == 1

-- of the last so many binary digits of a number, there is one at the place, from 0, and it is 1
abbrev pub has_digit : ℕ → ℕ → ℕ → Bool
has_digit count number place = is_one (slice_get (low_bits count number) place)

-- the first of eight digits stands for the octet position 0
pub first_digit : has_digit 8 128 0 ≡ true
first_digit = refl

pub no_ninth_digit : has_digit 8 255 8 ≡ false
no_ninth_digit = refl

-- ---- patterns

-- the mark stands for the bit
abbrev pub marks_bit : Mark → ℕ → Bool
marks_bit Zero bit = bit == 0
marks_bit One bit = bit == 1
marks_bit Any bit = nat_le bit 1

-- the marks stand for the bits, one by one
abbrev pub mark_bits : List Mark → List ℕ → Bool
mark_bits [] [] = true
mark_bits [] (bit ∷ word) = false
mark_bits (mark ∷ marks) [] = false
mark_bits (mark ∷ marks) (bit ∷ word) = marks_bit mark bit && mark_bits marks word

-- the pattern denotes the word, whole or cut
abbrev pub denotes : PatternV → List ℕ → Bool → Bool
denotes p word whole = beq p.whole whole && mark_bits p.marks word

pub either_bit : denotes (record { marks = Zero ∷ Any ∷ []; whole = true }) (0 ∷ 1 ∷ []) true ≡ true
either_bit = refl

pub whole_is_not_cut : denotes (record { marks = Zero ∷ Any ∷ []; whole = true }) (0 ∷ 1 ∷ []) false ≡ false
whole_is_not_cut = refl

-- ---- what is claimed

abbrev pub is_nullable : Option NodeV → Bool
is_nullable None = false
is_nullable (Some n) = n.nullable

abbrev pub ends_at : Option PositionV → ℕ → Bool
ends_at None octet = false
ends_at (Some p) octet = has_digit 8 p.ends octet

abbrev pub starts_with : Option PositionV → ℕ → Bool
starts_with None bit = false
starts_with (Some p) bit = has_digit 2 p.start bit

abbrev pub patterns_of : Option PositionV → List PatternV
patterns_of None = []
patterns_of (Some p) = p.patterns

-- the patterns of a node at an octet position
abbrev pub patterns_at : List NodeV → ℕ → ℕ → List PatternV
patterns_at c i octet = patterns_of (claimed c i octet)

-- three digits for each octet position: for 0, for 1 and for the end
abbrev pub follow_digit : ℕ → ℕ → Option ℕ → Bool
follow_digit follow octet None = has_digit 24 follow (3 * octet + 2)
follow_digit follow octet (Some bit) = nat_le bit 1 && has_digit 24 follow (3 * octet + bit)

abbrev pub followed_by : Option NodeV → ℕ → Option ℕ → Bool
followed_by None octet sign = false
followed_by (Some n) octet sign = follow_digit n.follow octet sign

abbrev pub claims_of : List NodeV → Claims
claims_of c = record {
  nullable = λ i. is_nullable (slice_get c i);
  ends = λ i octet end. ends_at (claimed c i octet) end;
  starts = λ i octet bit. starts_with (claimed c i octet) bit;
  keys = λ i octet word whole. list_any (λ p. denotes p word whole) (patterns_at c i octet);
  reached = λ i octet. is_some (claimed c i octet);
  follow = λ i octet sign. followed_by (slice_get c i) octet sign;
}
