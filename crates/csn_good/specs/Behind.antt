-- What stands behind the patterns of a part, cut: behind so many marks only as many count as there is room for. No
-- public contract cites these words.
use Rattle.std.specs.Prelude.{◌≡◌, ℕ, ◌+◌, ◌-◌, ◌%◌, ◌↔◌, if◌then◌else◌, nat_le, false, List, ◌++◌, length, take, Option, Some, slice_get, Contains}
use Rattle.csn_cert.specs.PatternV.{PatternV}
use Rattle.csn_cert.specs.declared.pattern.TheConstants.{MOST_MARKS}
use Rattle.csn_good.specs.Patterns.{shortened}

-- the first marks of a pattern, as many as there is room for, cut where there are more
abbrev pub cut_to : ℕ → PatternV → PatternV
cut_to room p = if nat_le (length p.marks) room then p else record { marks = take room p.marks; whole = false }

-- some of the patterns comes to this one where it is cut
pub record CutsSome (room : ℕ) (patterns : List PatternV) (p : PatternV) : Type 0 where
  pub pattern : PatternV
  pub there : Contains patterns pattern
  pub cut : p ≡ cut_to room pattern

-- one pattern and behind it one of these make this one
pub record JoinsOne (first : PatternV) (rests : List PatternV) (p : PatternV) : Type 0 where
  pub rest : PatternV
  pub is_rest : Contains rests rest
  pub joined : p ≡ shortened (first.marks ++ rest.marks) rest.whole

-- behind a pattern with so many marks at an octet position these make the same as those that are made where it ends
abbrev pub MakesSame : List (List PatternV) → ℕ → ℕ → List PatternV → Type 0
MakesSame made octet size these =
    (rests : List PatternV) (first p : PatternV) → slice_get made ((octet + size) % 8) ≡ Some rests → length first.marks ≡ size
    → JoinsOne first these p ↔ JoinsOne first rests p

-- these are those that are made there, cut to the marks that there is room for
abbrev pub IsBehind : List (List PatternV) → ℕ → ℕ → List PatternV → Type 0
IsBehind made octet size these =
    (rests : List PatternV) (p : PatternV) → slice_get made ((octet + size) % 8) ≡ Some rests
    → Contains these p ↔ CutsSome (MOST_MARKS - size) rests p

-- and so for each number of marks for which some are kept
abbrev pub AreBehind : List (List PatternV) → ℕ → List (Option (List PatternV)) → Type 0
AreBehind made octet behind = (size : ℕ) (these : List PatternV) → slice_get behind size ≡ Some (Some these) → IsBehind made octet size these
