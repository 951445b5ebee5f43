-- Counts of faults. That the outside is to blame for a refusal is shown by a count: a call that
-- answers that it failed is a call in which the count of its object rose. (This project's own choice.)
use Rattle.std.specs.Prelude.{◌≡◌, ℕ, ◌<◌, ◌≤◌, ◌⊎◌, List, Option, String, string_bytes}
use Rattle.std.specs.Option.{option_map}

-- the last value of a count, which is kept in 64 bits and cannot rise further
abbrev pub last_count : ℕ
last_count = 18446744073709551615

-- a count that stood at `before` and stands at `after` rose in between, or stands at its last value
abbrev pub Rose : ℕ → ℕ → Type 0
Rose before after = (before < after) ⊎ (last_count ≤ after)

-- what holds of an object of the outside over any calls, where `before` and `after` are its counts of faults: the count
-- does not fall; where no call fails any more that stays so, and the count stands still; and it stands still where the
-- object is not to blame
abbrev pub Keeps : Type 0 → Type 0 → ℕ → ℕ → Type 0 → Type 0
Keeps was_steady is_steady before after to_blame =
    (before ≤ after) × (was_steady → is_steady × (after ≡ before)) × ((to_blame → ⊥) → after ≡ before)

-- the bytes of a name that is kept, if one is
abbrev pub name_of : {A : Type 0} → Option (String A) → Option (List ℕ)
name_of name = option_map (λ text. string_bytes text) name
