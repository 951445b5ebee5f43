-- What the numbers that C gives stand for. (This project's own choice.)
use Rattle.std.specs.Prelude.{ℕ, if◌then◌else◌, ◌==◌, ◌≤◌, ◌*◌, List, length, Option, Some, None}
use Rattle.csn_bits.specs.Octets.{most_bits}
use Rattle.csn_desc.specs.declared.reading.Reading.{Reading}
use Rattle.csn_desc.specs.declared.reading.Reading.TheVariants.{Received, Sent}
use Rattle.csn_json.specs.declared.form.TreeForm.{TreeForm}
use Rattle.csn_json.specs.declared.form.TreeForm.TheVariants.{Text, Json}

-- the reading with a number
abbrev pub reading_in : ℕ → Option Reading
reading_in number = if number == 0 then Some Received else (if number == 1 then Some Sent else None)

-- the form with a number
abbrev pub form_in : ℕ → Option TreeForm
form_in number = if number == 0 then Some Text else (if number == 1 then Some Json else None)

-- the octets have so many bits, and a block may have them
abbrev pub IsBlock : List ℕ → ℕ → Type 0
IsBlock octets bits = (bits ≤ 8 * length octets) × (bits ≤ most_bits)
