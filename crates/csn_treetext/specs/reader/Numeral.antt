-- Decimal numbers that are read digit by digit, with no zero in front.
use Rattle.std.specs.Prelude.{ℕ, zero, suc, ◌+◌, ◌-◌, ◌*◌, ◌^◌, nat_le, ◌&&◌, if◌then◌else◌, Option, Some, None}

-- the value of a digit
abbrev pub digit_of : ℕ → Option ℕ
digit_of byte = if nat_le 48 byte && nat_le byte 57 then Some (byte - 48) else None

abbrev pub at_most : ℕ → ℕ → Option ℕ
at_most most number = if nat_le number most then Some number else None

-- a number with one digit behind it; none where the number is a lone zero, or grows past a bound
abbrev pub appended : ℕ → Option ℕ → ℕ → Option ℕ
appended most None digit = at_most most digit
appended most (Some zero) digit = None
appended most (Some (suc n)) digit = at_most most (10 * suc n + digit)

abbrev pub grown_by : ℕ → Option ℕ → Option ℕ → Option ℕ
grown_by most number None = None
grown_by most number (Some digit) = appended most number digit

-- the number of the digits before, if there are any, and one byte more; none where no number goes on so
abbrev pub grown : ℕ → Option ℕ → ℕ → Option ℕ
grown most number byte = grown_by most number (digit_of byte)

-- the greatest number that so many bits write
abbrev pub greatest_of : ℕ → ℕ
greatest_of width = 2 ^ width - 1
