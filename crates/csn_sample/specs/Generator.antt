-- The numbers of the generator: SplitMix64 (Steele, Lea and Flood, Fast splittable pseudorandom number generators). A
-- state is one number of 64 bits.
use Rattle.std.specs.Prelude.{ℕ, ◌+◌, ◌*◌, ◌/◌, ◌%◌, ◌^◌, bit_xor}

-- the state after one step
abbrev pub next_state : ℕ → ℕ
next_state x = (x + 0x9E3779B97F4A7C15) % 2 ^ 64

-- z with its high bits folded down by k places, times m
abbrev pub folded : ℕ → ℕ → ℕ → ℕ
folded z k m = bit_xor z (z / 2 ^ k) * m % 2 ^ 64

-- the number of a state
abbrev pub mixed : ℕ → ℕ
mixed x =
    let z = folded (folded x 30 0xBF58476D1CE4E5B9) 27 0x94D049BB133111EB in
    bit_xor z (z / 2 ^ 31)
