-- Sets of signs.
use Rattle.std.specs.Prelude.{ℕ, Bool, true, false, Option, Some, None}
use Rattle.csn_look.specs.declared.symbol_set.Sign.{Sign}
use Rattle.csn_look.specs.declared.symbol_set.Sign.TheVariants.{Zero, One, End}
use Rattle.csn_look.specs.SignsV.{SignsV}

-- the set without signs
abbrev pub no_signs : SignsV
no_signs = record { zero = false; one = false; end = false }

-- a set with one sign more
abbrev pub with_sign : SignsV → Sign → SignsV
with_sign signs Zero = record signs { zero = true }
with_sign signs One = record signs { one = true }
with_sign signs End = record signs { end = true }

-- is the sign in the set?
abbrev pub has_sign : SignsV → Sign → Bool
has_sign signs Zero = signs.zero
has_sign signs One = signs.one
has_sign signs End = signs.end

-- what a sign stands for: a bit, or nothing where it is the end
abbrev pub bit_of_sign : Sign → Option ℕ
bit_of_sign Zero = Some 0
bit_of_sign One = Some 1
bit_of_sign End = None
