-- Forms that the meaning tells apart: fields, and the windows of `&`. Of the intersections of 3GPP TS
-- 24.007 Annex B only those with a number of bits or octets are taken, which is this project's own choice.
use Rattle.std.specs.Prelude.{ℕ, Bool, true, false, List, codes, Option, Some, None, is_some, ◌||◌}
use Rattle.std.specs.Option.{option_map, option_or}
use Rattle.csn_grammar.specs.declared.exponent.Exponent.{Exponent}
use Rattle.csn_grammar.specs.declared.exponent.Exponent.TheVariants.{Any, Number}
use Rattle.csn_grammar.specs.ExprV.{ExprV, expr, lits, bit, octet, name, power}
use Rattle.csn_grammar.specs.Names.{same_name}

-- how many bits `bit` and `octet` are
abbrev pub unit_of : ExprV → Option ℕ
unit_of (expr s e bit) = Some 1
unit_of (expr s e octet) = Some 8
unit_of _ = None

abbrev pub is_bit : ExprV → Bool
is_bit (expr s e bit) = true
is_bit _ = false

-- a number of units, of one bit or of eight
pub record WidthV : Type 0 where
  pub unit : ℕ
  pub count : Exponent

-- the width of a field: of `bit` and `octet`, bare or with a number exponent
abbrev pub width_of : ExprV → Option WidthV
width_of (expr s e (power x Any)) = None
width_of (expr s e (power x k)) = option_map (λ unit. record { unit = unit; count = k }) (unit_of x)
width_of x = option_map (λ unit. record { unit = unit; count = Number 1 }) (unit_of x)

-- a window: so many bits, which its part has
pub record WindowV : Type 0 where
  pub width : WidthV
  pub part : ExprV

-- the window that `x & y` is: one side says the width, the left one where both could
abbrev pub window_of : ExprV → ExprV → Option WindowV
window_of x y =
    option_or
    (option_map (λ w. record { width = w; part = y }) (width_of x))
    (option_map (λ w. record { width = w; part = x }) (width_of y))

-- the names of spare parts
abbrev pub is_spare_name : List ℕ → Bool
is_spare_name n = (same_name (codes "spare bit") n || same_name (codes "spare L") n) || same_name (codes "spare padding") n

-- a literal, a field or a spare part
abbrev pub is_leaf : ExprV → Bool
is_leaf (expr s e (lits run)) = true
is_leaf (expr s e (name n)) = is_spare_name n
is_leaf x = is_some (width_of x)
