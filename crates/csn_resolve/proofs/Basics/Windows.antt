-- The width of a field or a window, the side of a window that is its part, and what is one of two.
use Rattle.std.proofs.Common.{◌≡◌, ◌≤◌, ℕ, List, [], ◌∷◌, max, inl, inr, refl, sym, ap, subst, arith, Option, Some, None}
use Rattle.std.specs.Option.{option_map, option_or}
use Rattle.csn_desc.specs.Formed.{IsUnit}
use Rattle.csn_grammar.specs.declared.exponent.Exponent.{Exponent}
use Rattle.csn_grammar.specs.declared.exponent.Exponent.TheVariants.{Any, Number, Linear}
use Rattle.csn_grammar.specs.ExprV.{ExprV, expr, bit, octet, power}
use Rattle.csn_grammar.specs.ExprCode.{expr_size}
use Rattle.csn_grammar.specs.Forms.{unit_of, WidthV, width_of, WindowV, window_of}

pub only_is : {x y : ExprV} {xs : List ExprV} → x ∷ xs ≡ y ∷ [] → x ≡ y
only_is p = cc

pub unit_is : (x : ExprV) (unit : ℕ) → unit_of x ≡ Some unit → IsUnit unit
unit_is (expr s e bit) unit p = inl (cc)
unit_is (expr s e octet) unit p = inr (cc)
unit_is (expr s e f) unit p = absurd (cc)

mapped_unit :
    (o : Option ℕ) (k : Exponent) (w : WidthV)
    → option_map (λ unit. record { unit = unit; count = k }) o ≡ Some w → o ≡ Some w.unit
mapped_unit None k w p = absurd (cc)
mapped_unit (Some unit) k w p = let same : record { unit = unit; count = k } ≡ w = cc in ap (λ z. Some z.unit) same

width_is : (x : ExprV) (w : WidthV) → width_of x ≡ Some w → IsUnit w.unit
width_is (expr s e (power x Any)) w p = absurd (cc)
width_is (expr s e (power x (Number n))) w p = unit_is x w.unit (mapped_unit (unit_of x) (Number n) w p)
width_is (expr s e (power x (Linear m label c))) w p = unit_is x w.unit (mapped_unit (unit_of x) (Linear m label c) w p)
width_is (expr s e bit) w p = unit_is (expr s e bit) w.unit (mapped_unit (Some 1) (Number 1) w p)
width_is (expr s e octet) w p = unit_is (expr s e octet) w.unit (mapped_unit (Some 8) (Number 1) w p)
width_is x w p = absurd (cc)

pub width_unit : (x : ExprV) {w : WidthV} (v : WidthV) → width_of x ≡ Some w → v ≡ w → IsUnit v.unit
width_unit x {w} v is same = let P : WidthV → Type 0 = λ z. IsUnit z.unit in subst P (sym same) (width_is x w is)

pub left_window : (x y : ExprV) (w : WidthV) → width_of x ≡ Some w → window_of x y ≡ Some (record { width = w; part = y })
left_window x y w p = cc

pub right_window :
    (x y : ExprV) (w : WidthV) → width_of x ≡ None → width_of y ≡ Some w
    → window_of x y ≡ Some (record { width = w; part = x })
right_window x y w p q = cc

-- which side of a window says its width, and which is its part
pub data Sides (x y : ExprV) (w : WindowV) : Type 0 where
  left_wide : width_of x ≡ Some w.width → y ≡ w.part → Sides x y w
  right_wide : width_of x ≡ None → width_of y ≡ Some w.width → x ≡ w.part → Sides x y w

pub sides_of : (x y : ExprV) (w : WindowV) → window_of x y ≡ Some w → Sides x y w
sides_of x y w is = by (width_of x) (width_of y) refl refl is
  where
    by :
        (left right : Option WidthV) → width_of x ≡ left → width_of y ≡ right
        → option_or (option_map (λ v. record { width = v; part = y }) left) (option_map (λ v. record { width = v; part = x }) right) ≡ Some w
        → Sides x y w
    by (Some v) right at_x at_y p = left_wide (cc) (cc)
    by None (Some v) at_x at_y p = right_wide at_x (cc) (cc)
    by None None at_x at_y p = absurd (cc)

pub part_size : {x y : ExprV} {w : WindowV} → Sides x y w → expr_size w.part ≤ max (expr_size x) (expr_size y)
part_size (left_wide wide part) = omega (arith, ap expr_size part)
part_size (right_wide none wide part) = omega (arith, ap expr_size part)
