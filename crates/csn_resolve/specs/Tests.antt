-- Is an expression empty of strings, and is it a field of constant width, where these names are? The answers
-- are found rule by rule; no public clause cites them, since the relations say what they mean.
use Rattle.std.specs.Prelude.{ℕ, ◌*◌, Bool, true, false, nat_le, ◌||◌, ◌&&◌, List, codes, Option, Some, None}
use Rattle.csn_desc.specs.declared.reading.Reading.{Reading}
use Rattle.csn_desc.specs.declared.reading.Reading.TheVariants.{Received, Sent}
use Rattle.csn_grammar.specs.declared.exponent.Exponent.{Exponent}
use Rattle.csn_grammar.specs.declared.exponent.Exponent.TheVariants.{Number}
use Rattle.csn_grammar.specs.ExprV.{ExprV, expr, FormV, name, labelled, group, seq, choice, both, sends, ExprsV, no_item, item, BranchesV, no_branch, branch}
use Rattle.csn_grammar.specs.Names.{same_name}
use Rattle.csn_grammar.specs.Forms.{WidthV, width_of}

-- the part of a window that must be empty, by the widths of its sides
abbrev pub window_part : Option WidthV → Option WidthV → Bool → Bool → Bool
window_part (Some w) other left right = right
window_part None (Some w) left right = left
window_part None None left right = false

-- is x empty of strings, where these names are?
abbrev mutual
  pub is_void : Reading → (List ℕ → Bool) → ExprV → Bool
  is_void r h (expr s e f) = form_void r h f

  pub form_void : Reading → (List ℕ → Bool) → FormV → Bool
  form_void r h (name n) = same_name n (codes "no string") || h n
  form_void r h (labelled label x) = is_void r h x
  form_void r h (group x) = is_void r h x
  form_void r h (seq xs) = some_void r h xs
  form_void r h (choice bs) = all_void r h bs
  form_void r h (both x y) = window_part (width_of x) (width_of y) (is_void r h x) (is_void r h y)
  form_void Received h (sends x y) = is_void Received h x
  form_void Sent h (sends x y) = is_void Sent h y
  form_void r h _ = false

  pub some_void : Reading → (List ℕ → Bool) → ExprsV → Bool
  some_void r h no_item = false
  some_void r h (item x xs) = is_void r h x || some_void r h xs

  pub all_void : Reading → (List ℕ → Bool) → BranchesV → Bool
  all_void r h no_branch = true
  all_void r h (branch false x bs) = is_void r h x && all_void r h bs
  all_void r h (branch true x bs) = all_void r h bs

abbrev pub few_bits : ℕ → Exponent → Bool
few_bits unit (Number n) = nat_le 1 (unit * n) && nat_le (unit * n) 16
few_bits unit _ = false

-- a constant width of 1 to 16 bits
abbrev pub narrow_width : Option WidthV → Bool
narrow_width None = false
narrow_width (Some w) = few_bits w.unit w.count

-- is x narrow, where these names are?
abbrev mutual
  pub is_narrow : Reading → (List ℕ → Bool) → ExprV → Bool
  is_narrow r h (expr s e f) = narrow_width (width_of (expr s e f)) || form_narrow r h f

  pub form_narrow : Reading → (List ℕ → Bool) → FormV → Bool
  form_narrow r h (name n) = h n
  form_narrow r h (group x) = is_narrow r h x
  form_narrow Received h (sends x y) = is_narrow Received h x
  form_narrow Sent h (sends x y) = is_narrow Sent h y
  form_narrow r h _ = false
