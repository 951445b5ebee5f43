-- The keys of a node at an octet position, from those that are claimed of its parts.
use Rattle.std.specs.Prelude.{ℕ, Bool, List, IsTrue}
use Rattle.csn_desc.specs.declared.node.Node.{Node}
use Rattle.csn_desc.specs.Nodes.{DescV}
use Rattle.csn_equations.specs.Keys as equation
pub use Rattle.csn_equations.specs.Keys.{Cut, kept, cut, parts_none, parts_cut, parts_whole, times_none, times_cut}
pub use Rattle.csn_equations.specs.Keys.{times_whole, keys_lits, keys_spare, keys_field, keys_pad, keys_null}
pub use Rattle.csn_equations.specs.Keys.{keys_rest, keys_many, keys_trunc, keys_window, keys_counted_field}
pub use Rattle.csn_equations.specs.Keys.{keys_counted_times, keys_seq, keys_times, keys_choice, keys_named}
use Rattle.csn_claims.specs.Claims.{Claims}

module _ (most : ℕ) (claims : Claims) where
  abbrev pub PartsKeys : List ℕ → ℕ → List ℕ → Bool → Type 0
  PartsKeys parts o x mark = equation.PartsKeys most (λ i o x mark. IsTrue (claims.keys i o x mark)) parts o x mark

  abbrev pub TimesKeys : ℕ → ℕ → ℕ → List ℕ → Bool → Type 0
  TimesKeys n i o x mark = equation.TimesKeys most (λ i o x mark. IsTrue (claims.keys i o x mark)) n i o x mark

module _ (d : DescV) (most : ℕ) (claims : Claims) where
  abbrev pub NodeKeys : Node → ℕ → List ℕ → Bool → Type 0
  NodeKeys n o x mark = equation.NodeKeys d most (λ i o x mark. IsTrue (claims.keys i o x mark)) n o x mark
