-- The keys of a node at an octet position: the words that bits of it begin with, of at most `most` bits. A
-- key is whole where it is all of some bits of the node, and cut where these may go on or are not looked
-- at. (This project's own choice.)
use Rattle.std.specs.Prelude.{ℕ, ◌<◌, ◌⊎◌, Bool, List, []}
use Rattle.csn_desc.specs.declared.node.Node.{Node}
use Rattle.csn_desc.specs.Nodes.{DescV}
use Rattle.csn_equations.specs.Least.{Least, NodeHas}
use Rattle.csn_equations.specs.Keys as equation
pub use Rattle.csn_equations.specs.Keys.{Cut, kept, cut, parts_none, parts_cut, parts_whole, times_none, times_cut}
pub use Rattle.csn_equations.specs.Keys.{times_whole, keys_lits, keys_spare, keys_field, keys_pad, keys_null}
pub use Rattle.csn_equations.specs.Keys.{keys_rest, keys_many, keys_trunc, keys_window, keys_counted_field}
pub use Rattle.csn_equations.specs.Keys.{keys_counted_times, keys_seq, keys_times, keys_choice, keys_named}
use Rattle.csn_look.specs.Nullable.{Nullable}

module _ (d : DescV) (most : ℕ) where
  -- node i has the key x at the octet position o, whole where `mark` is true and else cut: the least set that the
  -- equation allows
  abbrev pub MakesKeys : (ℕ × (ℕ × (List ℕ × Bool)) → Type 0) → ℕ × (ℕ × (List ℕ × Bool)) → Type 0
  MakesKeys keys a =
      NodeHas d a.0 (λ n. equation.NodeKeys d most (λ i o x mark. keys (i, (o, (x, mark)))) n a.1.0 a.1.1.0 a.1.1.1)

  abbrev pub InKeys : ℕ → ℕ → List ℕ → Bool → Type 0
  InKeys i o x mark = Least MakesKeys (i, (o, (x, mark)))

  abbrev pub NodeKeys : Node → ℕ → List ℕ → Bool → Type 0
  NodeKeys n o x mark = equation.NodeKeys d most InKeys n o x mark

  -- of one part after another, and of n times a part
  abbrev pub PartsKeys : List ℕ → ℕ → List ℕ → Bool → Type 0
  PartsKeys parts o x mark = equation.PartsKeys most InKeys parts o x mark

  abbrev pub TimesKeys : ℕ → ℕ → ℕ → List ℕ → Bool → Type 0
  TimesKeys n i o x mark = equation.TimesKeys most InKeys n i o x mark

  -- the empty word is a key of node i at some octet position
  abbrev pub HasEmptyKey : ℕ → Type 0
  HasEmptyKey i = (o : ℕ) × (o < 8) × (mark : Bool) × InKeys i o [] mark

  -- node i is not firm: it may have no bits, or none of its bits is looked at
  abbrev pub IsNotFirm : ℕ → Type 0
  IsNotFirm i = Nullable d i ⊎ HasEmptyKey i

  -- node i is firm: it is not nullable, and no key of it is empty
  abbrev pub IsFirm : ℕ → Type 0
  IsFirm i = ¬ IsNotFirm i
