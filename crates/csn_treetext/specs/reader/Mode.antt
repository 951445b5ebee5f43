-- What was read of the innermost tree that has begun, or of the whole text.
use Rattle.std.specs.Prelude.{ℕ, List, Option}
use Rattle.csn_desc.specs.TreeV.{TreeV}
use Rattle.csn_treetext.specs.declared.name.NameAt.{NameAt}

pub data Mode : Type 0 where
  -- nothing: a tree begins
  Start : Mode
  -- `[`
  Opened : Mode
  -- a whole tree, which is the last one of the innermost row
  Behind : Mode
  -- the whole text of a tree
  Done : TreeV → Mode
  -- the first digits of a width
  Width : ℕ → Mode
  -- a width and `'`
  Quote : ℕ → Mode
  -- a width, `'` and the first digits of a number
  Value : ℕ → ℕ → Mode
  -- `#`
  Hash : Mode
  -- `#` and the first digits of the number of an alternative
  Number : ℕ → Mode
  -- `<` and the first bytes of a label
  Name : List ℕ → NameAt → Mode
  -- `<`, a label and `>`
  NameEnd : List ℕ → Mode
  -- `x` and whole octets in hexadecimal digits, and maybe the first digit of one more
  Octets : List ℕ → Option ℕ → Mode
  -- `x`, octets and `/`
  Slash : List ℕ → Mode
  -- `b` and the first bits as digits, in the first version
  Bare : List ℕ → Mode
