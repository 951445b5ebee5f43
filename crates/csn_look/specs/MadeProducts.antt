-- What is kept of the products of tables that were made: the numbers of the first table and of the eight that
-- come after it, and the number of the table that was made of them.
use Rattle.std.specs.Prelude.{◌≡◌, ℕ, ◌+◌, ◌%◌, ◌<◌, ◌⊎◌, Bool, true, false, nat_eq, List, length, slice_get, slice_index, Some}
use Rattle.indexmap.specs.IndexMap.{IndexMap, get}
use Rattle.csn_look.specs.declared.table_maker.Product.{Product}
use Rattle.csn_look.specs.KeyMarks.{place_of, key_mark}
use Rattle.csn_look.specs.KeyProducts.{AfterKeys}
use Rattle.csn_look.specs.KeyRows.{table_of, HasTable}

-- the table has the keys of the first one and of those that come after it
pub record IsProduct (tables : List (List ℕ)) (first : ℕ) (rests : List ℕ) (at : ℕ) : Type 0 where
  pub one : first < length tables
  pub others : (size : ℕ) → size < 8 → slice_index rests size < length tables
  pub table : HasTable tables at (AfterKeys (table_of tables first) (λ size. table_of tables (slice_index rests (size % 8))))

-- each that is kept is right
abbrev pub AreProducts : List (List ℕ) → List Product → Type 0
AreProducts tables products = (i : ℕ) (p : Product) → slice_get products i ≡ Some p → IsProduct tables p.first p.rests p.at

-- what is looked up for the table of one key: the number of its mark; and for that of all words of a size: a
-- number behind those of marks
abbrev pub leaf_of_size : ℕ → Bool → ℕ
leaf_of_size size true = 16384 + size
leaf_of_size size false = 16397 + size

-- the key is the one, or of the size, that the number is looked up for
abbrev pub LeafKeys : ℕ → List ℕ → Bool → Type 0
LeafKeys leaf word mark = (key_mark (place_of word) mark ≡ leaf) ⊎ (leaf_of_size (length word) mark ≡ leaf)

-- each table that is looked up has such keys
abbrev pub AreLeaves : {S : Type 0} → List (List ℕ) → IndexMap ℕ ℕ S → Type 0
AreLeaves tables leaves = (leaf at : ℕ) → get nat_eq leaves leaf ≡ Some at → HasTable tables at (LeafKeys leaf)

-- what is kept of both is right
pub record AreMade {S : Type 0} (tables : List (List ℕ)) (products : List Product) (leaves : IndexMap ℕ ℕ S) : Type 0 where
  pub right_products : AreProducts tables products
  pub right_leaves : AreLeaves tables leaves
