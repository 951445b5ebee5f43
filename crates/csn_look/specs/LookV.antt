-- What is known of all nodes of a description, as contracts see it: the sets of each node, tables of keys, each
-- as its marks, and for each node the numbers of its tables at the eight octet positions.
use Rattle.std.specs.Prelude.{◌≡◌, ℕ, ◌<◌, ◌≤◌, Bool, List, length, slice_get, slice_index, Some, refl}
use Rattle.std.specs.Ordering.{nat_cmp}
use Rattle.std.specs.Coded.{Coded, code_by, coded×, coded_ℕ, coded_bool, coded_list}
use Rattle.std.specs.FinSet as set
use Rattle.csn_look.specs.declared.node_sets.NodeSets.{NodeSets}

pub record LookV : Type 0 where
  pub sets : List NodeSets
  pub tables : List (List ℕ)
  pub rows : List (List ℕ)

-- numbers of so many tables, for the eight octet positions
pub record IsRow (tables : ℕ) (row : List ℕ) : Type 0 where
  pub eight : length row ≡ 8
  pub within : (o : ℕ) → o ≤ 7 → slice_index row o < tables

-- each of the list is such a row
abbrev pub AreRows : ℕ → List (List ℕ) → Type 0
AreRows tables rows = (i : ℕ) (row : List ℕ) → slice_get rows i ≡ Some row → IsRow tables row

-- sets of numbers, and the sets of a node, are stored as their parts
abbrev pub set_code : Coded (set.FinSet nat_cmp)
set_code = set.code coded_ℕ

abbrev pub node_sets_code : Coded NodeSets
node_sets_code =
    code_by (Bool × (Bool × (Bool × (set.FinSet nat_cmp × (set.FinSet nat_cmp × set.FinSet nat_cmp)))))
    (coded× coded_bool (coded× coded_bool (coded× coded_bool (coded× set_code (coded× set_code set_code)))))
    (λ s. (s.nullable, (s.whole_empty, (s.cut_empty, (s.lengths, (s.zero, s.one))))))
    (λ p. record { nullable = p.0; whole_empty = p.1.0; cut_empty = p.1.1.0; lengths = p.1.1.1.0; zero = p.1.1.1.1.0; one = p.1.1.1.1.1 })
    (λ s. refl)

abbrev pub numbers_code : Coded (List (List ℕ))
numbers_code = coded_list (coded_list coded_ℕ)

abbrev pub look_code : Coded LookV
look_code =
    code_by (List NodeSets × (List (List ℕ) × List (List ℕ))) (coded× (coded_list node_sets_code) (coded× numbers_code numbers_code))
    (λ l. (l.sets, (l.tables, l.rows))) (λ p. record { sets = p.0; tables = p.1.0; rows = p.1.1 }) (λ l. refl)
