-- The rows of nodes, from those of their parts.
use Rattle.std.proofs.Common.{◌≡◌, ℕ, ◌<◌, List, [], ◌∷◌, length, sym, subst, refl, get_or, slice_index_or, Result, IfOk}
use Rattle.csn_desc.specs.declared.reading.Reading.{Reading}
use Rattle.csn_desc.specs.declared.node.Node.{Node}
use Rattle.csn_desc.specs.Nodes.{parts_of}
use Rattle.csn_cert.specs.PatternV.{PatternV}
use Rattle.csn_good.specs.Patterns.{leaf_pattern}
use Rattle.csn_certmake.specs.Patterns.{IsRow, AreRows, node_patterns, patterns_in}
use Rattle.csn_certmake.proofs.Rows.{row_read}

-- the rows of the parts of a node that is known
pub parts_rows : (table : List (List (List PatternV))) (n known : Node) → n ≡ known → AreRows table (parts_of n) → AreRows table (parts_of known)
parts_rows table n known is rows = subst (λ m. AreRows table (parts_of m)) is rows

-- the row of the only part
pub only_there : (table : List (List (List PatternV))) (i : ℕ) → AreRows table (i ∷ []) → i < length table
only_there table i rows = rows.there 0 i refl

pub only_row : (table : List (List (List PatternV))) (i : ℕ) (row : List (List PatternV)) → AreRows table (i ∷ [])
    → row ≡ get_or table i row → (slice_index_or table i [] ≡ row) × IsRow (patterns_in row) row
only_row table i row rows is =
    let read : slice_index_or table i [] ≡ row = row_read table i row (only_there table i rows) is in
    (read, subst (λ (r : List (List PatternV)). IsRow (patterns_in r) r) read (rows.rows 0 i refl))

-- what a node that is known has
pub node_row : {E : Type 0} (r : Result (List (List PatternV)) E) (reading : Reading)
    (table : List (List (List PatternV))) (n known : Node)
    → n ≡ known → IfOk r (λ row. IsRow (node_patterns reading table known) row)
    → IfOk r (λ row. IsRow (node_patterns reading table n) row)
node_row r reading table n known is made = subst (λ m. IfOk r (λ row. IsRow (node_patterns reading table m) row)) (sym is) made

-- what a node has that is known to have the one pattern of its own bits
pub leaf_row : {E : Type 0} (r : Result (List (List PatternV)) E) (reading : Reading)
    (table : List (List (List PatternV))) (n known : Node)
    → n ≡ known → node_patterns reading table known ≡ (λ octet. leaf_pattern reading known octet ∷ [])
    → IfOk r (λ row. IsRow (λ octet. leaf_pattern reading n octet ∷ []) row) → IfOk r (λ row. IsRow (node_patterns reading table n) row)
leaf_row r reading table n known is leaf made =
    node_row r reading table n known is
    (subst (λ (of : ℕ → List PatternV). IfOk r (λ row. IsRow of row)) (sym leaf)
    (subst (λ (m : Node). IfOk r (λ row. IsRow (λ octet. leaf_pattern reading m octet ∷ []) row)) is made))
