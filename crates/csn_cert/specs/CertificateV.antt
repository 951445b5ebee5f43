-- Certificates: what is claimed of each node of a description. (This project's own choice.)
use Rattle.std.specs.Prelude.{◌<◌, ◌≤◌, ℕ, Bool, List, [], ◌∷◌, length}
use Rattle.std.specs.List.{AllByRecursion}
use Rattle.csn_desc.specs.declared.desc.TheConstants.{MOST_NODES}
use Rattle.csn_cert.specs.declared.pattern.TheConstants.{MOST_MARKS}
use Rattle.csn_cert.specs.PatternV.{PatternV}
use Rattle.csn_cert.specs.PatternText.{ComesBefore}

-- what is claimed of a node at an octet position: where its strings end, one digit of eight for each octet
-- position, the first one most significant; with which bits they start, a digit for 0 and one for 1; and
-- the key patterns
pub record PositionV : Type 0 where
  pub octet : ℕ
  pub ends : ℕ
  pub start : ℕ
  pub patterns : List PatternV

-- what is claimed of a node: whether it has the empty string; what may follow it, three digits for each octet
-- position, for 0, for 1 and for the end; and its octet positions
pub record NodeV : Type 0 where
  pub nullable : Bool
  pub follow : ℕ
  pub positions : List PositionV

-- ---- what a certificate keeps

-- each stands after the one before it
abbrev pub Rises : {A : Type 0} → (A → A → Type 0) → List A → Type 0
Rises Before [] = Unit {0}
Rises Before (x ∷ []) = Unit {0}
Rises Before (x ∷ y ∷ rest) = Before x y × Rises Before (y ∷ rest)

abbrev pub IsPattern : PatternV → Type 0
IsPattern p = length p.marks ≤ MOST_MARKS

-- the numbers are in range, and the patterns stand in the order of their texts, none twice
pub record IsPosition (p : PositionV) : Type 0 where
  pub octet : p.octet ≤ 7
  pub ends : p.ends ≤ 255
  pub start : p.start ≤ 3
  pub patterns : AllByRecursion IsPattern p.patterns
  pub rising : Rises ComesBefore p.patterns

-- the octet positions rise
pub record IsNode (n : NodeV) : Type 0 where
  pub follow : n.follow < 16777216
  pub positions : AllByRecursion IsPosition n.positions
  pub rising : Rises (λ p q. p.octet < q.octet) n.positions

-- there are at most 16,384 nodes
pub record IsCertificate (c : List NodeV) : Type 0 where
  pub few : length c ≤ MOST_NODES
  pub nodes : AllByRecursion IsNode c
