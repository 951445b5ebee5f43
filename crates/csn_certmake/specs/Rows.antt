-- Rows of patterns for all nodes of a description, and what a certificate that is made of them claims, as the private
-- functions say it. No public contract cites these words.
use Rattle.std.specs.Prelude.{◌≡◌, ℕ, ◌<◌, ◌≤◌, ◌↔◌, Bool, true, false, List, [], ◌∷◌, ◌++◌, length, slice_get}
use Rattle.std.specs.Prelude.{slice_index_or, find, ◌==◌, Option, Some, None, IsTrue}
use Rattle.std.specs.Ordering.{nat_cmp}
use Rattle.std.specs.FinSet as set
use Rattle.csn_desc.specs.declared.node.Node.{Node}
use Rattle.csn_desc.specs.Nodes.{DescV}
use Rattle.csn_cert.specs.PatternV.{PatternV}
use Rattle.csn_cert.specs.PatternText.{ComesBefore}
use Rattle.csn_cert.specs.CertificateV.{Rises, NodeV, PositionV}
use Rattle.csn_look.specs.LookV.{LookV}
use Rattle.csn_look.specs.ReachV.{ReachV, IsReachOf}
use Rattle.csn_look.specs.NodeSets.{IsLookOf}
use Rattle.csn_look.specs.FollowV.{IsFollowOf}
use Rattle.csn_look.specs.Nullable.{Nullable}
use Rattle.csn_look.specs.Ends.{InEnds}
use Rattle.csn_look.specs.Starts.{InStart}
use Rattle.csn_look.specs.Reached.{Reached, InFollow}
use Rattle.csn_certmake.specs.Patterns.{patterns_in, patterns_at, node_patterns, HasSame}
use Rattle.csn_certmake.specs.Digits.{DigitsAre, SaysFollow}

-- the patterns where the test says so, and else none
abbrev pub kept_if : Bool → List PatternV → List PatternV
kept_if true patterns = patterns
kept_if false patterns = []

-- the part of a row at the octet positions of a set
pub record IsReachedPart (row : List (List PatternV)) (reached : set.FinSet nat_cmp) (part : List (List PatternV)) : Type 0 where
  pub eight : length part ≡ 8
  pub same : (octet : ℕ) → octet ≤ 7 → patterns_in part octet ≡ kept_if (set.contains reached octet) (patterns_in row octet)

-- a row of eight lists, each in the order of the texts of its patterns
pub record IsInOrder (row : List (List PatternV)) : Type 0 where
  pub eight : length row ≡ 8
  pub rising : (octet : ℕ) → octet ≤ 7 → Rises ComesBefore (patterns_in row octet)

-- the row of node i, by those of its parts: where it is reached its patterns, and none elsewhere
pub record HasItsRow (d : DescV) (rows : List (List (List PatternV))) (i : ℕ) : Type 0 where
  pub ordered : IsInOrder (slice_index_or rows i [])
  pub made :
      (n : Node) (octet : ℕ) → slice_get d.nodes i ≡ Some n → octet ≤ 7 → Reached d i octet
      → HasSame (patterns_at rows i octet) (node_patterns d.reading rows n octet)
  pub none : (octet : ℕ) → octet ≤ 7 → ¬ Reached d i octet → patterns_at rows i octet ≡ []

pub record HaveRows (d : DescV) (rows : List (List (List PatternV))) : Type 0 where
  pub same : length rows ≡ length d.nodes
  pub each : (i : ℕ) → i < length d.nodes → HasItsRow d rows i

-- ---- what is claimed

-- what look-ahead knows is of this description
pub record IsKnown (d : DescV) (look : LookV) (reach : ReachV) : Type 0 where
  pub sets : IsLookOf d look.sets
  pub reached : IsReachOf d reach.reached
  pub follow : IsFollowOf d reach.follow

-- a position of node i tells its sets, and has the patterns of the row
pub record TellsPosition (d : DescV) (row : List (List PatternV)) (i octet : ℕ) (p : PositionV) : Type 0 where
  pub ends : DigitsAre 8 p.ends (InEnds d i octet)
  pub start : DigitsAre 2 p.start (InStart d i octet)
  pub patterns : p.patterns ≡ patterns_in row octet

-- at an octet position node i has a claim where it is reached, and else none
abbrev pub TellsClaim : DescV → List (List PatternV) → ℕ → ℕ → Option PositionV → Type 0
TellsClaim d row i octet None = ¬ Reached d i octet
TellsClaim d row i octet (Some p) = Reached d i octet × TellsPosition d row i octet p

-- the claims of node i tell its sets
pub record TellsNode (d : DescV) (row : List (List PatternV)) (i : ℕ) (n : NodeV) : Type 0 where
  pub nullable : IsTrue n.nullable ↔ Nullable d i
  pub follow : SaysFollow n.follow (InFollow d i)
  pub claims : (octet : ℕ) → octet ≤ 7 → TellsClaim d row i octet (find (λ p. p.octet == octet) n.positions)

-- a certificate has one node more
pub record AddsNode (look : LookV) (reach : ReachV) (row : List (List PatternV)) (i : ℕ) (old new : List NodeV) : Type 0 where
  pub node : NodeV
  pub added : new ≡ old ++ node ∷ []
  pub tells : (d : DescV) → IsKnown d look reach → TellsNode d row i node

-- the certificate has for each row the claims of the node with the same number
pub record TellsNodes (look : LookV) (reach : ReachV) (rows : List (List (List PatternV))) (c : List NodeV) : Type 0 where
  pub same : length c ≡ length rows
  pub nodes : (d : DescV) → IsKnown d look reach → (i : ℕ) → i < length rows → (n : NodeV) × (slice_get c i ≡ Some n)
      × TellsNode d (slice_index_or rows i []) i n
