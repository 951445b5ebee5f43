-- Good certificates: each node keeps eight rules, by what is claimed of it and of its parts. (This project's own
-- choice.)
use Rattle.std.specs.Prelude.{◌≡◌, ℕ, ◌<◌, ◌≤◌, ◌⊎◌, List, ◌∷◌, ◌++◌, length, slice_get, Option, Some, None, IsTrue}
use Rattle.csn_desc.specs.declared.node.Node.{Node}
use Rattle.csn_desc.specs.Nodes.{DescV, parts_of}
use Rattle.csn_cert.specs.PatternV.{PatternV}
use Rattle.csn_cert.specs.CertificateV.{NodeV}
use Rattle.csn_claims.specs.Claims.{Claims}
use Rattle.csn_claims.specs.Nullable.{NodeNullable}
use Rattle.csn_claims.specs.Ends.{NodeEnds}
use Rattle.csn_claims.specs.Starts.{NodeStarts}
use Rattle.csn_claims.specs.Reached.{PartReached, PartFollow}
use Rattle.csn_claims.specs.Conflicts.{HasConflict}
use Rattle.csn_good.specs.ClaimedSets.{claims_of}
use Rattle.csn_good.specs.Patterns.{NodePatterns, IsCovered}

module _ (d : DescV) (c : List NodeV) where
  -- rule 1: each node of the description has its claims
  abbrev pub KeepsNumber : Type 0
  KeepsNumber = length c ≡ length d.nodes

  -- rules 2 to 5: the node's sets contain what its equation makes of the sets of its parts, at the octet positions that
  -- it claims
  abbrev pub KeepsNullable : ℕ → Node → Type 0
  KeepsNullable i n = let claims : Claims = claims_of c in NodeNullable claims n → IsTrue (claims.nullable i)

  abbrev pub KeepsEnds : ℕ → Node → Type 0
  KeepsEnds i n =
      let claims : Claims = claims_of c in
      (o p : ℕ) → IsTrue (claims.reached i o) → NodeEnds d claims n o p
      → IsTrue (claims.ends i o p)

  abbrev pub KeepsStart : ℕ → Node → Type 0
  KeepsStart i n =
      let claims : Claims = claims_of c in
      (o bit : ℕ) → IsTrue (claims.reached i o) → NodeStarts d claims n o bit
      → IsTrue (claims.starts i o bit)

  abbrev pub KeepsKeys : ℕ → Node → Type 0
  KeepsKeys i n =
      let claims : Claims = claims_of c in
      (o : ℕ) (p : PatternV) → IsTrue (claims.reached i o) → NodePatterns d.reading c n o p
      → IsCovered c i o p

  -- rule 6: each part of the node has the octet positions at which it may begin; and the root that of the block
  abbrev pub KeepsReached : ℕ → Node → Type 0
  KeepsReached k n =
      let claims : Claims = claims_of c in
      (k ≡ 0 → IsTrue (claims.reached 0 0))
      × ((i from o : ℕ) (before after : List ℕ) → parts_of n ≡ before ++ i ∷ after → IsTrue (claims.reached k from)
      → PartReached claims n before i from o
      → IsTrue (claims.reached i o))

  -- rule 7: each part has, where it may end, what may stand behind it; and the root the end
  abbrev pub KeepsFollow : ℕ → Node → Type 0
  KeepsFollow k n =
      let claims : Claims = claims_of c in
      (k ≡ 0 → (from o : ℕ) → IsTrue (claims.reached 0 from) → IsTrue (claims.ends 0 from o) → IsTrue (claims.follow 0 o None))
      × ((i from o : ℕ) (sign : Option ℕ) (before after : List ℕ) → parts_of n ≡ before ++ i ∷ after
      → IsTrue (claims.reached i from) → IsTrue (claims.ends i from o) → PartFollow claims n k after i o sign
      → IsTrue (claims.follow i o sign))

  -- rule 8: the node has no conflict
  abbrev pub KeepsApart : ℕ → Node → Type 0
  KeepsApart i n = ¬ HasConflict d (claims_of c) i n

  -- node i keeps the rules 2 to 8
  pub record KeepsRules (i : ℕ) (n : Node) : Type 0 where
    pub nullable : KeepsNullable i n
    pub ends : KeepsEnds i n
    pub start : KeepsStart i n
    pub keys : KeepsKeys i n
    pub reached : KeepsReached i n
    pub follow : KeepsFollow i n
    pub apart : KeepsApart i n

  -- the certificate is good for the description
  pub record Good : Type 0 where
    pub number : KeepsNumber
    pub rules : (i : ℕ) (n : Node) → slice_get d.nodes i ≡ Some n → KeepsRules i n

  -- ---- faults

  -- the rule is broken at node i; a wrong number of nodes is told at the root
  pub data Breaks : ℕ → ℕ → Type 0 where
    breaks_number : {rule i : ℕ} → rule ≡ 1 → i ≡ 0 → ¬ KeepsNumber → Breaks rule i
    breaks_nullable : {rule i : ℕ} (n : Node) → rule ≡ 2 → slice_get d.nodes i ≡ Some n → ¬ KeepsNullable i n → Breaks rule i
    breaks_ends : {rule i : ℕ} (n : Node) → rule ≡ 3 → slice_get d.nodes i ≡ Some n → ¬ KeepsEnds i n → Breaks rule i
    breaks_start : {rule i : ℕ} (n : Node) → rule ≡ 4 → slice_get d.nodes i ≡ Some n → ¬ KeepsStart i n → Breaks rule i
    breaks_keys : {rule i : ℕ} (n : Node) → rule ≡ 5 → slice_get d.nodes i ≡ Some n → ¬ KeepsKeys i n → Breaks rule i
    breaks_reached : {rule i : ℕ} (n : Node) → rule ≡ 6 → slice_get d.nodes i ≡ Some n → ¬ KeepsReached i n → Breaks rule i
    breaks_follow : {rule i : ℕ} (n : Node) → rule ≡ 7 → slice_get d.nodes i ≡ Some n → ¬ KeepsFollow i n → Breaks rule i
    breaks_apart : {rule i : ℕ} (n : Node) → rule ≡ 8 → slice_get d.nodes i ≡ Some n → ¬ KeepsApart i n → Breaks rule i

  -- the least node at which a rule is broken, and the least rule that is broken there
  pub record FirstFault (rule i : ℕ) : Type 0 where
    pub breaks : Breaks rule i
    pub first : (other_rule other : ℕ) → Breaks other_rule other → (i < other) ⊎ ((i ≡ other) × (rule ≤ other_rule))
