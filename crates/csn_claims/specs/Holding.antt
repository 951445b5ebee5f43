-- Claims that hold of a description: they contain what each node's equation makes of what is claimed of its parts, and
-- by them no node has a conflict. Where a node is not claimed to begin, nothing is asked of its sets. (This project's
-- own choice.)
use Rattle.std.specs.Prelude.{◌≡◌, ℕ, Bool, List, ◌∷◌, ◌++◌, slice_get, Option, Some, None, IsTrue}
use Rattle.csn_desc.specs.declared.node.Node.{Node}
use Rattle.csn_desc.specs.Nodes.{DescV, parts_of}
use Rattle.csn_claims.specs.Claims.{Claims}
use Rattle.csn_claims.specs.Nullable.{NodeNullable}
use Rattle.csn_claims.specs.Ends.{NodeEnds}
use Rattle.csn_claims.specs.Starts.{NodeStarts}
use Rattle.csn_claims.specs.Keys.{NodeKeys}
use Rattle.csn_claims.specs.Reached.{PartReached, PartFollow}
use Rattle.csn_claims.specs.Conflicts.{HasConflict}

-- the node with the number k has the part i, with these parts before and after it
pub record IsPart (d : DescV) (k : ℕ) (n : Node) (before : List ℕ) (i : ℕ) (after : List ℕ) : Type 0 where
  pub at : slice_get d.nodes k ≡ Some n
  pub split : parts_of n ≡ before ++ i ∷ after

-- words of at most `most` bits are looked at
pub record Holds (d : DescV) (most : ℕ) (claims : Claims) : Type 0 where
  pub nullable : (i : ℕ) (n : Node) → slice_get d.nodes i ≡ Some n → NodeNullable claims n → IsTrue (claims.nullable i)
  pub ends :
      (i o p : ℕ) (n : Node) → slice_get d.nodes i ≡ Some n → IsTrue (claims.reached i o) → NodeEnds d claims n o p
      → IsTrue (claims.ends i o p)
  pub starts :
      (i o bit : ℕ) (n : Node) → slice_get d.nodes i ≡ Some n → IsTrue (claims.reached i o)
      → NodeStarts d claims n o bit
      → IsTrue (claims.starts i o bit)
  pub keys :
      (i o : ℕ) (x : List ℕ) (mark : Bool) (n : Node) → slice_get d.nodes i ≡ Some n → IsTrue (claims.reached i o)
      → NodeKeys d most claims n o x mark
      → IsTrue (claims.keys i o x mark)
  -- the root begins with the block, and each part where its node says so
  pub root_reached : IsTrue (claims.reached 0 0)
  pub reached :
      (k from i o : ℕ) (n : Node) (before after : List ℕ) → IsPart d k n before i after
      → IsTrue (claims.reached k from) → PartReached claims n before i from o
      → IsTrue (claims.reached i o)
  -- where the root may end stands the end, and where a part may end what its node says
  pub root_follow : (from o : ℕ) → IsTrue (claims.reached 0 from) → IsTrue (claims.ends 0 from o) → IsTrue (claims.follow 0 o None)
  pub follow :
      (k i from o : ℕ) (s : Option ℕ) (n : Node) (before after : List ℕ) → IsPart d k n before i after
      → IsTrue (claims.reached i from) → IsTrue (claims.ends i from o) → PartFollow claims n k after i o s
      → IsTrue (claims.follow i o s)
  pub no_conflict : (i : ℕ) (n : Node) → slice_get d.nodes i ≡ Some n → ¬ HasConflict d claims i n
