-- What the private functions tell of a node that breaks a rule. No public contract cites this.
use Rattle.std.specs.Prelude.{ℕ, ◌≤◌, List}
use Rattle.csn_desc.specs.Nodes.{DescV}
use Rattle.csn_cert.specs.CertificateV.{NodeV}
use Rattle.csn_good.specs.Good.{Breaks}

-- the rule is the least that is broken at the node
pub record FaultAt (d : DescV) (c : List NodeV) (i rule : ℕ) : Type 0 where
  pub breaks : Breaks d c rule i
  pub least : (other : ℕ) → Breaks d c other i → rule ≤ other
