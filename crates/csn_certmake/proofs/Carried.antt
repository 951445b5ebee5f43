-- What the equations make of claims of look-ahead is what they make of the least sets, which have it.
use Rattle.std.proofs.Common.{ℕ, List, sym, subst, Option, Some}
use Rattle.std.specs.Prelude.{IsTrue}
use Rattle.csn_desc.specs.declared.node.Node.{Node}
use Rattle.csn_desc.specs.Nodes.{DescV}
use Rattle.csn_cert.specs.CertificateV.{NodeV}
use Rattle.csn_equations.proofs.NullableLate as null_equation
use Rattle.csn_equations.proofs.EndsLate as end_equation
use Rattle.csn_equations.proofs.StartsLate as start_equation
use Rattle.csn_equations.proofs.FollowLate as follow_equation
use Rattle.csn_claims.specs.Nullable.{NodeNullable}
use Rattle.csn_claims.specs.Ends.{NodeEnds}
use Rattle.csn_claims.specs.Starts.{PartsStart, starts_here, starts_later, NodeStarts}
use Rattle.csn_claims.specs.Reached.{PartReached, PartFollow, follow_later, follow_seq, follow_kept, follow_trunc}
use Rattle.csn_claims.specs.Reached.{follow_times_again, follow_times, follow_many_again, follow_many, follow_choice}
use Rattle.csn_claims.specs.Reached.{follow_named, follow_window}
use Rattle.csn_look.specs.Nullable as null
use Rattle.csn_look.specs.Ends as end
use Rattle.csn_look.specs.Starts as start
use Rattle.csn_look.specs.Reached as reach
use Rattle.csn_good.specs.ClaimedSets.{claims_of}
use Rattle.csn_certmake.specs.Claimed.{ClaimsLookAhead}
use Rattle.csn_certmake.proofs.Told.{IsSign, no_sign, nullable_known, ends_known, starts_known, starts_sign, follow_known, follow_sign}

module _ (d : DescV) (c : List NodeV) (claims : ClaimsLookAhead d c) where
  -- what is claimed
  abbrev Null : ℕ → Type 0
  Null i = IsTrue ((claims_of c).nullable i)

  abbrev Ends : ℕ → ℕ → ℕ → Type 0
  Ends i o p = IsTrue ((claims_of c).ends i o p)

  abbrev Start : ℕ → ℕ → ℕ → Type 0
  Start i o bit = IsTrue ((claims_of c).starts i o bit)

  pub node_nullable : {n : Node} → NodeNullable (claims_of c) n → null.NodeNullable d n
  node_nullable h = null_equation.node_moved Null (null.Nullable d) (nullable_known d c claims) h

  pub node_ends : {n : Node} {o p : ℕ} → NodeEnds d (claims_of c) n o p → end.NodeEnds d n o p
  node_ends h = end_equation.node_moved Ends (end.InEnds d) (ends_known d c claims) d h

  pub node_starts : {n : Node} {o bit : ℕ} → NodeStarts d (claims_of c) n o bit → start.NodeStarts d n o bit
  node_starts h =
      start_equation.node_moved Null (null.Nullable d) Ends (end.InEnds d) Start (start.InStart d)
      (nullable_known d c claims) (ends_known d c claims) (starts_known d c claims) d h

  pub part_reached : {n : Node} {before : List ℕ} {i from o : ℕ} → PartReached (claims_of c) n before i from o → reach.PartReached d n before i from o
  part_reached h = end_equation.reached_moved Ends (end.InEnds d) (ends_known d c claims) h

  pub part_follow : {n : Node} {k : ℕ} {after : List ℕ} {i o : ℕ} {s : Option ℕ}
      → PartFollow (claims_of c) n k after i o s → reach.PartFollow d n k after i o s
  part_follow h =
      follow_equation.part_moved Null (null.Nullable d) Ends (end.InEnds d) Start (start.InStart d)
      (λ k o s. IsTrue ((claims_of c).follow k o s)) (reach.InFollow d) (nullable_known d c claims)
      (ends_known d c claims) (starts_known d c claims) (follow_known d c claims) h

  parts_start_sign : {parts : List ℕ} {o bit : ℕ} → PartsStart (claims_of c) parts o bit → IsSign (Some bit)
  parts_start_sign {o = o} {bit = bit} (starts_here {i = i} h) = starts_sign d c claims i o bit h
  parts_start_sign (starts_later middle none h others) = parts_start_sign others

  pub part_follow_sign : {n : Node} {k : ℕ} {after : List ℕ} {i o : ℕ} {s : Option ℕ} → PartFollow (claims_of c) n k after i o s → IsSign s
  part_follow_sign (follow_later h) = parts_start_sign h
  part_follow_sign {k = k} {o = o} {s = s} (follow_seq all h) = follow_sign d c claims k o s h
  part_follow_sign (follow_kept h) = parts_start_sign h
  part_follow_sign {k = k} {o = o} {s = s} (follow_trunc h) = follow_sign d c claims k o s h
  part_follow_sign {i = i} {o = o} (follow_times_again {bit = bit} h) = starts_sign d c claims i o bit h
  part_follow_sign {k = k} {o = o} {s = s} (follow_times h) = follow_sign d c claims k o s h
  part_follow_sign {i = i} {o = o} (follow_many_again {bit = bit} h) = starts_sign d c claims i o bit h
  part_follow_sign {k = k} {o = o} {s = s} (follow_many h) = follow_sign d c claims k o s h
  part_follow_sign {k = k} {o = o} {s = s} (follow_choice h) = follow_sign d c claims k o s h
  part_follow_sign {k = k} {o = o} {s = s} (follow_named h) = follow_sign d c claims k o s h
  part_follow_sign (follow_window none) = subst IsSign (sym none) no_sign
