-- What a certificate claims that is made of what look-ahead knows: the sets of a description exactly, and of each node
-- the patterns that its equation makes. (This project's own choice.)
use Rattle.std.specs.Prelude.{◌≡◌, ℕ, ◌<◌, ◌≤◌, ◌↔◌, List, length, slice_get, Some, IsTrue, Contains}
use Rattle.csn_desc.specs.declared.node.Node.{Node}
use Rattle.csn_desc.specs.Nodes.{DescV}
use Rattle.csn_cert.specs.PatternV.{PatternV}
use Rattle.csn_cert.specs.CertificateV.{NodeV, IsCertificate}
use Rattle.csn_cert.specs.CertificateText.{CertificateText}
use Rattle.csn_claims.specs.Claims.{Claims}
use Rattle.csn_look.specs.declared.symbol_set.Sign.{Sign}
use Rattle.csn_look.specs.Signs.{bit_of_sign}
use Rattle.csn_look.specs.Nullable.{Nullable}
use Rattle.csn_look.specs.Ends.{InEnds}
use Rattle.csn_look.specs.Starts.{InStart}
use Rattle.csn_look.specs.Reached.{Reached, InFollow}
use Rattle.csn_good.specs.ClaimedSets.{claims_of, patterns_at}
use Rattle.csn_good.specs.Patterns.{NodePatterns}

module _ (d : DescV) (c : List NodeV) where
  -- the nodes that are claimed to be nullable are those that are
  abbrev pub ClaimsNullable : Type 0
  ClaimsNullable = let claims : Claims = claims_of c in (i : ℕ) → i < length d.nodes → IsTrue (claims.nullable i) ↔ Nullable d i

  -- a node is claimed to be reached where it is
  abbrev pub ClaimsReached : Type 0
  ClaimsReached = let claims : Claims = claims_of c in (i o : ℕ) → i < length d.nodes → o ≤ 7 → IsTrue (claims.reached i o) ↔ Reached d i o

  -- from an octet position at which it is reached, a node is claimed to end where it may
  abbrev pub ClaimsEnds : Type 0
  ClaimsEnds =
      let claims : Claims = claims_of c in
      (i o p : ℕ) → i < length d.nodes → o ≤ 7 → p ≤ 7 → Reached d i o → IsTrue (claims.ends i o p) ↔ InEnds d i o p

  -- and to start with the bits with which it may
  abbrev pub ClaimsStart : Type 0
  ClaimsStart =
      let claims : Claims = claims_of c in
      (i o bit : ℕ) → i < length d.nodes → o ≤ 7 → bit ≤ 1 → Reached d i o → IsTrue (claims.starts i o bit) ↔ InStart d i o bit

  -- a sign is claimed to follow a node that ends at an octet position where it may
  abbrev pub ClaimsFollow : Type 0
  ClaimsFollow =
      let claims : Claims = claims_of c in
      (i o : ℕ) (sign : Sign) → i < length d.nodes → o ≤ 7
      → IsTrue (claims.follow i o (bit_of_sign sign)) ↔ InFollow d i o (bit_of_sign sign)

  -- the patterns of a node where it is reached are those that its equation makes of the patterns of its parts
  abbrev pub ClaimsPatterns : Type 0
  ClaimsPatterns =
      (i o : ℕ) (n : Node) (p : PatternV) → slice_get d.nodes i ≡ Some n → o ≤ 7 → Reached d i o
      → Contains (patterns_at c i o) p ↔ NodePatterns d.reading c n o p

  -- the certificate claims of each node what look-ahead knows of it
  pub record ClaimsLookAhead : Type 0 where
    pub certificate : IsCertificate c
    pub number : length c ≡ length d.nodes
    pub nullable : ClaimsNullable
    pub reached : ClaimsReached
    pub ends : ClaimsEnds
    pub start : ClaimsStart
    pub follow : ClaimsFollow
    pub patterns : ClaimsPatterns

-- the text is that of a certificate which claims of each node what look-ahead knows of it
pub record IsCertificateText (d : DescV) (text : List ℕ) : Type 0 where
  pub certificate : List NodeV
  pub claims : ClaimsLookAhead d certificate
  pub spelled : CertificateText certificate text
