-- Laws over the definitions.
use Rattle.std.specs.Prelude.{◌≡◌, ℕ, List}
use Rattle.csn_desc.specs.Nodes.{DescV}
use Rattle.csn_desc.specs.Formed.{IsDescription}
use Rattle.csn_look.specs.declared.word.TheConstants.{MOST_WORD}
use Rattle.csn_certify.specs.Conflicts.{Certified}
use Rattle.csn_cert.specs.CertificateV.{NodeV}
use Rattle.csn_good.specs.Good.{Good}
use Rattle.csn_certmake.specs.Claimed.{ClaimsLookAhead, IsCertificateText}

-- a certificate of what look-ahead knows of a certified description is good for it
abbrev pub LookAheadIsGood : Type 0
LookAheadIsGood = (d : DescV) (c : List NodeV) → IsDescription d → Certified d MOST_WORD → ClaimsLookAhead d c → Good d c

-- no two certificates claim what look-ahead knows of a description
abbrev pub LookAheadIsClaimedOnce : Type 0
LookAheadIsClaimedOnce =
    (d : DescV) (c other : List NodeV) → IsDescription d → ClaimsLookAhead d c → ClaimsLookAhead d other
    → c ≡ other

-- and so it has one text
abbrev pub CertificatesHaveOneText : Type 0
CertificatesHaveOneText =
    (d : DescV) (text other : List ℕ) → IsDescription d → IsCertificateText d text → IsCertificateText d other
    → text ≡ other
