-- What is written of a certificate that claims what look-ahead knows.
use Rattle.std.proofs.Common.{◌≡◌, ℕ, List, length, subst, Result, Ok, Err, IfOk}
use Rattle.csn_desc.specs.Nodes.{DescV}
use Rattle.csn_cert.specs.CertificateV.{NodeV}
use Rattle.csn_cert.specs.CertificateText.{CertificateText}
use Rattle.csn_certmake.specs.Claimed.{ClaimsNullable, ClaimsReached, ClaimsEnds, ClaimsStart, ClaimsFollow, ClaimsPatterns, IsCertificateText}

pub text_of_claims :
    (plan d : DescV) (c : List NodeV) (text : List ℕ) → plan ≡ d → length c ≡ length plan.nodes
    → ClaimsNullable plan c → ClaimsReached plan c → ClaimsEnds plan c
    → ClaimsStart plan c → ClaimsFollow plan c → ClaimsPatterns plan c → CertificateText c text → IsCertificateText d text
text_of_claims plan d c text is number nullable reached ends start follow patterns spelled =
    subst (λ (e : DescV). IsCertificateText e text) is (record {
      certificate = c;
      claims = record {
        certificate = spelled.certificate;
        number = number;
        nullable = nullable;
        reached = reached;
        ends = ends;
        start = start;
        follow = follow;
        patterns = patterns;
      };
      spelled = spelled;
    })

pub if_ok : {T E : Type 0} {P Q : T → Type 0} (r : Result T E) → IfOk r P → ((x : T) → P x → Q x) → IfOk r Q
if_ok (Ok x) holds along = along x holds
if_ok (Err e) holds along = tt
