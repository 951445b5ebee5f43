use Rattle.std.proofs.Common.{Result, Ok, Err, IfOk, List, subst}
use Rattle.csn_desc.specs.Nodes.{DescV}
use Rattle.csn_bits.specs.declared.fault.NoMemory.{NoMemory}
use Rattle.csn_cert.specs.CertificateV.{NodeV}
use Rattle.csn_certmake.specs.Claimed.{ClaimsLookAhead}
use Rattle.csn_good.specs.Good.{Good}
use Rattle.csn_certmake.proofs.make.make_certificate.Goals as goal

if_ok : (r : Result (List NodeV) NoMemory) {P Q : List NodeV → Type 0} → IfOk r P → ((c : List NodeV) → P c → Q c) → IfOk r Q
if_ok (Ok c) h by = by c h
if_ok (Err e) h by = tt

both_ok : (r : Result (List NodeV) NoMemory) {P Q R : List NodeV → Type 0} → IfOk r P → IfOk r Q → ((c : List NodeV) → P c → Q c → R c) → IfOk r R
both_ok (Ok c) p q by = by c p q
both_ok (Err e) p q by = tt

pub returns : goal.returns
returns c =
    let d = c.into_desc-desc.result in
    let r = c.certificate_of_desc.result in
    let all = c.certificate_of_desc.ensures.claims in
    let claimed = subst (λ (e : DescV). IfOk r (ClaimsLookAhead e)) c.into_desc-desc.ensures.desc all in
    record {
      number = if_ok r claimed (λ cert claims. claims.number);
      nullable = if_ok r claimed (λ cert claims. claims.nullable);
      reached = if_ok r claimed (λ cert claims. claims.reached);
      ends = if_ok r claimed (λ cert claims. claims.ends);
      start = if_ok r claimed (λ cert claims. claims.start);
      follow = if_ok r claimed (λ cert claims. claims.follow);
      patterns = if_ok r claimed (λ cert claims. claims.patterns);
      good = subst (λ (e : DescV). IfOk r (Good e)) c.into_desc-desc.ensures.desc
          (both_ok r all c.certificate_of_desc.ensures.description
          (λ cert claims is. c.look_ahead_is_good.ensures d cert is c.into_desc-desc.ensures.certified claims));
    }
