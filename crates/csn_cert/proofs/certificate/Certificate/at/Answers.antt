use Rattle.std.proofs.Common.{◌≡◌, ◌-◌, ◌++◌, ◌∷◌, [], List, set, subst, length, sym, ap, ◌∙◌, arith, ◌≤◌, ◌<◌}
use Rattle.csn_cert.specs.CertificateV.{NodeV, PositionV, IsCertificate, IsPosition}
use Rattle.csn_cert.specs.Growing.{with_position}
use Rattle.csn_cert.proofs.Growth.{written_with_position, position_pushed}
use Rattle.csn_cert.proofs.certificate.Certificate.at.Goals as goal
use Rattle.csn_cert.proofs.certificate.Certificate.at.Goals.{In_ok-push}

-- the position that was added
abbrev added : In_ok-push → PositionV
added c = record { octet = c.args.octet; ends = c.args.ends; start = c.args.start; patterns = [] }

-- the node as it was read, with other positions
abbrev node_of : In_ok-push → List PositionV → NodeV
node_of c positions = record { nullable = c.node.inside.nullable; follow = c.node.inside.follow; positions = positions }

written : (c : In_ok-push) → set c.self.inside.nodes.items (c.len-last.result - 1) (node_of c c.push.new.self.items) ≡ with_position (added c) c.args.self.now
written c =
    let position : List _ → PositionV = λ ps. record { octet = c.args.octet; ends = c.args.ends; start = c.args.start; patterns = ps } in
    let pushed = c.in_ok-push.ensures.items ∙ ap (λ ps. c.node.inside.positions.items ++ position ps ∷ []) c.new-patterns.ensures.items in
    let node : NodeV = node_of c c.node.inside.positions.items in
    let some : 0 < length c.self.inside.nodes.items = omega (arith, c.requires.node, ap length c.self.view_is) in
    ap (λ ps. set c.self.inside.nodes.items (c.len-last.result - 1) (node_of c ps)) pushed
    ∙ written_with_position c.self.inside.nodes.items c.len-last.result c.index_mut-node.result.now node (added c)
    (c.len-last.ensures ∙ c.self.inside.nodes.ok.0) some c.index_mut-node.ensures.value c.node.view_is
    ∙ ap (with_position (added c)) c.self.view_is

pub returns-clause-ok : goal.returns-clause-ok
returns-clause-ok c = written c

pub invariant_of-self-2 : goal.invariant_of-self-2
invariant_of-self-2 c =
    let low : c.args.ends ≤ 255 = omega (arith, c.ranges.ends.fits) in
    let is : IsPosition (added c) = record { octet = c.requires.octet; ends = low; start = c.requires.start; patterns = tt; rising = tt } in
    subst IsCertificate (sym (written c)) (position_pushed c.args.self.now (added c)
    (subst IsCertificate c.self.view_is c.self.invariant) is c.requires.rising)
