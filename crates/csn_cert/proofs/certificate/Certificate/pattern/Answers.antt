use Rattle.std.proofs.Common.{◌≡◌, ◌-◌, List, IsSome, set, subst, length, sym, ap, ◌∙◌, arith, ◌<◌}
use Rattle.csn_cert.specs.PatternV.{PatternV}
use Rattle.csn_cert.specs.CertificateV.{NodeV, PositionV, IsCertificate, IsPattern}
use Rattle.csn_cert.specs.Growing.{last_position, with_pattern}
use Rattle.csn_cert.proofs.Growth.{positions_within, written_with_pattern, pattern_pushed}
use Rattle.csn_cert.proofs.certificate.Certificate.pattern.Goals as goal
use Rattle.csn_cert.proofs.certificate.Certificate.pattern.Goals.{In_ok-push}

some_position : (old now : List NodeV) → old ≡ now → IsSome (last_position now) → IsSome (last_position old)
some_position old now same some = let P : List NodeV → Type 0 = λ c. IsSome (last_position c) in subst P (sym same) some

pub overflow_sub-last-2 : goal.overflow_sub-last-2
overflow_sub-last-2 c =
    let node : NodeV = record { nullable = c.node.inside.nullable; follow = c.node.inside.follow; positions = c.node.inside.positions.items } in
    let some : 0 < length c.node.inside.positions.items = positions_within c.self.inside.nodes.items c.len-last.result
    c.index_mut-node.result.now node (c.len-last.ensures ∙ c.self.inside.nodes.ok.0)
    c.index_mut-node.ensures.value c.node.view_is
    (some_position c.self.inside.nodes.items c.args.self.now c.self.view_is c.requires.position) in
    omega (arith, some, c.len-last-2.ensures, c.node.inside.positions.ok.0)

pub index_mut-position-requires : goal.index_mut-position-requires
index_mut-position-requires c =
    let node : NodeV = record { nullable = c.node.inside.nullable; follow = c.node.inside.follow; positions = c.node.inside.positions.items } in
    let some : 0 < length c.node.inside.positions.items = positions_within c.self.inside.nodes.items c.len-last.result
    c.index_mut-node.result.now node (c.len-last.ensures ∙ c.self.inside.nodes.ok.0)
    c.index_mut-node.ensures.value c.node.view_is
    (some_position c.self.inside.nodes.items c.args.self.now c.self.view_is c.requires.position) in
    omega (arith, some, c.len-last-2.ensures, c.node.inside.positions.ok.0)

-- the position as it was read, with other patterns
abbrev position_of : In_ok-push → List PatternV → PositionV
position_of c patterns = record { octet = c.position.inside.octet; ends = c.position.inside.ends; start = c.position.inside.start; patterns = patterns }

-- the node as it was read, with other positions
abbrev node_of : In_ok-push → List PositionV → NodeV
node_of c positions = record { nullable = c.node.inside.nullable; follow = c.node.inside.follow; positions = positions }

written : (c : In_ok-push)
    → set c.self.inside.nodes.items (c.len-last.result - 1)
    (node_of c (set c.node.inside.positions.items (c.len-last-2.result - 1) (position_of c c.push.new.self.items)))
    ≡ with_pattern c.args.pattern c.args.self.now
written c =
    ap (λ ks. set c.self.inside.nodes.items (c.len-last.result - 1)
    (node_of c (set c.node.inside.positions.items (c.len-last-2.result - 1) (position_of c ks))))
    c.in_ok-push.ensures.items
    ∙ written_with_pattern c.self.inside.nodes.items c.len-last.result c.index_mut-node.result.now
    (node_of c c.node.inside.positions.items) c.len-last-2.result c.index_mut-position.result.now
    (position_of c c.position.inside.patterns.items) c.args.pattern
    (c.len-last.ensures ∙ c.self.inside.nodes.ok.0)
    (some_position c.self.inside.nodes.items c.args.self.now c.self.view_is c.requires.position)
    c.index_mut-node.ensures.value c.node.view_is (c.len-last-2.ensures ∙ c.node.inside.positions.ok.0)
    c.index_mut-position.ensures.value c.position.view_is
    ∙ ap (with_pattern c.args.pattern) c.self.view_is

pub returns-clause-ok : goal.returns-clause-ok
returns-clause-ok c = written c

pub invariant_of-self-2 : goal.invariant_of-self-2
invariant_of-self-2 c =
    let is : IsPattern c.args.pattern = omega (arith, c.len.ensures.count, c.len.ensures.few) in
    subst IsCertificate (sym (written c)) (pattern_pushed c.args.self.now c.args.pattern
    (subst IsCertificate c.self.view_is c.self.invariant) is c.requires.rising)
