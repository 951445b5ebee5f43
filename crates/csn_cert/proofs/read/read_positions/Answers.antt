use Rattle.std.proofs.Common.{◌<◌, List, ℕ, refl, sym, ap, subst, IfSome}
use Rattle.std.proofs.lemmas.Bool.{false≢true}
use Rattle.std.proofs.lemmas.Result.{err_from_is_err_and}
use Rattle.csn_cert.specs.CertificateV.{PositionV}
use Rattle.csn_cert.specs.Growing.{last_of}
use Rattle.csn_cert.proofs.Refusals.{passed}
use Rattle.csn_cert.proofs.Nodes.{PositionsRead, no_next_position, no_position_behind, no_positions_read, position_read, positions_stand}
use Rattle.csn_cert.proofs.read.read_positions.Goals as goal

pub returns-in_err-position-clause-refused : goal.returns-in_err-position-clause-refused
returns-in_err-position-clause-refused c =
    let p = err_from_is_err_and c.from_residual.result c.from_residual.ensures.1 in
    passed c.from_residual.result p.0 c.in_err-position.field-0.0 p.1 p.2 (λ never.
    let read = c.positions.invariant in
    let begun = c.positions-test.ensures.yes in
    no_next_position c.positions.positions.items c.args.text.now c.positions.text begun.0 read.are.each read.spelled
    begun.1 never) c.in_err-position.ensures.refused

pub positions-init : goal.positions-init
positions-init c = subst (λ (ps : List PositionV). PositionsRead c.args.text.now ps c.args.text.now)
    (sym c.new-positions.ensures.items) (no_positions_read c.args.text.now)

pub positions-preserved : goal.positions-preserved
positions-preserved c =
    subst (λ (ps : List PositionV). PositionsRead c.args.text.now ps c.read_position.new.text) (sym c.in_ok-push.ensures.items)
    (position_read c.args.text.now c.positions.positions.items c.positions.text c.read_position.new.text
    c.in_ok-position.position c.positions.invariant c.in_ok-position.ensures.ok
    (subst (λ (o : ℕ). IfSome (last_of c.positions.positions.items) (λ p. p.octet < o)) (ap (λ (q : PositionV). q.octet) c.position.view_is)
    (subst (λ (ps : List PositionV). IfSome (last_of ps) (λ p. p.octet < c.position.inside.octet))
    c.deref.ensures.value (c.if-not-comes_behind.ensures.0 refl))))

pub returns-then-not-comes_behind-clause-refused : goal.returns-then-not-comes_behind-clause-refused
returns-then-not-comes_behind-clause-refused c =
    let read = c.positions.invariant in
    let begun = c.positions-test.ensures.yes in
    no_position_behind c.positions.positions.items c.in_ok-position.position c.args.text.now c.positions.text begun.0
    c.read_position.new.text read.are.each read.spelled begun.1 c.in_ok-position.ensures.ok
    (λ behind.
    let tested = subst (λ (o : ℕ). IfSome (last_of c.positions.positions.items) (λ p. p.octet < o))
    (sym (ap (λ (q : PositionV). q.octet) c.position.view_is)) behind in
    false≢true (c.if-not-comes_behind.ensures.1
    (subst (λ (ps : List PositionV). IfSome (last_of ps) (λ p. p.octet < c.position.inside.octet))
    (sym c.deref.ensures.value) tested)))

pub returns-clause-ok : goal.returns-clause-ok
returns-clause-ok c = positions_stand c.args.text.now c.positions.positions.items c.positions.text c.positions.invariant c.positions-test.ensures.no
