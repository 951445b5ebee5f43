use Rattle.std.proofs.Common.{◌≡◌, ◌+◌, [], List, refl, sym, ◌∙◌, subst, arith, true, false}
use Rattle.std.proofs.lemmas.Option.{get_or_from_slice_get}
use Rattle.std.specs.FinSet as set
use Rattle.csn_cert.specs.PatternV.{PatternV}
use Rattle.csn_cert.specs.PatternText.{ComesBefore}
use Rattle.csn_cert.specs.CertificateV.{NodeV, PositionV, Rises}
use Rattle.csn_certmake.specs.Patterns.{patterns_in}
use Rattle.csn_certmake.proofs.Telling.{NodeSo, node_begun, node_done, position_below, node_skips, node_has}
use Rattle.csn_certmake.proofs.Telling.{ends_told}
use Rattle.csn_certmake.proofs.make.add_node.Goals as goal
use Rattle.csn_certmake.proofs.make.add_node.Goals.{then-has+in_ok-add_position, else-has}

pub loop-octet-init : goal.loop-octet-init
loop-octet-init c =
    node_begun c.args.look.now c.args.reach.now c.args.row.now c.args.node c.args.c.now c.node.new.self
    c.nullable.result c.follow_digits.result c.in_ok-node.ensures.ok
    (λ d known. c.nullable.ensures d known.sets) (λ d known. c.follow_digits.ensures.follow d known.follow)

pub returns : goal.returns
returns c =
    node_done c.args.look.now c.args.reach.now c.args.row.now c.args.node c.loop-octet.octet c.args.c.now c.loop-octet.c
    (omega (arith, c.loop-octet-test.false)) c.loop-octet.invariant

pub add_position-requires-clause-after : goal.add_position-requires-clause-after
add_position-requires-clause-after c = position_below c.args.look.now c.args.reach.now c.args.row.now c.args.node
    c.loop-octet.octet c.args.c.now c.loop-octet.c c.loop-octet.invariant

pub add_position-requires-clause-rising : goal.add_position-requires-clause-rising
add_position-requires-clause-rising c =
    let octet = c.loop-octet.octet in
    let there : patterns_in c.args.row.now octet ≡ c.at.result.now = get_or_from_slice_get c.args.row.now octet c.at.result.now [] c.at.ensures in
    subst (λ (l : List PatternV). Rises ComesBefore l) there (c.requires.ordered.rising octet (omega (arith, c.loop-octet-test.true)))

pub loop-octet-preserved : goal.loop-octet-preserved
loop-octet-preserved c =
    let look = c.args.look.now in
    let reach = c.args.reach.now in
    let row = c.args.row.now in
    let i = c.args.node in
    let octet = c.loop-octet.octet in
    let old = c.args.c.now in
    let here = c.loop-octet.c in
    elim c.if-has.branch [
      | then-has+in_ok-add_position w ↦
          let p : PositionV = record { octet = octet; ends = w.digits_of-ends.result; start = w.start_digits-start.result; patterns = w.at.result.now } in
          let reached : set.contains c.reached-reached.result octet ≡ true = sym c.has.ensures ∙ w.if-has.true in
          subst (λ (cert : List NodeV). NodeSo look reach row i (octet + 1) old cert) (sym w.c-is)
          (node_has look reach row i octet old here w.add_position.new.c p c.loop-octet.invariant w.in_ok-add_position.ensures refl
          (λ d known. (
            ((c.reached-reached.ensures d known.reached) octet (omega (arith, c.loop-octet-test.true))).0 reached,
            record {
              ends = ends_told d i octet w.digits_of-ends.result w.ends.result w.digits_of-ends.ensures (w.ends.ensures d known.sets);
              start = w.start_digits-start.ensures.start d known.sets;
              patterns = sym (get_or_from_slice_get row octet w.at.result.now [] w.at.ensures);
            },
          )))
      | else-has w ↦
          subst (λ (cert : List NodeV). NodeSo look reach row i (octet + 1) old cert) (sym w.c-is)
          (node_skips look reach row i octet old here c.loop-octet.invariant
          (λ d known reached.
          let has : set.contains c.reached-reached.result octet ≡ true =
          ((c.reached-reached.ensures d known.reached) octet (omega (arith, c.loop-octet-test.true))).1 reached in
          let not : c.has.result ≡ false = w.if-has.false in
          let is : c.has.result ≡ true = c.has.ensures ∙ has in
          absurd (cc)))
    ]
