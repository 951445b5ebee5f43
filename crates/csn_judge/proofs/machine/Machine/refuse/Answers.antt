use Rattle.std.proofs.Common.{◌+◌, lit<, ◌%◌, length, reverse, refl, sym, ap, subst, arith}
use Rattle.std.proofs.lemmas.Option.{slice_get_within}
use Rattle.csn_desc.specs.Nodes.{DescV}
use Rattle.csn_certify.specs.Picks.{IsAsked}
use Rattle.csn_judge.specs.declared.frame.Frame.TheVariants as frame
use Rattle.csn_judge.specs.Turns.{tells_nothing}
use Rattle.csn_judge.proofs.PayingWaits.{stopped_pay}
use Rattle.csn_judge.proofs.Turning.{pushed, stays, items_room}
use Rattle.csn_judge.proofs.TurningChoices.{open_stands, open_asked, stops_open, refuses_open}
use Rattle.csn_judge.proofs.machine.Machine.refuse.Goals as goal

pub push-requires : goal.push-requires
push-requires g c = (
  lit< tt,
  items_room c.args.self.now.plan.now c.args.self.now.frames.items c.requires.stands.stands.shows
      c.requires.stands.stands.stack_is,
)

pub returns-then-ready-eq0-clause-turns : goal.returns-then-ready-eq0-clause-turns
returns-then-ready-eq0-clause-turns g c =
    stays c.args.self.now.plan.now tells_nothing tt c.args.self.now.values.items c.args.self.now.pace c.args.source.now c.stopped.result _ tt
    (pushed c.args.self.now.frames.items (frame.Open c.args.i) c.push.ensures.items)
    (stops_open c.args.self.now.plan.now tells_nothing tt c.args.self.now.values.items c.args.self.now.pace
    c.args.source.now (reverse c.args.self.now.frames.items) c.stopped.result c.stopped.ensures
    c.requires.good (c.requires.closed c.if-ready-eq0.true) (c.requires.none c.if-ready-eq0.true) c.requires.stands.known)

pub followed-count-requires-clause-node : goal.followed-count-requires-clause-node
followed-count-requires-clause-node g c =
    let t = open_stands c.args.self.now.plan.now c.requires.stands.stands.shows in
    slice_get_within _ _ _ t.at

pub followed-count-requires-clause-asked : goal.followed-count-requires-clause-asked
followed-count-requires-clause-asked g c =
    let d : DescV = c.args.self.now.plan.now in
    subst (λ o. IsAsked d c.args.i (o % 8)) (sym c.requires.stands.stands.place)
    (open_asked d c.args.self.now.pace c.requires.stands.known c.requires.stands.stands.shows c.requires.stands.stands.stack_is)

pub returns-clause-turns : goal.returns-clause-turns
returns-clause-turns g c =
    let d : DescV = c.args.self.now.plan.now in
    refuses_open d tells_nothing tt c.args.self.now.values.items c.args.self.now.pace c.args.source.now _
    (c.place.result + c.followed-count.result) c.args.ready c.followed-count.result
    c.requires.ready c.followed-count.ensures.less (ap (λ n. n + c.followed-count.result) c.place.ensures.place)
    c.followed-count.ensures.refused c.followed-count.ensures.followed c.requires.stands.known

pub returns-then-ready-eq0-clause-pays : goal.returns-then-ready-eq0-clause-pays
returns-then-ready-eq0-clause-pays g c =
    stopped_pay (length c.args.self.now.plan.now.nodes) c.args.steps.now (c.args.steps.now + 2) 2
    (frame.Open c.args.i) (reverse c.args.self.now.frames.items) c.args.self.now.pace
    (length c.args.source.now.bits) c.args.source.now c.stopped.result
    (pushed c.args.self.now.frames.items (frame.Open c.args.i) c.push.ensures.items) (omega arith) (omega arith)
    (omega arith) c.stopped.ensures

pub returns-then-ready-eq0-clause-plan : goal.returns-then-ready-eq0-clause-plan
returns-then-ready-eq0-clause-plan g c = refl
