use Rattle.std.proofs.Common.{lit<, ℕ, List, length, reverse, refl, sym, ◌∙◌, ap, arith}
use Rattle.std.proofs.lemmas.Option.{slice_get_within}
use Rattle.csn_judge.specs.declared.frame.Frame.TheVariants as frame
use Rattle.csn_judge.proofs.Paying.{left_pays_on}
use Rattle.csn_judge.proofs.PayingWaits.{stopped_pay}
use Rattle.csn_judge.proofs.Turning.{window_stands, pushed, ends_window, stays, window_stops, items_room}
use Rattle.csn_judge.proofs.machine.Machine.window.Goals as goal

pub push-requires : goal.push-requires
push-requires g c = (lit< tt, items_room c.args.self.now.plan.now c.args.self.now.frames.items c.requires.stands.shows c.requires.stands.stack_is)

pub returns-then-place-end-clause-turns : goal.returns-then-place-end-clause-turns
returns-then-place-end-clause-turns g c =
    stays c.args.self.now.plan.now g.T.Track.takes c.args.track.now c.args.self.now.values.items c.args.self.now.pace
    c.args.source.now c.stopped.result _ c.args.track.now
    (pushed c.args.self.now.frames.items (frame.Window c.args.i c.args.start c.args.bits c.args.outer) c.push.ensures.items)
    (window_stops c.args.self.now.plan.now g.T.Track.takes c.args.track.now c.args.self.now.values.items
    c.args.self.now.pace c.args.source.now c.args.i c.args.start c.args.bits c.args.outer
    (reverse c.args.self.now.frames.items) c.stopped.result c.stopped.ensures c.requires.known
    (λ same. c.if-place-end.true (c.place.ensures.place ∙ same)))

pub leave-requires : goal.leave-requires
leave-requires g c =
    let k = window_stands c.args.self.now.plan.now c.requires.stands.shows in
    slice_get_within _ _ _ k.cuts.at

pub returns-clause-turns : goal.returns-clause-turns
returns-clause-turns g c =
    λ stack done stands.
    ends_window c.args.self.now.plan.now g.T.Track.takes c.args.track.now c.args.self.now.values.items
    c.args.self.now.pace c.args.source.now c.set_limit.new.self
    c.set_limit.ensures.bits c.set_limit.ensures.ended c.set_limit.ensures.place c.set_limit.ensures.limit
    c.leave.ensures.told.0 (sym c.place.ensures.place ∙ c.if-place-end.false) c.requires.known stands c.leave.ensures.told.1 c.leave.ensures.told.2

pub returns-then-place-end-clause-pays : goal.returns-then-place-end-clause-pays
returns-then-place-end-clause-pays g c =
    stopped_pay (length c.args.self.now.plan.now.nodes) c.args.steps.now c.args.steps.now 0
    (frame.Window c.args.i c.args.start c.args.bits c.args.outer) (reverse c.args.self.now.frames.items)
    c.args.self.now.pace (length c.args.source.now.bits) c.args.source.now c.stopped.result
    (pushed c.args.self.now.frames.items (frame.Window c.args.i c.args.start c.args.bits c.args.outer)
    c.push.ensures.items) (omega arith) (omega arith) (omega arith) c.stopped.ensures

pub returns-then-place-end-clause-plan : goal.returns-then-place-end-clause-plan
returns-then-place-end-clause-plan g c = refl

pub returns-clause-pays : goal.returns-clause-pays
returns-clause-pays g c = left_pays_on (length c.args.self.now.plan.now.nodes) c.args.steps.now
    (length c.args.source.now.bits) 1 (frame.Window c.args.i c.args.start c.args.bits c.args.outer)
    (ap (λ (l : List ℕ). length l) c.set_limit.ensures.bits) refl refl c.leave.ensures.step (omega arith)
    (omega arith)

pub returns-clause-plan : goal.returns-clause-plan
returns-clause-plan g c = refl
