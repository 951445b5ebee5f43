use Rattle.std.proofs.Common.{◌≡◌, Some, sym, ◌∙◌, ap, subst}
use Rattle.csn_resolve.specs.Seen.{seen_of}
use Rattle.csn_resolve.specs.Counts.{Narrow, size_steps}
use Rattle.csn_resolve.specs.Views.{seen_view}
use Rattle.csn_resolve.specs.Marked.{MarksV, Passes}
use Rattle.csn_resolve.proofs.Walking.LeftFacts.{narrow-steps, checks-same}
use Rattle.csn_resolve.proofs.walker.Walker.check_count.Goals as goal

pub returns-else-not-pass : goal.returns-else-not-pass
returns-else-not-pass c = λ steps h.
    let found : seen_of (seen_view c.args.self.now.reading c.args.seen.now) c.in-Linear.label ≡ Some c.in-Some.item.now =
    ap (seen_of (seen_view c.args.self.now.reading c.args.seen.now)) (sym c.bytes.ensures.value) ∙ sym c.in-Some.ensures in
    let Q : MarksV → Type 0 = λ m. Passes m.rules m.test c.in-Some.item.now in
    let narrow : Narrow c.args.self.now.names.now c.args.self.now.reading c.in-Some.item.now =
    subst Q c.args.self.now.tables.narrow_is (c.pass.ensures.0 c.if-not-pass.false) in
    checks-same steps (size_steps c.args.count.now c.args.place) c.check_size-in-Linear.result
    (narrow-steps c.args.self.now.names.now c.args.self.now.reading c.args.count.now c.in-Linear.m c.in-Linear.label
    c.in-Linear.c c.in-Some.item.now c.in-Linear.is found narrow h)
    c.check_size-in-Linear.ensures
