use Rattle.std.proofs.Common.{◌≡◌, ◌<◌, [], take, drop, sym, ap, subst, arith}
use Rattle.std.proofs.lemmas.List.{drop_all}
use Rattle.std.proofs.lemmas.Bool.{both_ways}
use Rattle.csn_grammar.specs.Void.{Void}
use Rattle.csn_resolve.specs.Marked.{MarksV, Passes}
use Rattle.csn_resolve.specs.Going.{way}
use Rattle.csn_resolve.proofs.Basics.Parts.{take_get, take_short}
use Rattle.csn_resolve.proofs.Walking.LeftFacts.{refuses-where, refuses-not}
use Rattle.csn_resolve.proofs.Walking.WalkFacts.{some-at, some-later, none-left}
use Rattle.csn_resolve.proofs.walker.Walker.leave_turn.Goals as goal

pub returns-then-pass : goal.returns-then-pass
returns-then-pass c = λ steps h begun.
    let few : c.loop-at.at < c.args.tail.count = c.loop-at-test.true in
    let Q : MarksV → Type 0 = λ m. Passes m.rules m.test c.get.result.now in
    let void : Void c.args.self.now.names.now c.args.self.now.reading c.get.result.now =
    subst Q c.args.self.now.tables.void_is (c.pass.ensures.0 c.if-pass.true) in
    let some = some-at c.args.self.now.names.now c.args.self.now.reading (take c.args.tail.count c.args.tail.items.now) c.loop-at.at c.get.result.now
    (take_get c.args.tail.items.now c.args.tail.count c.loop-at.at c.get.result.now few c.get.ensures) void in
    rw c.refusal.ensures (ap (way begun) (refuses-where some h))

pub loop-at-preserved : goal.loop-at-preserved
loop-at-preserved c = λ v.
    let few : c.loop-at.at < c.args.tail.count = c.loop-at-test.true in
    let Q : MarksV → Type 0 = λ m. Passes m.rules m.test c.get.result.now in
    let full : Void c.args.self.now.names.now c.args.self.now.reading c.get.result.now → ⊥ = λ w.
    both_ways _ c.if-pass.false (c.pass.ensures.1 (subst Q (sym c.args.self.now.tables.void_is) w)) in
    some-later c.args.self.now.names.now c.args.self.now.reading (take c.args.tail.count c.args.tail.items.now) c.loop-at.at c.get.result.now
    (take_get c.args.tail.items.now c.args.tail.count c.loop-at.at c.get.result.now few c.get.ensures) full (c.loop-at.invariant v)

pub returns : goal.returns
returns c = λ steps h begun.
    let none : drop c.loop-at.at (take c.args.tail.count c.args.tail.items.now) ≡ [] =
    drop_all c.loop-at.at (take c.args.tail.count c.args.tail.items.now) (omega (arith, take_short c.args.tail.count c.args.tail.items.now)) in
    ap (way begun) (refuses-not
    (λ v. none-left c.args.self.now.names.now c.args.self.now.reading
    (drop c.loop-at.at (take c.args.tail.count c.args.tail.items.now)) none (c.loop-at.invariant v)) h)
