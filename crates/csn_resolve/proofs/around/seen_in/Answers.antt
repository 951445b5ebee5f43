use Rattle.std.proofs.Common.{◌≡◌, ◌+◌, ◌-◌, ℕ, true, false, Some, List, [], take, length, min, sym, ◌∙◌, ap, arith}
use Rattle.csn_grammar.specs.ExprV.{ExprV}
use Rattle.csn_grammar.specs.Names.{same_name}
use Rattle.csn_resolve.specs.Seen.{seen_in}
use Rattle.csn_resolve.specs.Views.{frame_after}
use Rattle.csn_resolve.proofs.Naming.ViewFacts.{passed-by, other-label, has-label, take-min}
use Rattle.csn_resolve.proofs.around.seen_in.Goals as goal

pub loop-at-preserved-in_default : goal.loop-at-preserved-in_default
loop-at-preserved-in_default c =
    let step : c.loop-at.at ≡ c.loop-at.at - 1 + 1 = omega arith in
    c.loop-at.invariant ∙ (ap (λ (k : ℕ). seen_in (frame_after c.args.reading [] (take k c.args.items.now)) c.args.label.now) step
    ∙ passed-by c.args.reading c.args.items.now (c.loop-at.at - 1) c.get.result.now c.args.label.now c.get.ensures c.in_default.ensures)

pub returns-then-eq : goal.returns-then-eq
returns-then-eq c =
    let step : c.loop-at.at ≡ c.loop-at.at - 1 + 1 = omega arith in
    let sure : same_name c.in-Some.found.label.now c.args.label.now ≡ true =
    ap (λ (l : List ℕ). same_name l c.args.label.now) (sym c.bytes.ensures.value) ∙ (sym c.eq.ensures ∙ c.if-eq.true) in
    sym (c.loop-at.invariant ∙ (ap (λ (k : ℕ). seen_in (frame_after c.args.reading [] (take k c.args.items.now)) c.args.label.now) step
    ∙ (has-label c.args.reading c.args.items.now (c.loop-at.at - 1) c.get.result.now c.args.label.now
    c.in-Some.found.label.now c.get.ensures c.in-Some.ensures.0 sure
    ∙ ap Some c.in-Some.ensures.1)))

pub loop-at-preserved : goal.loop-at-preserved
loop-at-preserved c =
    let step : c.loop-at.at ≡ c.loop-at.at - 1 + 1 = omega arith in
    let unlike : same_name c.in-Some.found.label.now c.args.label.now ≡ false =
    ap (λ (l : List ℕ). same_name l c.args.label.now) (sym c.bytes.ensures.value) ∙ (sym c.eq.ensures ∙ c.if-eq.false) in
    c.loop-at.invariant ∙ (ap (λ (k : ℕ). seen_in (frame_after c.args.reading [] (take k c.args.items.now)) c.args.label.now) step
    ∙ other-label c.args.reading c.args.items.now (c.loop-at.at - 1) c.get.result.now c.args.label.now
    c.in-Some.found.label.now c.get.ensures c.in-Some.ensures.0 unlike)

pub loop-at-init : goal.loop-at-init
loop-at-init c =
    let least : c.min-at.result ≡ min c.args.count (length c.args.items.now) = omega arith in
    ap (λ (l : List ExprV). seen_in (frame_after c.args.reading [] l) c.args.label.now)
    (sym (ap (λ (k : ℕ). take k c.args.items.now) least ∙ take-min c.args.count c.args.items.now))
