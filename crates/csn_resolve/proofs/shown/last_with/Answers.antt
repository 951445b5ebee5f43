use Rattle.std.proofs.Common.{◌≡◌, ◌-◌, ℕ, List, [], true, false, length, min, get_or, sym, ◌∙◌, ap, arith}
use Rattle.std.proofs.lemmas.Option.{slice_get-get_or}
use Rattle.csn_grammar.specs.Names.{same_name}
use Rattle.csn_resolve.specs.Seen.{seen_in}
use Rattle.csn_resolve.proofs.Giving.MadeFacts.{passed-by, other-label, has-label, frame-all}
use Rattle.csn_resolve.proofs.shown.last_with.Goals as goal

pub loop-at-init : goal.loop-at-init
loop-at-init c =
    let least = c.min-at.ensures ∙ ap (λ k. min (length c.args.nodes.now) k) c.len.ensures.len in
    ap (λ f. seen_in f c.args.label.now) (sym (frame-all c.args.reading [] c.args.items.now c.args.nodes.now c.min-at.result least))

pub loop-at-preserved-in_default : goal.loop-at-preserved-in_default
loop-at-preserved-in_default c =
    c.loop-at.invariant ∙ passed-by c.args.reading c.args.items.now c.args.nodes.now (c.loop-at.at - 1)
    c.loop-at.at c.get.result.now (get_or c.args.nodes.now (c.loop-at.at - 1) 0) c.args.label.now (omega arith)
    c.get.ensures
    (slice_get-get_or c.args.nodes.now (c.loop-at.at - 1) 0 (omega arith)) c.in_default.ensures

pub returns-then-eq : goal.returns-then-eq
returns-then-eq c =
    let sure : same_name c.in-Some.found.label.now c.args.label.now ≡ true =
    ap (λ (l : List ℕ). same_name l c.args.label.now) (sym c.bytes.ensures.value) ∙ (sym c.eq.ensures ∙ c.if-eq.true) in
    sym (c.loop-at.invariant ∙ has-label c.args.reading c.args.items.now c.args.nodes.now (c.loop-at.at - 1)
    c.loop-at.at c.get.result.now (get_or c.args.nodes.now (c.loop-at.at - 1) 0)
    c.args.label.now c.in-Some.found.label.now (omega arith) c.get.ensures
    (slice_get-get_or c.args.nodes.now (c.loop-at.at - 1) 0 (omega arith)) c.in-Some.ensures.0 sure)

pub loop-at-preserved : goal.loop-at-preserved
loop-at-preserved c =
    let unlike : same_name c.in-Some.found.label.now c.args.label.now ≡ false =
    ap (λ (l : List ℕ). same_name l c.args.label.now) (sym c.bytes.ensures.value) ∙ (sym c.eq.ensures ∙ c.if-eq.false) in
    c.loop-at.invariant ∙ other-label c.args.reading c.args.items.now c.args.nodes.now (c.loop-at.at - 1)
    c.loop-at.at c.get.result.now (get_or c.args.nodes.now (c.loop-at.at - 1) 0)
    c.args.label.now c.in-Some.found.label.now (omega arith) c.get.ensures
    (slice_get-get_or c.args.nodes.now (c.loop-at.at - 1) 0 (omega arith)) c.in-Some.ensures.0 unlike
