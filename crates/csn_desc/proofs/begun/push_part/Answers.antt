-- A node more, and a part more of the node above it.
use Rattle.std.proofs.Common.{◌≡◌, length, [], ◌∷◌, ◌++◌, set, sym, ◌∙◌, ap, arith, not, if◌then◌else◌, length-append}
use Rattle.std.specs.Prelude.{slice_get, Some}
use Rattle.csn_desc.specs.Building.{with_part}
use Rattle.csn_desc.proofs.Entering.{get_within, get_before}
use Rattle.csn_desc.proofs.Innermost.{above_begun, popped, ok_holds, err_holds}
use Rattle.csn_desc.proofs.begun.push_part.Goals as goal

pub add_part_above-requires : goal.add_part_above-requires
add_part_above-requires c = λ i is.
    let nodes = c.args.nodes.now.items in
    let there = c.requires.above i is in
    let items : c.push.new.self.items ≡ nodes ++ c.args.node ∷ [] =
    c.push.ensures.items ∙ ap (λ b. if b then nodes ++ c.args.node ∷ [] else nodes) (c.is_err.ensures.negation ∙ ap not c.if-is_err.false) in
    let at : slice_get c.push.new.self.items i ≡ Some there.0 =
    ap (λ l. slice_get l i) items ∙ get_before nodes (c.args.node ∷ []) i (get_within nodes i there.0 there.1) ∙ there.1 in
    (there.0, at, there.2)

pub returns-clause-ok : goal.returns-clause-ok
returns-clause-ok c =
    let nodes = c.args.nodes.now.items in
    let all = c.push.new.self.items in
    let items : all ≡ nodes ++ c.args.node ∷ [] =
    c.push.ensures.items ∙ ap (λ b. if b then nodes ++ c.args.node ∷ [] else nodes) (c.is_err.ensures.negation ∙ ap not c.if-is_err.false) in
    let long : c.len-number.result ≡ length nodes = omega (arith, c.len-number.ensures) in
    above_begun nodes c.args.node c.args.above all c.add_part_above.new.nodes.items c.requires.above items c.add_part_above.ensures.none (λ i n is at.
    ok_holds c.add_part_above.result (sym c.is_err-2.ensures.value ∙ c.if-is_err-2.false)
    (c.add_part_above.ensures.some i n is at) ∙ ap (λ k. set all i (with_part k n)) long)

pub returns-clause-err : goal.returns-clause-err
returns-clause-err c = tt

pub returns-then-is_err-clause-ok : goal.returns-then-is_err-clause-ok
returns-then-is_err-clause-ok c = tt

pub returns-then-is_err-clause-err : goal.returns-then-is_err-clause-err
returns-then-is_err-clause-err c =
    let nodes = c.args.nodes.now.items in
    c.push.ensures.items ∙ ap (λ b. if b then nodes ++ c.args.node ∷ [] else nodes) (c.is_err.ensures.negation ∙ ap not c.if-is_err.true)

pub returns-then-is_err-2-clause-ok : goal.returns-then-is_err-2-clause-ok
returns-then-is_err-2-clause-ok c = tt

pub returns-then-is_err-2-clause-err : goal.returns-then-is_err-2-clause-err
returns-then-is_err-2-clause-err c =
    let nodes = c.args.nodes.now.items in
    let items : c.push.new.self.items ≡ nodes ++ c.args.node ∷ [] =
    c.push.ensures.items ∙ ap (λ b. if b then nodes ++ c.args.node ∷ [] else nodes) (c.is_err.ensures.negation ∙ ap not c.if-is_err.false) in
    let stays : c.add_part_above.new.nodes.items ≡ c.push.new.self.items =
    err_holds c.add_part_above.result (sym c.is_err-2.ensures.value ∙ c.if-is_err-2.true) c.add_part_above.ensures.err in
    popped nodes c.pop.new.self.items c.args.node c.pop.result (sym items ∙ sym stays ∙ c.pop.ensures.items)
    (c.pop.ensures.variant.1 (omega (arith, ap length stays, ap length items, length-append nodes (c.args.node ∷ []))))
