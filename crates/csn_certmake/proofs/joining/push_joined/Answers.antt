use Rattle.std.proofs.Common.{◌++◌, ◌∷◌, [], map, take, sym, ap, ◌∙◌, append_assoc, append-nil, arith}
use Rattle.std.proofs.lemmas.List.{take_all}
use Rattle.csn_certmake.specs.Patterns.{joined}
use Rattle.csn_certmake.proofs.Rows.{map_next}
use Rattle.csn_certmake.proofs.joining.push_joined.Goals as goal

pub loop-rest-init : goal.loop-rest-init
loop-rest-init c = sym (append-nil c.args.patterns.now.items)

pub loop-rest-preserved : goal.loop-rest-preserved
loop-rest-preserved c =
    let before = c.args.patterns.now.items in
    let own = joined c.args.first.now in
    let rest = c.rest-item.result in
    let done = map own (take c.loop-rest.rest-index c.args.rests.now) in
    c.in_ok-push.ensures.items ∙ ap (λ p. c.loop-rest.patterns.items ++ p ∷ []) c.joined.ensures ∙ ap (λ l. l ++ own rest ∷ []) c.loop-rest.invariant
    ∙ append_assoc before done (own rest ∷ [])
    ∙ ap (λ l. before ++ l) (map_next own c.args.rests.now c.loop-rest.rest-index rest c.loop-rest-test.true c.rest-item.is)

pub returns : goal.returns
returns c =
    let all = take_all c.loop-rest.rest-index c.args.rests.now (omega (arith, c.loop-rest-test.false)) in
    c.loop-rest.invariant ∙ ap (λ l. c.args.patterns.now.items ++ map (joined c.args.first.now) l) all
