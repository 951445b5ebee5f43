use Rattle.std.proofs.Common.{◌++◌, ◌∷◌, [], take, Some, false, get_or, sym, ◌∙◌, ap, append_assoc}
use Rattle.std.proofs.lemmas.Option.{slice_get-get_or}
use Rattle.csn_good.specs.Numbers.{marked}
use Rattle.csn_good.proofs.Numbered.{mark_at, marked_more, number_most}
use Rattle.csn_good.proofs.pattern_set.push_marked.Goals as goal

pub push_if-requires : goal.push_if-requires
push_if-requires c = λ is.
    let marks = c.args.marks.now in
    let place = c.loop-place.place in
    let at = slice_get-get_or marks place false c.loop-place-test.true ∙ ap Some is in
    number_most place (c.requires place (mark_at marks place at))

pub loop-place-preserved : goal.loop-place-preserved
loop-place-preserved c =
    let marks = c.args.marks.now in
    let place = c.loop-place.place in
    let mark = get_or marks place false in
    let before = c.args.numbers.now.items in
    c.in_ok-push_if.ensures ∙ ap (λ l. l ++ marked place (mark ∷ [])) c.loop-place.invariant
    ∙ append_assoc before (marked 0 (take place marks)) (marked place (mark ∷ []))
    ∙ ap (λ l. before ++ l) (sym (marked_more marks place mark (slice_get-get_or marks place false c.loop-place-test.true)))
