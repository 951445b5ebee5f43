use Rattle.std.proofs.Common.{◌≡◌, Bool, true, false, List, Some, ◌<◌, length, get_or, slice_get, sym, ◌∙◌, ap, arith}
use Rattle.std.proofs.lemmas.List.{get_or_read}
use Rattle.std.proofs.lemmas.Option.{slice_get-get_or}
use Rattle.csn_resolve.specs.Marked.{passes, marked}
use Rattle.csn_resolve.proofs.Emptiness.LeastFacts.{found_passes, sound_more, set_fewer}
use Rattle.csn_resolve.proofs.marks.ask.Goals as goal

pub returns-clause-sound : goal.returns-clause-sound
returns-clause-sound c = λ sound.
    let found : passes c.args.test (marked c.args.names.now c.args.marks.now.items) c.rule.result.now.body ≡ true =
    sym (c.passes.ensures ∙ ap (λ (ms : List Bool). passes c.args.test (marked c.args.names.now ms)
    c.rule.result.now.body) c.as_slice.ensures.value) ∙ c.if-not-passes.false in
    sound_more c.args.names.now c.args.test c.args.marks.now.items c.args.at c.rule.result.now c.rule.ensures
    (found_passes c.args.names.now c.args.marks.now.items c.args.test c.rule.result.now.body sound found) sound

pub returns-clause-more : goal.returns-clause-more
returns-clause-more c = λ _.
    let within : c.args.at < length c.args.marks.now.items = omega (arith, c.requires.long, c.requires.within) in
    let read : get_or c.args.marks.now.items c.args.at false ≡ false =
    sym (get_or_read c.args.marks.now.items _ _ within c.index.ensures false) ∙ c.if-index.false in
    let at : slice_get c.args.marks.now.items c.args.at ≡ Some false = slice_get-get_or c.args.marks.now.items c.args.at false within ∙ ap Some read in
    set_fewer c.args.marks.now.items c.args.at at
