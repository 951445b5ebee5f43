use Rattle.std.proofs.Common.{Err, sym, subst, ap, ◌∙◌}
use Rattle.csn_judge.specs.Judging.{JudgeV, opened}
use Rattle.csn_judge.specs.Told.{Tells}
use Rattle.csn_judge.proofs.FollowingFacts.{ends_refused, ends_none}
use Rattle.csn_decode.specs.declared.verdict.DecodeFault.TheVariants.{Refused}
use Rattle.csn_decode.specs.Built.{Makes}
use Rattle.csn_decode.specs.Decoding.{DecoderV, stands, IsTold, Ends}
use Rattle.csn_decode.proofs.DecodingFacts.{ends_made}
use Rattle.csn_decode.proofs.decoder.Decoder.finish.Goals as goal

pub returns-in-Refused-clause-ends : goal.returns-in-Refused-clause-ends
returns-in-Refused-clause-ends g c =
    let d : DecoderV = c.args.self in
    ends_refused d.desc d.answer d.judge (IsTold d) c.strings_are_followed.ensures c.in-Refused.place
    (sym (ap (λ (d : DecoderV). d.answer) c.self.view_is) ∙ c.in-Refused.is)

pub returns-in-Ok-clause-ends : goal.returns-in-Ok-clause-ends
returns-in-Ok-clause-ends g c =
    let j : JudgeV = c.self.inside.judge in
    let P : DecoderV → Type 0 = λ d. Ends d c.tree_of.result in
    subst P (ap (λ a. stands j c.self.inside.track a) (sym c.in-Going.is) ∙ c.self.view_is)
    (ends_made j c.self.inside.track c.finish_to.new.track c.tree_of.result c.self.invariant.description
    c.self.invariant.one_tree c.in-Ok.ensures.ends c.tree_of.ensures.ok c.tree_of.ensures.err)

pub returns-in-Refused-finish_to-clause-ends : goal.returns-in-Refused-finish_to-clause-ends
returns-in-Refused-finish_to-clause-ends g c =
    let j : JudgeV = c.self.inside.judge in
    let P : DecoderV → Type 0 = λ d. Ends d (Err (Refused c.in-Refused-finish_to.place)) in
    subst P (ap (λ a. stands j c.self.inside.track a) (sym c.in-Going.is) ∙ c.self.view_is)
    (ends_none j (λ around made. Tells j.desc Makes (opened j) made around c.self.inside.track c.finish_to.new.track)
    (IsTold (stands j c.self.inside.track c.self.inside.answer))
    c.in-Refused-finish_to.place c.in-Refused-finish_to.ensures.ends)
