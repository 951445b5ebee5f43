use Rattle.std.proofs.Common.{◌≡◌, ℕ, List, Option, take, sym, subst, ap, ◌∙◌}
use Rattle.csn_bits.specs.Octets.{bits_of_octets}
use Rattle.csn_judge.specs.Judging.{JudgeV}
use Rattle.csn_judge.specs.declared.fed.Fed.{Fed}
use Rattle.csn_judge.specs.declared.fed.Fed.TheVariants.{Going}
use Rattle.csn_judge.specs.Following.{IsAnswer}
use Rattle.csn_judge.proofs.FollowingFacts.{feeds_still, going_is, going_no_more}
use Rattle.csn_decode.specs.Built.{BuiltV}
use Rattle.csn_decode.specs.Decoding.{DecoderV, stands, IsTold, Decodes}
use Rattle.csn_decode.proofs.DecodingFacts.{feeds}
use Rattle.csn_decode.proofs.decoder.Decoder.feed.Goals as goal

pub returns-then-not-is_going-clause-decodes : goal.returns-then-not-is_going-clause-decodes
returns-then-not-is_going-clause-decodes g c =
    let d : DecoderV = c.args.self.now in
    feeds_still d.desc d.answer d.judge (IsTold d) c.prefixes_are_followed.ensures (take c.args.bits (bits_of_octets c.args.piece.now)) c.self.inside.answer
    (sym (ap (λ (d : DecoderV). d.answer) c.self.view_is)) (going_no_more c.self.inside.answer c.is_going.result c.is_going.ensures c.if-not-is_going.true)

pub returns-clause-decodes : goal.returns-clause-decodes
returns-clause-decodes g c =
    let old : JudgeV = c.self.inside.judge in
    let new : JudgeV = c.feed_to-verdict.new.self in
    let before : Option BuiltV = c.self.inside.track in
    let after : Option BuiltV = c.feed_to-verdict.new.track in
    let more : List ℕ = take c.args.bits (bits_of_octets c.args.piece.now) in
    let going : c.self.inside.answer ≡ Going = going_is c.self.inside.answer c.is_going.result c.is_going.ensures c.if-not-is_going.false in
    let A : Fed → Type 0 = λ a. IsAnswer a old in
    let P : Fed → Type 0 = λ a. Decodes (stands old before Going) (stands new after a) more a in
    let Q : DecoderV → Type 0 = λ d. Decodes d (stands new after c.of-self-inside.result) more c.of-self-inside.result in
    subst Q (ap (λ a. stands old before a) (sym going) ∙ c.self.view_is)
    (subst P (sym c.of-self-inside.ensures)
    (feeds old new before after more c.feed_to-verdict.result c.is_refused.result c.feed_to-verdict.ensures.desc
    (subst A going c.self.invariant.answer_is) c.feed_to-verdict.ensures.judges))
