use Rattle.std.proofs.Common.{◌∙◌, ℕ, List, sym, subst}
use Rattle.csn_desc.specs.declared.moves.Move.{Move}
use Rattle.csn_desc.specs.Nodes.{DescV}
use Rattle.csn_judge.specs.declared.verdict.Judged.{Judged}
use Rattle.csn_judge.specs.Told.{Tells}
use Rattle.csn_judge.specs.Judging.{JudgeV, opened}
use Rattle.csn_judge.specs.Judging as judging
use Rattle.csn_fields.specs.Follower.{FollowerV, stands, FollowsFor, Ends}
use Rattle.csn_fields.proofs.FollowerFacts.{ends_string, ends_place, fresh}
use Rattle.csn_fields.proofs.follower.Follower.next_block_to.Goals as goal

pub returns-in-Ok-clause-ends : goal.returns-in-Ok-clause-ends
returns-in-Ok-clause-ends g c =
    let ahead : JudgeV = c.self.inside.ahead in
    let judge : JudgeV = c.self.inside.judge in
    let P : DescV → Type 0 = λ d. judging.Ends (λ around made. Tells d g.T.Track.takes
    (opened judge) made around c.args.track.now c.next_block_to-ok.new.track)
    judge c.next_block_to-ok.result in
    let Q : Judged → FollowerV → Type 0 = λ r f. (b : List ℕ) (moves : List Move) → FollowsFor f b moves
    → Ends (λ around made. Tells f.desc g.T.Track.takes (opened f.judge) made around c.args.track.now c.next_block_to-ok.new.track) f b moves r in
    subst (λ f. Q c.next_block-judged.result f) c.self.view_is
    (subst (λ r. Q r (stands ahead judge)) (sym c.in-Ok.is)
    (ends_string (λ around made. Tells ahead.desc g.T.Track.takes
    (opened judge) made around c.args.track.now c.next_block_to-ok.new.track) ahead judge
    c.next_block_to-ok.result c.self.invariant.same_desc c.self.invariant.few c.strings_are_followed.ensures c.in-Ok.ensures.ends
    (subst P c.self.invariant.same_desc c.next_block_to-ok.ensures.ends)))

pub returns-in-Refused-clause-ends : goal.returns-in-Refused-clause-ends
returns-in-Refused-clause-ends g c =
    let ahead : JudgeV = c.self.inside.ahead in
    let judge : JudgeV = c.self.inside.judge in
    let Q : Judged → FollowerV → Type 0 = λ r f. (b : List ℕ) (moves : List Move) → FollowsFor f b moves
    → Ends (λ around made. Tells f.desc g.T.Track.takes (opened f.judge) made around c.args.track.now c.args.track.now) f b moves r in
    subst (λ f. Q c.next_block-judged.result f) c.self.view_is
    (subst (λ r. Q r (stands ahead judge)) (sym c.in-Refused.is) (ends_place ahead judge c.in-Refused.place c.in-Refused.ensures.ends))

pub returns-in-Ok-clause-follows : goal.returns-in-Ok-clause-follows
returns-in-Ok-clause-follows g c =
    fresh c.next_block-judged.new.self c.next_block_to-ok.new.self
    (c.next_block_to-ok.ensures.desc ∙ c.self.invariant.same_desc ∙ sym c.next_block-judged.ensures.desc) c.next_block-judged.ensures.judges
    c.next_block-judged.ensures.refused c.next_block_to-ok.ensures.judges c.next_block_to-ok.ensures.refused

pub returns-in-Refused-clause-follows : goal.returns-in-Refused-clause-follows
returns-in-Refused-clause-follows g c =
    fresh c.next_block-judged.new.self c.next_block-untold.new.self
    (c.next_block-untold.ensures.desc ∙ c.self.invariant.same_desc ∙ sym c.next_block-judged.ensures.desc) c.next_block-judged.ensures.judges
    c.next_block-judged.ensures.refused c.next_block-untold.ensures.judges c.next_block-untold.ensures.refused
