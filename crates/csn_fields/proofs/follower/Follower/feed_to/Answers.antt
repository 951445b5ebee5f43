use Rattle.std.proofs.Common.{◌∙◌, ◌++◌, ℕ, List, ◌+◌, ◌*◌, ◌≤◌, length, sym, ap, subst, arith, take}
use Rattle.csn_bits.specs.Octets.{bits_of_octets}
use Rattle.csn_bits.proofs.Packing.{length-bits_of_octets}
use Rattle.csn_desc.specs.declared.moves.Move.{Move}
use Rattle.csn_desc.specs.Nodes.{DescV}
use Rattle.csn_judge.specs.Told.{Tells}
use Rattle.csn_judge.specs.Judging.{JudgeV, opened, Judges}
use Rattle.csn_judge.specs.Judging as judging
use Rattle.csn_fields.specs.Follower.{FollowerV, stands, credit, told_of, FollowsFor, FollowsOn, Says}
use Rattle.csn_fields.proofs.FollowerFacts.{feeds, says_so, both_pay}
use Rattle.csn_fields.proofs.follower.Follower.feed_to.Goals as goal

pub returns-clause-follows : goal.returns-clause-follows
returns-clause-follows g c =
    let ahead : JudgeV = c.self.inside.ahead in
    let judge : JudgeV = c.self.inside.judge in
    let ahead_on : JudgeV = c.feed-verdict.new.self in
    let judge_on : JudgeV = c.feed_to-going.new.self in
    let piece : List ℕ = bits_of_octets c.args.piece.now in
    let P : DescV → Type 0 = λ d. Judges (λ around made. Tells d g.T.Track.takes
    (opened judge) made around c.args.track.now c.feed_to-going.new.track) judge judge_on
    (take c.told_of-told.result piece) c.feed_to-going.result in
    let Q : FollowerV → Type 0 = λ f. (b : List ℕ) (moves : List Move) → FollowsFor f b moves
    → FollowsOn (λ around made. Tells f.desc g.T.Track.takes
    (opened f.judge) made around c.args.track.now c.feed_to-going.new.track) (stands ahead_on judge_on)
    (b ++ take c.args.bits piece) moves in
    subst Q c.self.view_is
    (feeds (λ around made. Tells ahead.desc g.T.Track.takes
    (opened judge) made around c.args.track.now c.feed_to-going.new.track) ahead ahead_on judge judge_on piece
    c.args.bits c.told_of-told.result c.self.inside.refused c.feed-verdict.result c.feed_to-going.result
    (c.feed_to-going.ensures.desc ∙ c.self.invariant.same_desc
    ∙ sym c.feed-verdict.ensures.desc) c.self.invariant.same_desc c.feed-verdict.ensures.desc
    c.self.invariant.refused_is (omega (arith, c.requires.within, length-bits_of_octets c.args.piece.now))
    (c.told_of-told.ensures.told ∙ ap (λ n. told_of c.self.inside.refused n c.args.bits c.feed-verdict.result) c.seen-before.ensures)
    c.feed-verdict.ensures.refused c.feed_to-going.ensures.refused c.feed-verdict.ensures.stays c.feed-verdict.ensures.judges
    (subst P c.self.invariant.same_desc c.feed_to-going.ensures.judges))

pub returns-clause-says : goal.returns-clause-says
returns-clause-says g c =
    let piece : List ℕ = bits_of_octets c.args.piece.now in
    let Q : FollowerV → Type 0 = λ f. (b : List ℕ) (moves : List Move) → FollowsFor f b moves → Says f.desc
    (b ++ take c.args.bits piece) c.feed-verdict.result in
    subst Q c.self.view_is
    (says_so c.self.inside.ahead c.feed-verdict.new.self c.self.inside.judge
    (take c.args.bits piece) c.feed-verdict.result c.feed-verdict.ensures.judges)

pub returns-clause-steps : goal.returns-clause-steps
returns-clause-steps g c =
    let nodes : ℕ = length c.self.inside.ahead.desc.nodes in
    let judged = subst (λ d. c.feed_to-going.new.steps + judging.credit c.feed_to-going.new.self
    ≤ c.feed-verdict.new.steps + judging.credit c.self.inside.judge + 8 * length d.nodes * c.told_of-told.result) c.self.invariant.same_desc
    c.feed_to-going.ensures.steps in
    subst (λ (f : FollowerV). c.feed_to-going.new.steps + credit (stands c.feed-verdict.new.self c.feed_to-going.new.self)
    ≤ c.args.steps.now + credit f + 16 * length f.desc.nodes * c.args.bits) c.self.view_is
    (both_pay nodes c.args.bits c.told_of-told.result c.args.steps.now c.feed-verdict.new.steps c.feed_to-going.new.steps
    (judging.credit c.self.inside.ahead) (judging.credit c.feed-verdict.new.self) (judging.credit c.self.inside.judge)
    (judging.credit c.feed_to-going.new.self) c.told_of-told.ensures.within c.feed-verdict.ensures.steps judged)
