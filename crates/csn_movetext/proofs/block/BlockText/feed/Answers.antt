use Rattle.std.proofs.Common.{◌≡◌, ℕ, List, take, sym, subst, ap, ◌∙◌, arith}
use Rattle.csn_bits.specs.Octets.{bits_of_octets}
use Rattle.csn_desc.specs.Nodes.{DescV}
use Rattle.csn_desc.specs.Formed.{IsDescription}
use Rattle.csn_certify.specs.Plans.{HasOneTree}
use Rattle.csn_judge.specs.declared.fed.Fed.{Fed}
use Rattle.csn_judge.specs.declared.fed.Fed.TheVariants.{Going}
use Rattle.csn_judge.specs.Following.{IsAnswer}
use Rattle.csn_judge.proofs.FollowingFacts.{feeds_still, answer_is, going_no_more}
use Rattle.csn_movetext.specs.Openings.{OpeningsV, HasOpenings}
use Rattle.csn_movetext.specs.Blocks.{BlockV, stands, IsTold, JudgesSome, Continues}
use Rattle.csn_movetext.proofs.BlockFacts.{Begun, begun, Stays, feed_stays, feed_judges, same_front, longer, feeds}
use Rattle.csn_movetext.proofs.block.BlockText.feed.Given.{Over}
use Rattle.csn_movetext.proofs.block.BlockText.feed.Goals.{After-is_refused}
use Rattle.csn_movetext.proofs.block.BlockText.feed.Goals as goal

-- the judge has been fed, which had refused nothing
module _ (g : Over) (c : After-is_refused g) where
  abbrev more : List ℕ
  more = take c.args.bits (bits_of_octets c.args.piece.now)

  before : Begun c.self.inside.answer c.self.inside.judge
  before = begun c.self.inside.answer c.self.inside.judge c.is_going.result c.is_going.ensures c.if-not-is_going.false
      c.self.invariant.answer_is c.self.invariant.judges

  stays : Stays c.self.inside.track c.feed_to-verdict.new.track
  stays =
      feed_stays c.self.inside.judge c.feed_to-verdict.new.self c.self.inside.track c.feed_to-verdict.new.track more c.feed_to-verdict.result
      before.none before.judges c.feed_to-verdict.ensures.judges

  same : take c.self.inside.start c.feed_to-verdict.new.track.kept.text ≡ take c.self.inside.start c.self.inside.track.kept.text
  same = same_front c.self.inside.start c.self.inside.track.kept.text c.feed_to-verdict.new.track.kept.text c.self.invariant.started stays.more

pub returns-then-not-is_going-clause-writes : goal.returns-then-not-is_going-clause-writes
returns-then-not-is_going-clause-writes g c =
    let w : BlockV = c.args.self.now in
    feeds_still w.desc w.answer w.judge (IsTold w) c.prefixes_are_followed.ensures (take c.args.bits (bits_of_octets c.args.piece.now)) c.self.inside.answer
    (sym (ap (λ (b : BlockV). b.answer) c.self.view_is)) (going_no_more c.self.inside.answer c.is_going.result c.is_going.ensures c.if-not-is_going.true)

pub invariant_of-self : goal.invariant_of-self
invariant_of-self g c =
    let fed = (goal.at.invariant_of-self g c).After-is_refused in
    let judged = c.feed_to-verdict.ensures in
    let now = c.feed_to-verdict.new in
    let was = c.self.invariant in
    let old = before g fed in
    let kept = stays g fed in
    let seen_is : c.self.inside.judge.seen ≡ c.args.self.now.seen = ap (λ (b : BlockV). b.seen) c.self.view_is in
    let O : DescV → Type 0 = λ d. HasOpenings d now.track.openings in
    let T : OpeningsV → Type 0 = λ l. HasOpenings c.self.inside.judge.desc l in
    let N : Fed → Type 0 = λ a. IsAnswer a now.self in
    let M : Fed → Type 0 = λ a. JudgesSome a now.self in
    record {
      description = subst IsDescription (sym judged.desc) was.description;
      one_tree = subst HasOneTree (sym judged.desc) was.one_tree;
      answer_is = subst N (sym c.of-self-inside.ensures) (answer_is c.feed_to-verdict.result c.is_refused.result now.self judged.refused);
      judges =
          subst M (sym c.of-self-inside.ensures)
          (feed_judges c.self.inside.judge now.self c.self.inside.track now.track (more g fed)
          c.feed_to-verdict.result c.is_refused.result old.judges judged.judges);
      few = omega (arith, judged.seen old.none, c.requires.few, seen_is);
      openings = subst O (sym judged.desc) (subst T (sym kept.same) was.openings);
      started = longer c.self.inside.start c.self.inside.track.kept.text now.track.kept.text was.started kept.more;
    }

pub returns-clause-writes : goal.returns-clause-writes
returns-clause-writes g c =
    let fed = (goal.at.returns-clause-writes g c).After-is_refused in
    let old = c.self.inside in
    let now = c.feed_to-verdict.new in
    let answer : Fed = c.of-self-inside.result in
    let front : List ℕ = take old.start old.track.kept.text in
    let P : Fed → Type 0 = λ a. Continues (stands old.judge old.track Going front) (stands now.self now.track a front) (more g fed) a in
    let F : List ℕ → Type 0 = λ f. Continues (stands old.judge old.track Going front) (stands now.self now.track answer f) (more g fed) answer in
    let Q : BlockV → Type 0 = λ d. Continues d (stands now.self now.track answer (take old.start now.track.kept.text)) (more g fed) answer in
    subst Q (ap (λ a. stands old.judge old.track a front) (sym (before g fed).going) ∙ c.self.view_is)
    (subst F (sym (same g fed))
    (subst P (sym c.of-self-inside.ensures)
    (feeds old.judge now.self old.track now.track front (more g fed) c.feed_to-verdict.result c.is_refused.result
    c.feed_to-verdict.ensures.desc (stays g fed).same
    (before g fed).none c.feed_to-verdict.ensures.judges)))

pub returns-clause-before : goal.returns-clause-before
returns-clause-before g c = same g (goal.at.returns-clause-before g c).After-is_refused ∙ ap (λ (b : BlockV). b.before) c.self.view_is

pub returns-clause-form : goal.returns-clause-form
returns-clause-form g c =
    ap (λ (t : OpeningsV). t.form) (stays g (goal.at.returns-clause-form g c).After-is_refused).same ∙ ap (λ (b : BlockV). b.form) c.self.view_is
