use Rattle.std.proofs.Common.{ℕ, List, [], take, sym, subst, ap, ◌∙◌, arith}
use Rattle.csn_desc.specs.Nodes.{DescV}
use Rattle.csn_desc.specs.Formed.{IsDescription}
use Rattle.csn_certify.specs.Plans.{HasOneTree}
use Rattle.csn_movetext.specs.Openings.{OpeningsV, HasOpenings}
use Rattle.csn_movetext.specs.Blocks.{BlockV, stands}
use Rattle.csn_movetext.proofs.BlockFacts.{Stays, EndsAs, end_stays, ends_as, ends_ok, ends_err, same_front, longer}
use Rattle.csn_movetext.proofs.block.BlockText.end.Given.{Over}
use Rattle.csn_movetext.proofs.block.BlockText.end.Goals.{After-outcome-ended}
use Rattle.csn_movetext.proofs.block.BlockText.end.Goals as goal

-- the judge was told of the end
module _ (g : Over) (c : After-outcome-ended g) where
  stays : Stays c.self.inside.track c.next_block_to-judged.new.track
  stays =
      end_stays c.self.inside.answer c.self.inside.judge c.self.inside.track c.next_block_to-judged.new.track c.next_block_to-judged.result
      c.self.invariant.answer_is c.self.invariant.judges c.next_block_to-judged.ensures.stays c.next_block_to-judged.ensures.ends

  ends : EndsAs c.args.self.now c.outcome-ended.result c.next_block_to-judged.new.track.kept.text
  ends =
      let old = c.self.inside in
      let is = c.self.invariant in
      let after = c.next_block_to-judged.new.track in
      let front : List ℕ = take old.start old.track.kept.text in
      let W : BlockV → Type 0 = λ w. EndsAs w c.outcome-ended.result after.kept.text in
      subst W c.self.view_is
      (subst (λ r. EndsAs (stands old.judge old.track old.answer front) r after.kept.text) (sym c.outcome-ended.ensures)
      (ends_as old.judge old.track after front old.answer c.next_block_to-judged.result c.is_refused.result
      c.strings_are_followed.ensures c.texts_are_joined.ensures c.meanings_are_bits.ensures.meant
      is.description is.one_tree is.openings is.answer_is is.few c.is_refused.ensures c.next_block_to-judged.ensures.ends))

pub invariant_of-self : goal.invariant_of-self
invariant_of-self g c =
    let kept = stays g (goal.at.invariant_of-self g c).After-outcome-ended in
    let judged = c.next_block_to-judged.ensures in
    let now = c.next_block_to-judged.new in
    let was = c.self.invariant in
    let O : DescV → Type 0 = λ d. HasOpenings d now.track.openings in
    let T : OpeningsV → Type 0 = λ l. HasOpenings c.self.inside.judge.desc l in
    record {
      description = subst IsDescription (sym judged.desc) was.description;
      one_tree = subst HasOneTree (sym judged.desc) was.one_tree;
      answer_is = judged.refused;
      judges = ([], [], judged.judges);
      few = omega (arith, judged.seen);
      openings = subst O (sym judged.desc) (subst T (sym kept.same) was.openings);
      started = longer c.self.inside.start c.self.inside.track.kept.text now.track.kept.text was.started kept.more;
    }

pub returns-clause-text : goal.returns-clause-text
returns-clause-text g c =
    ends_ok c.args.self.now c.outcome-ended.result c.next_block_to-judged.new.track.kept.text (ends g (goal.at.returns-clause-text g c).After-outcome-ended)

pub returns-clause-why : goal.returns-clause-why
returns-clause-why g c =
    ends_err c.args.self.now c.outcome-ended.result c.next_block_to-judged.new.track.kept.text (ends g (goal.at.returns-clause-why g c).After-outcome-ended)

pub returns-clause-before : goal.returns-clause-before
returns-clause-before g c =
    let kept = stays g (goal.at.returns-clause-before g c).After-outcome-ended in
    same_front c.self.inside.start c.self.inside.track.kept.text c.next_block_to-judged.new.track.kept.text c.self.invariant.started kept.more
    ∙ ap (λ (b : BlockV). b.before) c.self.view_is

pub returns-clause-form : goal.returns-clause-form
returns-clause-form g c =
    ap (λ (t : OpeningsV). t.form) (stays g (goal.at.returns-clause-form g c).After-outcome-ended).same ∙ ap (λ (b : BlockV). b.form) c.self.view_is
