use Rattle.std.proofs.Common.{◌≡◌, ◌≤◌, List, ℕ, [], length, take, ap, sym, subst, arith, ◌∙◌}
use Rattle.std.proofs.Math.Seq.{take-length}
use Rattle.csn_desc.specs.Nodes.{DescV}
use Rattle.csn_desc.specs.Formed.{IsDescription}
use Rattle.csn_certify.specs.Plans.{HasOneTree}
use Rattle.csn_judge.specs.declared.fed.Fed.TheVariants.{Going}
use Rattle.csn_movetext.specs.Openings.{HasOpenings}
use Rattle.csn_movetext.specs.Track.{TrackV}
use Rattle.csn_movetext.specs.Blocks.{stands, nothing, WritesFor}
use Rattle.csn_movetext.proofs.BlockFacts.{writes_none}
use Rattle.csn_movetext.proofs.block.BlockText.new.Goals as goal

pub invariant_of-result : goal.invariant_of-result
invariant_of-result c =
    let D : DescV → Type 0 = λ d. IsDescription d in
    let H : DescV → Type 0 = λ d. HasOneTree d in
    let O : DescV → Type 0 = λ d. HasOpenings d c.new-2.result.openings in
    let T : TrackV → Type 0 = λ t. HasOpenings c.args.plan.now t.openings in
    let S : TrackV → Type 0 = λ t. c.len-start.result ≤ length t.kept.text in
    record {
      description = subst D (sym c.new.ensures.desc) c.len-count.ensures.description;
      one_tree = subst H (sym c.new.ensures.desc) c.len-count.ensures.one_tree;
      answer_is = c.new.ensures.refused;
      judges = ([], [], c.new.ensures.judges);
      few = omega (arith, c.new.ensures.seen);
      openings = subst O (sym c.new.ensures.desc) (subst T (sym c.new-2.ensures) c.requires);
      started = subst S (sym c.new-2.ensures) (omega (arith, c.len-start.ensures, c.args.out.ok));
    }

pub returns-clause-writes : goal.returns-clause-writes
returns-clause-writes c =
    let out : List ℕ = c.args.out.items in
    let size : c.len-start.result ≡ length out = omega (arith, c.len-start.ensures, c.args.out.ok) in
    let whole : take c.len-start.result out ≡ out = ap (λ n. take n out) size ∙ take-length out in
    let P : TrackV → Type 0 = λ t. WritesFor (stands c.new.result t Going (take c.len-start.result t.kept.text)) [] in
    let Q : List ℕ → Type 0 = λ l. WritesFor (stands c.new.result (nothing c.args.openings.now out) Going l) [] in
    subst P (sym c.new-2.ensures) (subst Q (sym whole) (writes_none c.new.result c.args.openings.now out c.new.ensures.judges c.new.ensures.opened))
