use Rattle.std.proofs.Common.{◌∙◌, List, ℕ, arith}
use Rattle.csn_desc.specs.TreeV.{TreeV}
use Rattle.csn_treetext.specs.declared.version.Version.TheVariants.{Second}
use Rattle.csn_treetext.proofs.Rows.{member_size, wrote_on, have_next}
use Rattle.csn_treetext.proofs.write.+write.Goals as goal

pub push_row-push_tree-requires : goal.push_row-push_tree-requires
push_row-push_tree-requires t c = (omega (arith, member_size c.args.rows.now c.loop-at.at c.get.result.now c.get.ensures, c.decreases), tt)

pub push_row-loop-at-preserved : goal.push_row-loop-at-preserved
push_row-loop-at-preserved t c =
    let tree : TreeV = c.get.result.now in
    let before : List ℕ = c.args.out.now.items in
    let gap = c.in_ok-push_gap.ensures in (
      c.in_ok-push_tree.ensures.text
          ∙ wrote_on Second c.loop-at.out.items c.push_gap.new.out.items before c.args.rows.now c.loop-at.at tree
          c.get.ensures gap.first gap.later c.loop-at.invariant.0,
      have_next c.args.rows.now c.loop-at.at tree c.get.ensures c.loop-at.invariant.1 c.in_ok-push_tree.ensures.parts,
    )
