use Rattle.std.proofs.Common.{sym, ap, ◌∙◌, subst}
use Rattle.csn_treetext.specs.reader.Machine.{HasRoom, is_in_row, with_tree}
use Rattle.csn_treetext.proofs.Rooms.{room_inside, no_row}
use Rattle.csn_treetext.proofs.closing.with_tree.Goals as goal

pub around-requires : goal.around-requires
around-requires c = no_row c.in-Some.frame c.pop.new.self (sym (ap is_in_row c.in-Some.ensures) ∙ sym c.is_in_row.ensures ∙ c.loop-alloc-test.true)

pub loop-alloc-preserved : goal.loop-alloc-preserved
loop-alloc-preserved c = (
  sym (c.in_ok-tree-in-Some.ensures c.pop.new.self) ∙ ap (λ s. with_tree s c.loop-alloc.tree) (sym c.in-Some.ensures) ∙ c.loop-alloc.invariant.0,
  room_inside c.in-Some.frame c.pop.new.self (subst HasRoom c.in-Some.ensures c.loop-alloc.invariant.1),
)
