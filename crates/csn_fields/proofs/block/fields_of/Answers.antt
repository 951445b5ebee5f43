use Rattle.std.proofs.Common.{sym, subst, Bool, List}
use Rattle.csn_fields.specs.declared.leaf.Leaf.{Leaf}
use Rattle.csn_fields.specs.Events.{Told}
use Rattle.csn_fields.specs.Lists.{LeavesV, Lists, AreLeaves}
use Rattle.csn_fields.proofs.ListFacts.{are_leaves}
use Rattle.csn_fields.proofs.block.fields_of.Goals as goal

pub returns : goal.returns
returns c =
    let told = c.tell_block-list.ensures in
    let P : LeavesV → Type 0 = λ s. Told Lists told.more s c.tell_block-list.result.0 in
    let are = are_leaves told.more c.tell_block-list.result.0 (subst P c.new.ensures told.told) in
    let Q : Bool → Type 0 = λ b. AreLeaves told.more c.tell_block-list.result.0.leaves b in
    let R : List Leaf → Type 0 = λ l. AreLeaves told.more l c.is_short-short.result in
    (told.more, told.ends, subst R (sym c.into_leaves.ensures) (subst Q (sym c.is_short-short.ensures) are))
