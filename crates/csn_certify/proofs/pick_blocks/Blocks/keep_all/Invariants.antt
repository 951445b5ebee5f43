use Rattle.std.proofs.Common.{◌≡◌, ◌++◌, List}
use Rattle.csn_certify.specs.declared.pick_table.Entry.{Entry}
use Rattle.csn_certify.specs.PickTables.{AreFirstBlocks}
use Rattle.csn_certify.proofs.pick_blocks.Blocks.keep_all.Given as goal

abbrev pub invariant-loop-at : goal.invariant-loop-at
invariant-loop-at l =
    AreFirstBlocks l.entries l.at l.index.items l.self × ((more : List (List Entry)) × (l.self ≡ l.initial.self ++ more))
