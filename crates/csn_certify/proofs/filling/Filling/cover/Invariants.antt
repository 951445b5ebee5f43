use Rattle.csn_look.specs.KeyMarks.{place_of}
use Rattle.csn_certify.specs.declared.pick_table.Entry.TheVariants.{Take}
use Rattle.csn_certify.specs.PickTables.{HasEntries}
use Rattle.csn_certify.proofs.Covering.{Covered}
use Rattle.csn_certify.proofs.filling.Filling.cover.Given as goal

abbrev pub invariant-loop-more : goal.invariant-loop-more
invariant-loop-more l =
    HasEntries l.self.width l.entries × Covered (place_of l.word) l.more (Take l.bits l.self.alternative) l.initial.entries l.entries
