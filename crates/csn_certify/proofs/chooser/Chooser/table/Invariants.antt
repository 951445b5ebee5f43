use Rattle.csn_certify.specs.PickTables.{HasEntries}
use Rattle.csn_certify.proofs.ChooserFacts.{AllTell, NonesTold}
use Rattle.csn_certify.proofs.chooser.Chooser.table.Given as goal

abbrev pub invariant-loop-j : goal.invariant-loop-j
invariant-loop-j l = HasEntries l.width l.entries.items
    × AllTell l.self.desc.now l.self.parts.now l.self.octet l.j l.none l.width l.entries.items
    × NonesTold l.self.desc.now l.self.parts.now l.self.octet l.j l.none
