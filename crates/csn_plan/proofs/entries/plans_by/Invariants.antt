use Rattle.std.proofs.Common.{take}
use Rattle.csn_catalogue.specs.Entries.{all_entries}
use Rattle.csn_plan.specs.Compiled.{AreCompiled}
use Rattle.csn_plan.proofs.entries.plans_by.Given as goal

abbrev pub invariant-loop-entry : goal.invariant-loop-entry
invariant-loop-entry l = AreCompiled l.rules l.reading (take l.entry-index all_entries) l.plans.items
