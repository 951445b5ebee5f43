use Rattle.csn_sample.specs.Covering.{IsUnmetWith}
use Rattle.csn_sample.proofs.covering.add_unset.Given as goal

abbrev pub invariant-loop-number : goal.invariant-loop-number
invariant-loop-number l = IsUnmetWith l.node l.number l.marks l.fn.unmet.items l.unmet.items
