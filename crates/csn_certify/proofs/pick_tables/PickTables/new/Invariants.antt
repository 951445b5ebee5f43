use Rattle.std.proofs.Common.{◌*◌}
use Rattle.csn_certify.specs.PickTables.{HaveTables}
use Rattle.csn_certify.proofs.pick_tables.PickTables.new.Given as goal

abbrev pub invariant-loop-node : goal.invariant-loop-node
invariant-loop-node l = HaveTables l.desc (8 * l.node) l.picks
