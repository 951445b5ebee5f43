use Rattle.std.proofs.Common.{◌+◌, ◌*◌}
use Rattle.csn_certify.specs.PickTables.{HaveTables}
use Rattle.csn_certify.proofs.pick_tables.PickTables.add_choice.Given as goal

abbrev pub invariant-loop-octet : goal.invariant-loop-octet
invariant-loop-octet l = HaveTables l.known.desc.now (8 * l.node + l.octet) l.self
