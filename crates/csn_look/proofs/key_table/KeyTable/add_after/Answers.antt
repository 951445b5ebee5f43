use Rattle.std.proofs.Common.{◌∙◌}
use Rattle.csn_look.proofs.Tables.Unpacked.{still_table, table_written, keys_written}
use Rattle.csn_look.proofs.key_table.KeyTable.add_after.Goals as goal

pub invariant_of-self : goal.invariant_of-self
invariant_of-self c = still_table _ _ _ c.self.invariant.0 c.unpack.ensures.same c.unpack.ensures.within

pub invariant_of-self-2 : goal.invariant_of-self-2
invariant_of-self-2 c =
    table_written _ _ _ _ _ _ c.in_ok-unpack.ensures.open c.unpack.ensures.same c.unpack.new.blocks.ok.0
    c.deref_mut.ensures.value c.add_after.auto.marks c.add_after.ensures c.self.invariant.0

pub returns-clause-added : goal.returns-clause-added
returns-clause-added c =
    keys_written _ _ _ _ _ _ c.in_ok-unpack.ensures.open (c.unpack.ensures.same ∙ c.self.view_is)
    c.unpack.new.blocks.ok.0 c.deref_mut.ensures.value c.add_after.auto.marks c.add_after.ensures
