use Rattle.std.proofs.Common.{sym, ◌∙◌}
use Rattle.csn_look.proofs.Tables.Unpacked.{still_table, table_written, keys_written, key_extends}
use Rattle.csn_look.proofs.key_table.KeyTable.add.Goals as goal

pub invariant_of-self : goal.invariant_of-self
invariant_of-self c = still_table _ _ _ c.self.invariant.0 c.unpack.ensures.same c.unpack.ensures.within

pub invariant_of-self-2 : goal.invariant_of-self-2
invariant_of-self-2 c =
    table_written _ _ _ _ _ _ c.in_ok-unpack.ensures.open c.unpack.ensures.same c.unpack.new.blocks.ok.0 c.deref_mut.ensures.value c.add_key.auto.marks
    (key_extends _ _ c.args.word.now c.args.whole c.place.ensures.word c.add_key.auto.marks
    (c.add_key.ensures c.args.word.now c.place.ensures.word (sym c.place.ensures.value)))
    c.self.invariant.0

pub returns-clause-added : goal.returns-clause-added
returns-clause-added c =
    keys_written _ _ _ _ _ _ c.in_ok-unpack.ensures.open (c.unpack.ensures.same ∙ c.self.view_is)
    c.unpack.new.blocks.ok.0 c.deref_mut.ensures.value c.add_key.auto.marks
    (key_extends _ _ c.args.word.now c.args.whole c.place.ensures.word c.add_key.auto.marks
    (c.add_key.ensures c.args.word.now c.place.ensures.word (sym c.place.ensures.value)))
