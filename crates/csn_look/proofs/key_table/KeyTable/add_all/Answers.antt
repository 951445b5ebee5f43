use Rattle.std.proofs.Common.{ℕ, List, ◌∙◌, subst}
use Rattle.csn_look.specs.KeyTables.{IsKeyTable}
use Rattle.csn_look.proofs.Tables.Unpacked.{still_table, table_written, keys_written, marks_extend}
use Rattle.csn_look.proofs.key_table.KeyTable.add_all.Goals as goal

pub invariant_of-self : goal.invariant_of-self
invariant_of-self c = still_table _ _ _ c.self.invariant.0 c.unpack.ensures.same c.unpack.ensures.within

pub invariant_of-self-2 : goal.invariant_of-self-2
invariant_of-self-2 c =
    table_written _ _ _ _ _ _ c.in_ok-unpack.ensures.open c.unpack.ensures.same c.unpack.new.blocks.ok.0 c.deref_mut.ensures.value c.join_marks.auto.marks
    (marks_extend _ c.args.other.now _ (subst (λ (m : List ℕ). IsKeyTable m) c.other.view_is c.other.invariant.0) c.join_marks.auto.marks c.join_marks.ensures)
    c.self.invariant.0

pub returns-clause-added : goal.returns-clause-added
returns-clause-added c =
    keys_written _ _ _ _ _ _ c.in_ok-unpack.ensures.open (c.unpack.ensures.same ∙ c.self.view_is)
    c.unpack.new.blocks.ok.0 c.deref_mut.ensures.value c.join_marks.auto.marks
    (marks_extend _ c.args.other.now _ (subst (λ (m : List ℕ). IsKeyTable m) c.other.view_is c.other.invariant.0) c.join_marks.auto.marks c.join_marks.ensures)
