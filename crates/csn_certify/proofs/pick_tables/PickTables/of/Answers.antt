use Rattle.std.proofs.Common.{◌∙◌, sym, ap, arith, length, slice_get, Some, refl}
use Rattle.std.proofs.lemmas.List.{length-map}
use Rattle.std.proofs.lemmas.Option.{slice_get_read}
use Rattle.csn_certify.specs.PickTables.{table_in}
use Rattle.csn_certify.proofs.PickBlocks.{read_table}
use Rattle.csn_certify.proofs.pick_tables.PickTables.of.Goals as goal

pub new-requires : goal.new-requires
new-requires c =
    let size = ap (λ v. length v.tables) c.self.view_is in
    let mapped = length-map c.self.inside.tables.items (table_in c.self.inside.blocks) in
    c.self.invariant c.args.number c.index.result.now (slice_get_read c.self.inside.tables.items
    (length c.self.inside.tables.items) c.args.number c.index.result.now refl
    (omega (arith, c.requires, size, mapped)) c.index.ensures)

pub returns : goal.returns
returns c =
    let size = ap (λ v. length v.tables) c.self.view_is in
    let mapped = length-map c.self.inside.tables.items (table_in c.self.inside.blocks) in
    let there = slice_get_read c.self.inside.tables.items (length c.self.inside.tables.items)
    c.args.number c.index.result.now refl (omega (arith, c.requires, size, mapped)) c.index.ensures in
    ap (λ v. slice_get v.tables c.args.number) (sym c.self.view_is)
    ∙ read_table c.self.inside.blocks c.self.inside.tables.items c.args.number c.index.result.now there
    ∙ ap Some (sym c.new.ensures)
