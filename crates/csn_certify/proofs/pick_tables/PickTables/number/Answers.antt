use Rattle.std.proofs.Common.{◌≡◌, ℕ, length, arith, slice_get, Some}
use Rattle.std.proofs.lemmas.Result.{IfOk-weaker}
use Rattle.csn_desc.specs.declared.node.Node.TheVariants.{Choice}
use Rattle.csn_look.proofs.Handing.ReachedParts.{parts_below}
use Rattle.std.proofs.lemmas.Option.{slice_get_within}
use Rattle.csn_certify.specs.PickTables.{PickTableV, IsTableOf, HasNumber}
use Rattle.csn_certify.proofs.PickBlocks.{kept_tells}
use Rattle.csn_certify.proofs.OnePick.{one_key}
use Rattle.csn_certify.proofs.pick_tables.PickTables.number.Goals as goal

pub table-requires-clause-below : goal.table-requires-clause-below
table-requires-clause-below c =
    let d = c.args.known.now.desc.now in
    let inside = slice_get_within d.nodes c.args.node (Choice c.args.parts.now) c.requires.choice in
    parts_below d c.args.node (Choice c.args.parts.now) (length d.nodes) c.requires.known.description c.requires.choice (omega arith)

pub returns-clause-number : goal.returns-clause-number
returns-clause-number c =
    let d = c.args.known.now.desc.now in
    let parts = c.args.parts.now in
    let filled = c.in_ok-table.field-0 in
    IfOk-weaker c.keep.result (λ (number : ℕ). (t : PickTableV) × (slice_get c.keep.new.self.tables number ≡ Some t)
    × IsTableOf filled t) (λ (number : ℕ). HasNumber d parts c.args.octet c.keep.new.self.tables number)
    (λ number h. (h.0, h.1, kept_tells d parts c.args.octet filled h.0 c.in_ok-table.ensures h.2))
    c.keep.ensures.number

pub table-requires-clause-apart : goal.table-requires-clause-apart
table-requires-clause-apart c = λ held j k a b. one_key c.args.known.now.desc.now 12 c.requires.certified c.requires.choice c.requires.reached a b
