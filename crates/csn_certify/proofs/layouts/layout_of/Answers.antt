use Rattle.std.proofs.Common.{ℕ, length, refl, sym, ap, ◌∙◌, subst, arith, Some, None}
use Rattle.std.specs.Prelude.{slice_index_or}
use Rattle.std.proofs.lemmas.Option.{IfSome_then}
use Rattle.csn_desc.specs.declared.node.Node.TheVariants.{Lits, Null, Field, Seq, Named}
use Rattle.csn_look.proofs.Handing.ReachedParts.{parts_below}
use Rattle.csn_certify.specs.Layouts.{HasLayout}
use Rattle.csn_certify.proofs.LayoutNumbers.{node_layout, named_layout, seq_layout, layout_at}
use Rattle.csn_certify.proofs.layouts.layout_of.Goals as goal

pub sequence-requires-clause-nodes : goal.sequence-requires-clause-nodes
sequence-requires-clause-nodes c =
    let many = c.requires.layouts.many in
    parts_below c.args.desc.now c.args.i (Seq c.in-Seq.parts) (length c.args.layouts.now) c.requires.description
    (c.node.ensures ∙ ap (λ n. Some n) c.in-Seq.is) (omega (arith, many))

pub bounds-layouts-from : goal.bounds-layouts-from
bounds-layouts-from c =
    let many = c.requires.layouts.many in
    let part = c.in-Named.part in
    let below = parts_below c.args.desc.now c.args.i (Named c.in-Named.label part) (length c.args.layouts.now)
    c.requires.description (c.node.ensures ∙ ap (λ n. Some n) c.in-Named.is) (omega (arith, many)) 0 part refl in
    omega (arith, below, c.from.ensures)

pub returns-in-Lits : goal.returns-in-Lits
returns-in-Lits c =
    let d = c.args.desc.now in
    IfSome_then c.literal.result c.literal.ensures
    (λ layout h. node_layout d c.args.i (Lits c.in-Lits.run') layout (c.node.ensures ∙ ap (λ n. Some n) c.in-Lits.is)
    (sym c.counts.ensures ∙ c.if-counts.false) (h d))

pub returns-in-Null : goal.returns-in-Null
returns-in-Null c =
    let d = c.args.desc.now in
    node_layout d c.args.i Null c.empty.result (c.node.ensures ∙ ap (λ n. Some n) c.in-Null.is)
    (sym c.counts.ensures ∙ c.if-counts.false) (c.empty.ensures.null d)

pub returns-in-Field : goal.returns-in-Field
returns-in-Field c =
    let d = c.args.desc.now in
    IfSome_then c.field.result c.field.ensures
    (λ layout h. node_layout d c.args.i (Field c.in-Field.unit c.in-Field.count) layout
    (c.node.ensures ∙ ap (λ n. Some n) c.in-Field.is) (sym c.counts.ensures ∙ c.if-counts.false) (h d))

pub returns-in-Seq : goal.returns-in-Seq
returns-in-Seq c =
    let d = c.args.desc.now in
    let parts = c.in-Seq.parts in
    IfSome_then c.sequence.result c.sequence.ensures
    (λ layout h. node_layout d c.args.i (Seq parts) layout (c.node.ensures ∙ ap (λ n. Some n) c.in-Seq.is)
    (sym c.counts.ensures ∙ c.if-counts.false) (seq_layout d parts layout (h d c.requires.layouts)))

pub returns-in-Named : goal.returns-in-Named
returns-in-Named c =
    let d = c.args.desc.now in
    let many = c.requires.layouts.many in
    let part = c.in-Named.part in
    let label = c.in-Named.label in
    let at = c.node.ensures ∙ ap (λ n. Some n) c.in-Named.is in
    let below = parts_below d c.args.i (Named label part) (length c.args.layouts.now) c.requires.description at (omega (arith, many)) 0 part refl in
    IfSome_then (slice_index_or c.args.layouts.now c.from.result None)
    (layout_at d c.args.layouts.now c.from.result c.requires.layouts (omega (arith, below, c.from.ensures)))
    (λ layout h.
    let P : ℕ → Type 0 = λ i. HasLayout d i layout in
    node_layout d c.args.i (Named label part) layout at (sym c.counts.ensures ∙ c.if-counts.false)
    (named_layout d label part layout (subst P c.from.ensures h)))
