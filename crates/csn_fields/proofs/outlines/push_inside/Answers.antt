use Rattle.std.proofs.Common.{ap, sym, subst, ◌∙◌, arith}
use Rattle.std.specs.Prelude.{slice_get}
use Rattle.csn_desc.specs.Nodes.{parts_of}
use Rattle.csn_fields.specs.Outlines.{WithinNode}
use Rattle.csn_fields.proofs.OutlineFacts.{null_within, if_named, if_seq}
use Rattle.csn_fields.proofs.outlines.push_inside.Goals as goal

pub push_part-requires-clause-part : goal.push_part-requires-clause-part
push_part-requires-clause-part c = omega (arith, c.requires.parts 0 c.in-Named.part (ap (λ n. slice_get (parts_of n) 0) c.in-Named.is), c.requires.many)

pub push_parts-requires-clause-parts : goal.push_parts-requires-clause-parts
push_parts-requires-clause-parts c = λ j part get. c.requires.parts j part (ap (λ n. slice_get (parts_of n) j) c.in-Seq.is ∙ get)

pub returns-in-Named-clause-within : goal.returns-in-Named-clause-within
returns-in-Named-clause-within c =
    if_named c.push_part.result c.args.made.plan.now c.args.node.now c.in-Named.label c.in-Named.part
    c.args.made.outlines.now c.args.outline.now c.push_part.new.outline c.in-Named.is c.push_part.ensures

pub returns-in-Seq-clause-within : goal.returns-in-Seq-clause-within
returns-in-Seq-clause-within c =
    if_seq c.push_parts.result c.args.made.plan.now c.args.node.now c.in-Seq.parts
    c.args.made.outlines.now c.args.outline.now c.push_parts.new.outline c.in-Seq.is c.push_parts.ensures

pub returns-in-Null-clause-within : goal.returns-in-Null-clause-within
returns-in-Null-clause-within c = λ yes.
    subst (λ n. WithinNode c.args.made.plan.now n c.args.made.outlines.now c.args.outline.now c.args.outline.now) (sym c.in-Null.is)
    (null_within c.args.made.plan.now c.args.made.outlines.now c.args.outline.now)
