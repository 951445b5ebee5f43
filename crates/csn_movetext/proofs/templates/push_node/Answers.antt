use Rattle.std.proofs.Common.{ap, ◌∙◌, arith}
use Rattle.std.specs.Prelude.{slice_get}
use Rattle.csn_desc.specs.Nodes.{parts_of}
use Rattle.csn_movetext.proofs.TemplateFacts.{if_leaf, if_named, if_seq, lits_written, null_written}
use Rattle.csn_movetext.proofs.templates.push_node.Goals as goal

pub push_part-requires-clause-part : goal.push_part-requires-clause-part
push_part-requires-clause-part c = omega (arith, c.requires.parts 0 c.in-Named.part (ap (λ n. slice_get (parts_of n) 0) c.in-Named.is), c.requires.many)

pub push_parts-requires-clause-parts : goal.push_parts-requires-clause-parts
push_parts-requires-clause-parts c = λ j part get. c.requires.parts j part (ap (λ n. slice_get (parts_of n) j) c.in-Seq.is ∙ get)

pub returns-in-Named : goal.returns-in-Named
returns-in-Named c =
    if_named c.push_part.result c.args.made.plan.now c.args.node.now c.in-Named.label c.in-Named.part c.args.width
    c.args.made.templates.now c.args.template.now c.push_part.new.template c.in-Named.is c.push_part.ensures
