use Rattle.csn_fields.proofs.NumberFacts.{parts_within}
use Rattle.csn_fields.proofs.OutlineFacts.{is_outline}
use Rattle.csn_fields.proofs.outlines.outline_of.Goals as goal

pub push_node-requires-clause-parts : goal.push_node-requires-clause-parts
push_node-requires-clause-parts g c =
    λ j part get. parts_within c.args.plan.now c.args.i j part c.node-node.result.now c.len-count.ensures.description
    c.node-node.ensures.node get

pub returns-then-branch : goal.returns-then-branch
returns-then-branch g c =
    is_outline c.args.plan.now c.args.i c.node-node.result.now c.in-Some.layout c.args.outlines.now c.push_node.new.outline
    c.node-node.ensures.node c.in-Some.ensures c.requires.outlines (c.in_ok-push_node.ensures c.if-branch.true)
