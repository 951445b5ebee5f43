-- The types of a rule may cross threads.
use denote.Param.Send.{IsSend, sendable}
use Rattle.std.proofs.Crossing.{crosses}
use Rattle.csn_desc.specs.contracts.run.Run as run
use Rattle.csn_desc.specs.contracts.parts.Parts as parts
use Rattle.csn_desc.specs.contracts.label.Label as label
use Rattle.csn_desc.specs.contracts.node.Node as node
use Rattle.csn_desc.specs.contracts.desc.Desc as desc
use Rattle.csn_look.specs.contracts.key_table.KeyTable as key_table
use Rattle.csn_look.specs.contracts.key_tables.KeyTables as key_tables
use Rattle.csn_look.specs.contracts.look.Look as look
use Rattle.csn_look.specs.contracts.reach.Reach as reach
use Rattle.csn_certify.specs.contracts.pick_blocks.Block as block
use Rattle.csn_certify.specs.contracts.pick_blocks.Blocks as blocks
use Rattle.csn_certify.specs.contracts.pick_table.KeptTable as kept_table
use Rattle.csn_certify.specs.contracts.pick_tables.PickTables as pick_tables
use Rattle.csn_certify.specs.contracts.plan.Plan as plan
use Rattle.csn_movetext.specs.contracts.openings.Openings as openings
use Rattle.csn_fields.specs.contracts.outline.Mark as mark
use Rattle.csn_fields.specs.contracts.outline.Outline as outline
use Rattle.csn_fields.specs.contracts.alternatives.Alternatives as alternatives
use Rattle.csn_rule.specs.contracts.event.FlatEvent as event
use Rattle.csn_rule.specs.contracts.rule.Rule as rule

run_send : IsSend run.the_row
run_send = search (crosses, sendable) depth 20

parts_send : IsSend parts.the_row
parts_send = search (crosses, sendable) depth 20

label_send : IsSend label.the_row
label_send = search (crosses, sendable) depth 20

node_send : IsSend node.the_row
node_send = search (crosses, sendable, run_send, parts_send, label_send) depth 120

key_table_send : IsSend key_table.the_row
key_table_send = search (crosses, sendable) depth 20

key_tables_send : IsSend key_tables.the_row
key_tables_send = search (crosses, sendable, key_table_send) depth 60

openings_send : IsSend openings.the_row
openings_send = search (crosses, sendable) depth 60

desc_send : IsSend desc.the_row
desc_send = search (crosses, sendable, node_send) depth 60

look_send : IsSend look.the_row
look_send = search (crosses, sendable, key_tables_send) depth 60

reach_send : IsSend reach.the_row
reach_send = search (crosses, sendable) depth 40

block_send : IsSend block.the_row
block_send = search (crosses, sendable) depth 40

blocks_send : IsSend blocks.the_row
blocks_send = search (crosses, sendable, block_send) depth 60

kept_table_send : IsSend kept_table.the_row
kept_table_send = search (crosses, sendable) depth 60

pick_tables_send : IsSend pick_tables.the_row
pick_tables_send = search (crosses, sendable, blocks_send, kept_table_send) depth 60

plan_send : IsSend plan.the_row
plan_send = search (crosses, sendable, desc_send, look_send, reach_send, pick_tables_send) depth 60

mark_send : IsSend mark.the_row
mark_send = search (crosses, sendable) depth 40

outline_send : IsSend outline.the_row
outline_send = search (crosses, sendable, mark_send) depth 40

alternatives_send : IsSend alternatives.the_row
alternatives_send = search (crosses, sendable, outline_send) depth 60

event_send : IsSend event.the_row
event_send = search (crosses, sendable) depth 40

pub rule_send : IsSend rule.the_row
rule_send = search (crosses, sendable, plan_send, openings_send, alternatives_send, event_send) depth 60
