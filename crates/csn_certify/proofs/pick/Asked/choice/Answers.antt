use Rattle.std.proofs.Common.{◌∙◌, sym, arith, refl}
use Rattle.csn_certify.specs.declared.pick_table.Entry.TheVariants.{Refuse, Wait, Take}
use Rattle.csn_certify.specs.Picks.{pick_key}
use Rattle.csn_certify.proofs.TableFacts.{told}
use Rattle.csn_certify.proofs.pick.Asked.choice.Goals as goal

pub returns-then-bits-len : goal.returns-then-bits-len
returns-then-bits-len c =
    let d = c.args.self.now.desc.now in
    let tells = told d c.args.self.now.picks.now c.args.node c.args.self.now.octet c.requires.choice.0
    c.args.self.now.held.now c.table-table.result c.table-table.result.none
    (Take c.in-Take.bits c.in-Take.alternative) c.requires.ready.plan.picks c.requires.node
    c.requires.ready.position c.requires.choice.1 c.requires.reached c.requires.ready.word c.table-table.ensures
    refl (sym c.in-Take.is ∙ c.entry.ensures) in
    let enough = c.if-bits-len.true in
    let count = c.len.ensures.count in
    pick_key c.requires.choice.0 c.requires.choice.1 (tells.0 (omega arith))

pub returns-else-bits-len : goal.returns-else-bits-len
returns-else-bits-len c =
    let d = c.args.self.now.desc.now in
    let tells = told d c.args.self.now.picks.now c.args.node c.args.self.now.octet c.requires.choice.0
    c.args.self.now.held.now c.table-table.result c.none-else-bits-len.result
    (Take c.in-Take.bits c.in-Take.alternative) c.requires.ready.plan.picks c.requires.node
    c.requires.ready.position c.requires.choice.1 c.requires.reached c.requires.ready.word c.table-table.ensures
    c.none-else-bits-len.ensures (sym c.in-Take.is ∙ c.entry.ensures) in
    let few = c.if-bits-len.false in
    let count = c.len.ensures.count in
    c.without_key-else-bits-len.ensures c.requires.choice.0 c.requires.choice.1 (tells.1 (omega arith))

pub returns-in-Refuse : goal.returns-in-Refuse
returns-in-Refuse c =
    let d = c.args.self.now.desc.now in
    c.without_key.ensures c.requires.choice.0 c.requires.choice.1
    (told d c.args.self.now.picks.now c.args.node c.args.self.now.octet c.requires.choice.0 c.args.self.now.held.now
    c.table-table.result c.none.result Refuse c.requires.ready.plan.picks c.requires.node
    c.requires.ready.position c.requires.choice.1 c.requires.reached c.requires.ready.word c.table-table.ensures
    c.none.ensures (sym c.in-Refuse.is ∙ c.entry.ensures))

pub returns-in-Wait : goal.returns-in-Wait
returns-in-Wait c =
    let d = c.args.self.now.desc.now in
    c.without_key-in-Wait.ensures c.requires.choice.0 c.requires.choice.1
    (told d c.args.self.now.picks.now c.args.node c.args.self.now.octet c.requires.choice.0 c.args.self.now.held.now
    c.table-table.result c.none-in-Wait.result Wait c.requires.ready.plan.picks c.requires.node
    c.requires.ready.position c.requires.choice.1 c.requires.reached c.requires.ready.word c.table-table.ensures
    c.none-in-Wait.ensures (sym c.in-Wait.is ∙ c.entry.ensures))
