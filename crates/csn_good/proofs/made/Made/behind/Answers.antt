use Rattle.std.proofs.Common.{◌+◌, sym, subst, arith}
use Rattle.csn_good.specs.Made.{MadeAt, PartMakes}
use Rattle.csn_good.proofs.Making.{FilledTo, fill_begin, fill_on, fill_done}
use Rattle.csn_good.proofs.made.Made.behind.Goals as goal

pub loop-octet-init : goal.loop-octet-init
loop-octet-init c = fill_begin (PartMakes c.args.c.now (MadeAt c.args.self.now.at.items) c.args.i) c.new-at.result.items c.new-at.ensures.items

pub loop-octet-preserved : goal.loop-octet-preserved
loop-octet-preserved c =
    subst (λ l. FilledTo l (PartMakes c.args.c.now (MadeAt c.args.self.now.at.items) c.args.i) (c.loop-octet.octet + 1)) (sym c.in_ok-push.ensures.items)
    (fill_on (PartMakes c.args.c.now (MadeAt c.args.self.now.at.items) c.args.i)
    c.loop-octet.at.items c.loop-octet.octet c.in_ok-behind_at.field-0 c.loop-octet.invariant
    c.in_ok-behind_at.ensures)

pub returns : goal.returns
returns c =
    let over = c.loop-octet-test.false in
    let auto = c.loop-octet.auto in
    fill_done (PartMakes c.args.c.now (MadeAt c.args.self.now.at.items) c.args.i)
    c.loop-octet.at.items c.loop-octet.octet (omega arith) (omega arith) c.loop-octet.invariant
