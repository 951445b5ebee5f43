use Rattle.std.proofs.Common.{◌≡◌, ◌+◌, [], true, sym, subst, arith}
use Rattle.csn_good.proofs.Making.{FilledTo, fill_begin, fill_on, fill_done}
use Rattle.csn_good.proofs.made.Made.none.Goals as goal

pub loop-octet-init : goal.loop-octet-init
loop-octet-init c = fill_begin (λ o p. p ≡ record { marks = []; whole = true }) c.new-at.result.items c.new-at.ensures.items

pub loop-octet-preserved : goal.loop-octet-preserved
loop-octet-preserved c =
    subst (λ l. FilledTo l (λ o p. p ≡ record { marks = []; whole = true }) (c.loop-octet.octet + 1)) (sym c.in_ok-push.ensures.items)
    (fill_on (λ o p. p ≡ record { marks = []; whole = true }) c.loop-octet.at.items c.loop-octet.octet
    c.in_ok-nothing.field-0 c.loop-octet.invariant c.in_ok-nothing.ensures)

pub returns : goal.returns
returns c =
    let over = c.loop-octet-test.false in
    let auto = c.loop-octet.auto in
    fill_done (λ o p. p ≡ record { marks = []; whole = true }) c.loop-octet.at.items c.loop-octet.octet (omega arith) (omega arith) c.loop-octet.invariant
