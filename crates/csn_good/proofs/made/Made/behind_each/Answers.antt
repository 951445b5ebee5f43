use Rattle.std.proofs.Common.{◌+◌, List, Option, sym, subst}
use Rattle.csn_cert.specs.PatternV.{PatternV}
use Rattle.csn_good.proofs.Behind.{BehindTo, behind_begin, behind_on}
use Rattle.csn_good.proofs.made.Made.behind_each.Goals as goal

pub loop-size-init : goal.loop-size-init
loop-size-init c = behind_begin c.args.self.now.at.items c.args.octet c.new-behind.result.items c.new-behind.ensures.items

pub loop-size-preserved : goal.loop-size-preserved
loop-size-preserved c =
    subst (λ (l : List (Option (List PatternV))). BehindTo c.args.self.now.at.items c.args.octet l (c.loop-size.size + 1)) (sym c.in_ok-push.ensures.items)
    (behind_on c.args.self.now.at.items c.args.octet c.loop-size.behind.items c.loop-size.size
    c.in_ok-behind_size.field-0 c.loop-size.invariant c.in_ok-behind_size.ensures)

pub returns : goal.returns
returns c = c.loop-size.invariant.each
