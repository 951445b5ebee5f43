use Rattle.std.proofs.Common.{◌-◌, ◌/◌, refl, arith}
use Rattle.csn_good.proofs.Numbered.{cut_short, cut_long}
use Rattle.csn_good.proofs.pattern_set.cut_number.Goals as goal

pub returns-then-marks-least-clause-pattern : goal.returns-then-marks-least-clause-pattern
returns-then-marks-least-clause-pattern c =
    cut_short c.args.number c.args.room c.power_of-power.result ((c.power_of-power.result - 1) / 2) c.requires.number
    c.power_of-power.ensures.power refl c.if-marks-least.true

pub returns-clause-pattern : goal.returns-clause-pattern
returns-clause-pattern c =
    let high = c.if-marks-least.false in
    (cut_long c.args.number c.args.room c.power_of-power.result ((c.power_of-power.result - 1) / 2) c.requires.number
    c.power_of-power.ensures.power refl c.requires.room (omega (arith, high))).0

pub returns-clause-number : goal.returns-clause-number
returns-clause-number c =
    let high = c.if-marks-least.false in
    (cut_long c.args.number c.args.room c.power_of-power.result ((c.power_of-power.result - 1) / 2) c.requires.number
    c.power_of-power.ensures.power refl c.requires.room (omega (arith, high))).1
