use Rattle.std.proofs.Common.{◌-◌, arith}
use Rattle.csn_good.proofs.Numbered.{marks_resized}
use Rattle.csn_good.proofs.pattern_set.grow.Goals as goal

pub returns-clause-same : goal.returns-clause-same
returns-clause-same c =
    let old = c.args.marks.now in
    marks_resized old.items c.resize.new.self.items c.args.size (c.args.size - old.len)
    (omega (arith, c.if-len-size.false, c.len.ensures, old.ok)) c.in_ok-resize.ensures.items
