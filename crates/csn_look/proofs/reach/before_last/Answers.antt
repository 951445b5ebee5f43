use Rattle.csn_look.proofs.Sets.RepetitionsTell.{many_lengths}
use Rattle.csn_look.proofs.Handing.ReachedParts.{before_none, before_fixed, before_counted}
use Rattle.csn_look.proofs.reach.before_last.Goals as goal

pub returns-then-n-eq0 : goal.returns-then-n-eq0
returns-then-n-eq0 c = λ d look. before_none d c.args.count c.in-Fixed.n c.args.part c.empty.result c.in-Fixed.is c.if-n-eq0.true c.empty.ensures

pub returns-else-n-eq0 : goal.returns-else-n-eq0
returns-else-n-eq0 c =
    λ d look. before_fixed d c.args.count c.in-Fixed.n c.args.part c.lengths-once.result c.with.result c.times.result
    c.in-Fixed.is c.if-n-eq0.false (c.lengths-once.ensures d look) c.with.ensures c.times.ensures

pub returns-in-Counted : goal.returns-in-Counted
returns-in-Counted c =
    λ d look. before_counted d c.args.count c.in-Counted.m c.in-Counted.field c.in-Counted.c c.args.part c.repeated.result c.in-Counted.is
    (many_lengths d c.lengths-once.result c.repeated.result c.args.part (c.lengths-once.ensures d look) c.repeated.ensures)
