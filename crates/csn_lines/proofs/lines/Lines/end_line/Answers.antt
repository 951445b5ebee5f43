use Rattle.std.proofs.Common.{arith}
use Rattle.csn_lines.proofs.lines.Lines.end_line.Goals as goal
use Rattle.csn_lines.proofs.lines.Lines.end_line.Goals.{then-self, else-self}

pub returns-clause-ok : goal.returns-clause-ok
returns-clause-ok g c = λ line stands.
    let adds = c.in_ok-refused.ensures.ok c.args.self.now.held line stands in
    (c.in_ok-refused.refused, adds, elim c.if-self.branch [ then-self w ↦ grind arith | else-self w ↦ grind arith ])
