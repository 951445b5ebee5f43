use Rattle.std.proofs.Common.{arith}
use Rattle.csn_certify.proofs.Answered.{many_over, many_waits, many_again, many_leaves}
use Rattle.csn_certify.proofs.pick.Asked.many.Goals as goal

pub returns-then-self : goal.returns-then-self
returns-then-self c =
    λ node at. many_over c.args.self.now.desc.now at c.args.self.now.held.now (omega (arith, c.len.ensures.count, c.if-len-eq0.true)) c.if-self.true

pub returns-else-self : goal.returns-else-self
returns-else-self c =
    λ node at. many_waits c.args.self.now.desc.now at c.args.self.now.held.now (omega (arith, c.len.ensures.count, c.if-len-eq0.true)) c.if-self.false

pub returns-then-starts : goal.returns-then-starts
returns-then-starts c =
    λ node at. many_again c.args.self.now.desc.now at c.get.result c.args.self.now.held.now
    (omega (arith, c.len.ensures.count, c.if-len-eq0.false)) c.get.ensures.value
    (c.starts.ensures.0 c.if-starts.true)

pub returns-else-starts : goal.returns-else-starts
returns-else-starts c =
    let absent = c.if-starts.false in
    λ node at. many_leaves c.args.self.now.desc.now at c.get.result c.args.self.now.held.now
    (omega (arith, c.len.ensures.count, c.if-len-eq0.false)) c.get.ensures.value (λ start. let starts =
    c.starts.ensures.1 start in cc)
