use Rattle.std.proofs.Common.{ℕ, List, length, ap, arith}
use Rattle.csn_judge.proofs.SourceFacts.{known}
use Rattle.csn_judge.proofs.source.Source.add_all.Goals as goal

pub add_octet-requires-clause-some : goal.add_octet-requires-clause-some
add_octet-requires-clause-some c =
    let k = known _ _ c.self.invariant c.self.view_is in
    omega (arith, k.all, k.held, c.if-self-gt0.true)

pub loop-self-smaller : goal.loop-self-smaller
loop-self-smaller c =
    let k = known _ _ c.self.invariant c.self.view_is in
    let same = ap (λ (l : List ℕ). length l) c.add_octet.ensures.bits in
    omega (arith, k.all, k.held, c.if-self-gt0.true, same, c.add_octet.ensures.held)

pub returns-else-self-gt0-clause-held : goal.returns-else-self-gt0-clause-held
returns-else-self-gt0-clause-held c =
    let k = known _ _ c.self.invariant c.self.view_is in
    omega (arith, k.all, k.held, c.if-self-gt0.false)
