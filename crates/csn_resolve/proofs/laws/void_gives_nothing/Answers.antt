use Rattle.csn_resolve.proofs.Emptiness.Full.{gives_full}
use Rattle.csn_resolve.proofs.laws.void_gives_nothing.Goals as goal

pub returns : goal.returns
returns c = λ rules r x at seen nodes v h. gives_full rules r h v
