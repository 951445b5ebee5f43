use Rattle.csn_look.specs.Full.{AreNoKeys}
use Rattle.csn_look.proofs.full.first_key.Given as goal

-- with fewer zeros it is no key
abbrev pub invariant-loop-more : goal.invariant-loop-more
invariant-loop-more l = AreNoKeys l.table l.place l.more
