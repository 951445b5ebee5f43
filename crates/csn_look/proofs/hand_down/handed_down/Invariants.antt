use Rattle.csn_look.proofs.Handing.HandDown.{Handed}
use Rattle.csn_look.proofs.hand_down.handed_down.Given as goal

abbrev pub invariant-loop-k : goal.invariant-loop-k
invariant-loop-k g l = Handed (λ i a. g.T.HandDown.is_right l.desc i a) l.desc l.k l.table.items
