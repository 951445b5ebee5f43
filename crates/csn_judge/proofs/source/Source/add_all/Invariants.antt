use Rattle.std.proofs.Common.{◌≡◌, ◌-◌, length}
use Rattle.csn_judge.proofs.source.Source.add_all.Given as goal

abbrev pub invariant-loop-self : goal.invariant-loop-self
invariant-loop-self l =
    (l.self.bits ≡ l.initial.self.bits) × (l.self.place ≡ l.initial.self.place)
    × (l.self.limit ≡ l.initial.self.limit) × (l.self.ended ≡ l.initial.self.ended)

abbrev pub decreases-loop-self : goal.decreases-loop-self
decreases-loop-self l = length l.self.bits - l.self.held
