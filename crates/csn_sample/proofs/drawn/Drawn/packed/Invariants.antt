use Rattle.std.proofs.Common.{◌≡◌, ◌*◌, ◌%◌, map, take}
use Rattle.csn_sample.proofs.drawn.Drawn.packed.Given as goal

abbrev pub invariant-loop-piece : goal.invariant-loop-piece
invariant-loop-piece l = l.packed ≡ map (λ bit. bit % 2) (take (32 * l.piece) l.self.bits.items)
