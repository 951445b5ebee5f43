use Rattle.std.proofs.Common.{◌≡◌, [], true}
use Rattle.csn_good.proofs.Making.{FilledTo}
use Rattle.csn_good.proofs.made.Made.none.Given as goal

abbrev pub invariant-loop-octet : goal.invariant-loop-octet
invariant-loop-octet l = FilledTo l.at.items (λ o p. p ≡ record { marks = []; whole = true }) l.octet
