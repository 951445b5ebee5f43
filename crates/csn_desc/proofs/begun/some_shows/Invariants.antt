-- None of the nodes so far shows the field.
use Rattle.std.proofs.Common.{◌≡◌, false, take}
use Rattle.std.specs.Prelude.{slice_get}
use Rattle.std.specs.List.{list_any}
use Rattle.csn_desc.specs.Building.{has_shown}
use Rattle.csn_desc.proofs.begun.some_shows.Given as goal

abbrev pub invariant-loop-i : goal.invariant-loop-i
invariant-loop-i l = list_any (λ i. has_shown l.field (slice_get l.nodes i)) (take l.i-index l.around) ≡ false
