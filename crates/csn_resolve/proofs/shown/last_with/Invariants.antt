use Rattle.std.proofs.Common.{◌≡◌, [], take}
use Rattle.csn_resolve.specs.Seen.{seen_in}
use Rattle.csn_resolve.specs.Made.{frame_before}
use Rattle.csn_resolve.proofs.shown.last_with.Given as goal

abbrev pub invariant-loop-at : goal.invariant-loop-at
invariant-loop-at l =
    seen_in (frame_before l.reading [] l.items l.nodes) l.label ≡ seen_in (frame_before l.reading [] (take l.at l.items) (take l.at l.nodes)) l.label
