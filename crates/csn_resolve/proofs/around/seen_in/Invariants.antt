use Rattle.std.proofs.Common.{◌≡◌, [], take}
use Rattle.csn_resolve.specs.Seen.{seen_in}
use Rattle.csn_resolve.specs.Views.{frame_after}
use Rattle.csn_resolve.proofs.around.seen_in.Given as goal

abbrev pub invariant-loop-at : goal.invariant-loop-at
invariant-loop-at l =
    seen_in (frame_after l.reading [] (take l.fn.count l.items)) l.label ≡ seen_in (frame_after l.reading [] (take l.at l.items)) l.label
