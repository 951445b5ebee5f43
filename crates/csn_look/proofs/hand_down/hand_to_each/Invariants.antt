use Rattle.std.proofs.Common.{◌≡◌, ℕ, ◌<◌, Some}
use Rattle.std.specs.Prelude.{slice_get}
use Rattle.csn_look.proofs.Handing.ReachedParts.{KeptBeside}
use Rattle.csn_look.proofs.hand_down.hand_to_each.Given as goal

abbrev pub invariant-loop-at : goal.invariant-loop-at
invariant-loop-at g l =
    KeptBeside l.parts l.initial.table l.table
    × ((j p : ℕ) → j < l.at → slice_get l.parts j ≡ Some p → slice_get l.table p ≡ Some l.one)
