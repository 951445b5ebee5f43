use Rattle.std.proofs.Common.{◌≡◌, ℕ, ◌<◌, length, Some}
use Rattle.std.specs.Prelude.{slice_get}
use Rattle.csn_look.specs.FollowV.{signs_at}
use Rattle.csn_look.proofs.following.signs_of.Given as goal

abbrev pub invariant-loop-octet : goal.invariant-loop-octet
invariant-loop-octet l = (length l.at ≡ 8) × ((o : ℕ) → o < l.octet → slice_get l.at o ≡ Some (signs_at l.following o))
