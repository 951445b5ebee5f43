use Rattle.std.proofs.Common.{◌+◌, ◌≤◌, take}
use Rattle.csn_reasons.specs.Spots.{IsSpot}
use Rattle.csn_reasons.proofs.spot.spot_behind.Given as goal

abbrev pub invariant-loop-byte : goal.invariant-loop-byte
invariant-loop-byte l = record {
  line : l.spot.line ≤ l.byte-index + 1;
  column : l.spot.column ≤ l.byte-index + 1;
  spot : IsSpot (take l.byte-index l.bytes) l.spot.line l.spot.column;
}
