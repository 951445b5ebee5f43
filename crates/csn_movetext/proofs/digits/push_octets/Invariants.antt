use Rattle.std.proofs.Common.{◌≡◌, ◌+◌, ◌*◌, ◌/◌, ◌^◌, length, drop}
use Rattle.hex.specs.Hex.{encode_upper}
use Rattle.csn_bits.specs.Octets.{octets_of}
use Rattle.csn_bits.specs.Numbers.{low_bits}
use Rattle.csn_movetext.proofs.digits.push_octets.Given as goal

-- the last digits are those of the last octets, so far
abbrev pub invariant-loop : goal.invariant-loop
invariant-loop l = record {
  size : length l.digits ≡ 16;
  place : l.first + 2 * l.counter ≡ 16;
  left : l.rest ≡ l.number / 2 ^ (8 * l.counter);
  written : drop l.first l.digits ≡ encode_upper (octets_of (low_bits (8 * l.counter) l.number));
}
