use Rattle.std.proofs.Common.{◌≡◌, take}
use Rattle.csn_bits.specs.Numbers.{number_of}
use Rattle.csn_bits.specs.Octets.{bits_of_octets}
use Rattle.csn_encode.proofs.draft.octets_number.Given as goal

abbrev pub invariant-loop-octet : goal.invariant-loop-octet
invariant-loop-octet l = l.number ≡ number_of (bits_of_octets (take l.octet-index l.octets))
