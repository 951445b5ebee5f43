use Rattle.std.proofs.Common.{◌≡◌, take}
use Rattle.csn_bits.specs.Feed.{Fed, octets_given, seen_of}
use Rattle.csn_bits.proofs.bits.Bits.from_digits.Given as goal

abbrev pub invariant-loop-byte : goal.invariant-loop-byte
invariant-loop-byte l =
    record {
      fed : Fed l.feed (take l.byte-index l.line);
      given : l.octets.items ≡ octets_given (take l.byte-index l.line);
      seen : seen_of l.feed ≡ l.byte-index;
    }
