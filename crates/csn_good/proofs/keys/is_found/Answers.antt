use Rattle.std.proofs.Common.{◌+◌, ◌-◌, ◌/◌}
use Rattle.csn_cert.specs.Growing.{claimed}
use Rattle.csn_good.specs.ClaimedSets.{patterns_at}
use Rattle.csn_good.proofs.Conflicting.{at_contained}
use Rattle.csn_good.proofs.Making.{claimed_pattern}
use Rattle.csn_good.proofs.keys.is_found.Goals as goal

pub returns-then-covers : goal.returns-then-covers
returns-then-covers c = λ h.
    let middle = c.loop-low.low + (c.loop-low.high - c.loop-low.low) / 2 in
    let at = claimed_pattern (claimed c.args.c.now c.args.i c.args.octet) middle c.pattern_at-own.result c.requires.has c.pattern_at-own.ensures in
    record {
      wide = c.pattern_at-own.result;
      is_claimed =
          at_contained (patterns_at c.args.c.now c.args.i c.args.octet) middle c.pattern_at-own.result at;
      covers =
          c.covers.ensures.0 c.if-covers.true;
    }
