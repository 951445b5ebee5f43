use Rattle.std.proofs.Common.{refl}
use Rattle.csn_bits.proofs.Feeding.{holds-nil}
use Rattle.csn_bits.proofs.feed.HexFeed.new.Goals as goal

pub returns-clause-fed : goal.returns-clause-fed
returns-clause-fed c = record { seen = refl; keeps = holds-nil }
