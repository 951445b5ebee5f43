use Rattle.std.proofs.Common.{length, sym, ap, ◌∙◌}
use Rattle.csn_bits.proofs.Packing.{length-packed}
use Rattle.csn_bits.proofs.bits.Bits.len.Goals as goal

pub returns-clause-count : goal.returns-clause-count
returns-clause-count c = sym (length-packed _ _ c.self.invariant) ∙ ap length c.self.view_is
