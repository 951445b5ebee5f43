use Rattle.std.proofs.Common.{◌∙◌, [], ◌∷◌, ◌++◌, ap}
use Rattle.csn_sample.proofs.Draws.{any_bit_added}
use Rattle.csn_sample.proofs.drawn.Drawn.any_bits.Goals as goal

pub loop-preserved : goal.loop-preserved
loop-preserved c =
    any_bit_added c.args.self.now.bits.items c.loop.self.bits.items c.push.new.self.bits.items c.loop.counter
    c.any_bit-bit.result c.loop.invariant c.any_bit-bit.ensures.bit
    (c.in_ok-push.ensures.added ∙ ap (λ l. l ++ c.any_bit-bit.result ∷ []) c.any_bit-bit.ensures.kept)
