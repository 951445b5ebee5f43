use Rattle.std.proofs.Common.{◌≡◌, ◌∙◌, ◌+◌, ◌-◌, ◌*◌, ◌%◌, ◌≤◌, ap, arith, drop, length, map, min, take}
use Rattle.csn_bits.specs.Numbers.{number_of}
use Rattle.csn_sample.proofs.Draws.{next_packed}
use Rattle.csn_sample.proofs.drawn.Drawn.packed.Goals as goal

pub loop-piece-preserved : goal.loop-piece-preserved
loop-piece-preserved c =
    let some : 32 * c.loop-piece.piece ≤ length c.args.self.now.bits.items =
    omega (arith, c.loop-piece-test.true, c.div_ceil-piece-end.ensures, c.len.ensures) in
    let end : c.min-to.result ≡ min (32 * c.loop-piece.piece + 32) (length c.args.self.now.bits.items) =
    omega (arith, c.min-to.ensures, c.len-in-loop-piece.ensures) in
    next_packed c.args.self.now.bits.items c.loop-piece.packed c.add.new.self c.loop-piece.piece c.min-to.result c.packed_number.result
    some end c.loop-piece.invariant
    (c.packed_number.ensures
    ∙ ap (λ l. number_of (map (λ bit. bit % 2) (take (c.min-to.result - 32 * c.loop-piece.piece) (drop (32 * c.loop-piece.piece) l))))
    c.deref.ensures.value)
    c.in_ok-add.ensures.ok
