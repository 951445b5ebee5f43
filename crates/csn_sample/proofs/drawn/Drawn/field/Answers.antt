use Rattle.std.proofs.Common.{arith}
use Rattle.csn_sample.proofs.Draws.{on_ok, same_added}
use Rattle.csn_sample.proofs.drawn.Drawn.field.Goals as goal

pub returns-in-Zeros : goal.returns-in-Zeros
returns-in-Zeros c =
    on_ok c.same_bits.result
    (same_added c.args.self.now.bits.items c.fill.new.self.bits.items c.same_bits.new.self.bits.items c.args.width 0 (omega arith) c.fill.ensures)
    c.same_bits.ensures

pub returns-in-Ones : goal.returns-in-Ones
returns-in-Ones c =
    on_ok c.same_bits-in-Ones.result
    (same_added c.args.self.now.bits.items c.fill.new.self.bits.items c.same_bits-in-Ones.new.self.bits.items c.args.width 1 (omega arith) c.fill.ensures)
    c.same_bits-in-Ones.ensures
