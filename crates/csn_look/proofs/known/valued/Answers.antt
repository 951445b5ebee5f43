use Rattle.std.proofs.Common.{ℕ, ◌+◌, ◌*◌, ◌%◌}
use Rattle.csn_look.proofs.Sets.Telling.{no_value_yet, value_more}
use Rattle.csn_look.proofs.known.valued.Goals as goal

pub loop-value-init : goal.loop-value-init
loop-value-init c = no_value_yet (λ (v : ℕ). c.args.unit * (c.args.m * v + c.args.c) % 8) c.empty-lengths.result c.empty-lengths.ensures

pub loop-value-preserved : goal.loop-value-preserved
loop-value-preserved c = value_more (λ (v : ℕ). c.args.unit * (c.args.m * v + c.args.c) % 8)
    c.loop-value.value c.loop-value.lengths c.with-lengths.result c.loop-value.invariant c.with-lengths.ensures
