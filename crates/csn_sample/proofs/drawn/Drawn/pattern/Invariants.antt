use Rattle.std.proofs.Common.{◌≡◌, ◌++◌, length}
use Rattle.std.specs.Prelude.{replicate}
use Rattle.csn_desc.specs.declared.symbol.Symbol.TheVariants.{Low}
use Rattle.csn_desc.specs.Spelled.{spelled}
use Rattle.csn_sample.proofs.drawn.Drawn.pattern.Given as goal

abbrev pub invariant-loop : goal.invariant-loop
invariant-loop l =
    l.self.bits.items ≡ l.fn.self.bits.items ++ spelled (replicate l.counter Low) (length l.fn.self.bits.items)
