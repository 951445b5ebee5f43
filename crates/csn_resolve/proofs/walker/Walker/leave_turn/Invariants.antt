use Rattle.std.proofs.Common.{take, drop}
use Rattle.csn_grammar.specs.ExprV.{exprs_of}
use Rattle.csn_grammar.specs.Void.{SomeVoid}
use Rattle.csn_resolve.proofs.walker.Walker.leave_turn.Given as goal

abbrev pub invariant-loop-at : goal.invariant-loop-at
invariant-loop-at l =
    SomeVoid l.self.names.now l.self.reading (exprs_of (take l.tail.count l.tail.items.now))
    → SomeVoid l.self.names.now l.self.reading (exprs_of (drop l.at (take l.tail.count l.tail.items.now)))
