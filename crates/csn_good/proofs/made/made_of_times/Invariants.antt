use Rattle.csn_good.specs.Patterns.{TimesPatterns}
use Rattle.csn_good.specs.Made.{AreMade}
use Rattle.csn_good.proofs.made.made_of_times.Given as goal

abbrev pub invariant-loop-turn : goal.invariant-loop-turn
invariant-loop-turn l = AreMade l.made.at.items (TimesPatterns l.c l.turn l.i)
