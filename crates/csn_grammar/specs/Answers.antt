-- What the reader of a text answers.
use Rattle.std.specs.Prelude.{ℕ, List}
use Rattle.csn_grammar.specs.declared.fault.GrammarFault.{GrammarFault}
use Rattle.csn_grammar.specs.declared.fault.GrammarFault.TheVariants.{Syntax, NoMemory}
use Rattle.csn_grammar.specs.RulesV.{RulesV}
use Rattle.csn_grammar.specs.Place.{HasRules}

-- a fact of the place, where the fault is one of syntax
abbrev pub OnSyntax : GrammarFault → (ℕ → Type 0) → Type 0
OnSyntax (Syntax place) P = P place
OnSyntax NoMemory P = Unit {0}

-- the text has no rules
abbrev pub HasNoRules : List ℕ → Type 0
HasNoRules text = (rules : RulesV) → ¬ HasRules text rules
