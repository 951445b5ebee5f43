use Rattle.csn_grammar.proofs.OnePlace.{no_fault, one_place}
use Rattle.csn_grammar.proofs.TextDecided.{text_decided}
use Rattle.csn_grammar.proofs.laws.texts_are_decided.Goals as goal

pub returns-clause-decided : goal.returns-clause-decided
returns-clause-decided c = text_decided c.one_thing_is_next.ensures.some

pub returns-clause-apart : goal.returns-clause-apart
returns-clause-apart c = λ text rules place has fault. no_fault c.one_thing_is_next.ensures.one has fault

pub returns-clause-place : goal.returns-clause-place
returns-clause-place c = one_place c.one_thing_is_next.ensures.one
