use Rattle.csn_grammar.proofs.OfTexts.{text_shaped, text_labelled}
use Rattle.csn_grammar.proofs.laws.rules_of_texts_are_shaped.Goals as goal

pub returns-clause-shaped : goal.returns-clause-shaped
returns-clause-shaped c = λ text rules h. text_shaped text rules h

pub returns-clause-labelled : goal.returns-clause-labelled
returns-clause-labelled c = λ text rules h. text_labelled text rules h
