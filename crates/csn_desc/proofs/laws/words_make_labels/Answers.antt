use Rattle.csn_desc.proofs.LabelFacts.{word_is_label, label_behind_word}
use Rattle.csn_desc.proofs.laws.words_make_labels.Goals as goal

pub returns-clause-one : goal.returns-clause-one
returns-clause-one c = word_is_label

pub returns-clause-more : goal.returns-clause-more
returns-clause-more c = label_behind_word
