use Rattle.csn_look.proofs.Tables.StartsBetween.{words_begun}
use Rattle.csn_look.proofs.starts.begun_words.Goals as goal

pub returns : goal.returns
returns c = λ k small. words_begun c.args.marks.now c.args.at k small
