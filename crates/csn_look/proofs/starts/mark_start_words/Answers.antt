use Rattle.csn_look.proofs.Tables.StartsBetween.{words_between}
use Rattle.csn_look.proofs.starts.mark_start_words.Goals as goal

pub returns : goal.returns
returns c =
    words_between c.args.marks.now c.args.at c.begun_words.result c.begun_words-2.result c.halved-low.result
    c.halved-high.result c.requires.size c.requires.few
    c.halved-low.ensures.small c.halved-high.ensures.small c.begun_words.ensures c.begun_words-2.ensures c.halved-low.ensures.bits c.halved-high.ensures.bits
