use Rattle.std.proofs.Common.{refl}
use Rattle.csn_look.specs.WordV.{word_of}
use Rattle.csn_look.proofs.word.Word.new.Goals as goal

pub returns : goal.returns
unfolding word_of
returns c = refl
