use Rattle.csn_look.proofs.Basics.Words.{place_of-word}
use Rattle.csn_look.proofs.word.Word.with_place.Goals as goal

pub returns : goal.returns
returns c = λ word is here. place_of-word word c.args.place is here c.requires.some c.requires.small
