use Rattle.csn_certify.proofs.Here.{here_of}
use Rattle.csn_certify.proofs.Waiting.{waiting_followed, waiting_few, waiting_ends, refused_has_bits}
use Rattle.csn_certify.proofs.laws.waiting_is_followed.Goals as goal

pub returns-clause-followed : goal.returns-clause-followed
returns-clause-followed c = λ d most node round o seen v held ended is values pick. waiting_followed d most c.keys_are_of_bits.ensures.followed is values pick

pub returns-clause-few : goal.returns-clause-few
returns-clause-few c = λ d most node octet held ended some pick. waiting_few d most c.keys_are_words.ensures.short some pick

pub returns-clause-ends : goal.returns-clause-ends
returns-clause-ends c = λ d most node octet held some pick. waiting_ends d most some pick

pub returns-clause-empty : goal.returns-clause-empty
returns-clause-empty c = λ d most node octet o v b t is certified pick h nothing. refused_has_bits d most (here_of c.known.ensures is) certified pick h nothing
