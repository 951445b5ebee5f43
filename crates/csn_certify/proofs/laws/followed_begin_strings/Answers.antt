use Rattle.csn_certify.proofs.BeginsString.{string_of}
use Rattle.csn_certify.proofs.laws.followed_begin_strings.Goals as goal

pub returns : goal.returns
returns c = λ d b is no_window h. string_of c.known.ensures d is no_window h
