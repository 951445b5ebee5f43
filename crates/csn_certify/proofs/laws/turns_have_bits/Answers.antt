use Rattle.csn_certify.proofs.Here.{here_of}
use Rattle.csn_certify.proofs.Turns.{free_turn, counted_turn}
use Rattle.csn_certify.proofs.laws.turns_have_bits.Goals as goal

pub returns-clause-free : goal.returns-clause-free
returns-clause-free c = λ d most node part o v b t is certified at h. free_turn d most (here_of c.known.ensures is) certified node at h

pub returns-clause-counted : goal.returns-clause-counted
returns-clause-counted c = λ d most node part o count v b t is certified at h. counted_turn d most (here_of c.known.ensures is) certified node at h
