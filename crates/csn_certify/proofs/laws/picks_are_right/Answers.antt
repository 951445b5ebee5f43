use Rattle.csn_certify.proofs.Here.{here_of}
use Rattle.csn_certify.proofs.PickFacts.{choice_parts}
use Rattle.csn_certify.proofs.PicksRight.{takes_right, refuses_right, goes_on_right, stops_right}
use Rattle.csn_certify.proofs.laws.picks_are_right.Goals as goal

pub returns-clause-takes : goal.returns-clause-takes
returns-clause-takes c = λ d most node o j v parts held later ended t is certified at reached fits over ahead pick.
    takes_right d most (here_of c.known.ensures is) certified at reached fits over ahead pick

pub returns-clause-refuses : goal.returns-clause-refuses
returns-clause-refuses c = λ d most node o v parts held later ended t is certified at reached over ahead pick.
    refuses_right d most (here_of c.known.ensures is) certified (choice_parts d node is at) at reached over ahead pick

pub returns-clause-goes_on : goal.returns-clause-goes_on
returns-clause-goes_on c = λ d most node part o j v held later ended t is certified at reached ahead pick same.
    goes_on_right d most (here_of c.known.ensures is) certified later at reached ahead pick same

pub returns-clause-stops : goal.returns-clause-stops
returns-clause-stops c = λ d most node part o v held later ended t is at fits over ahead pick. stops_right d
    (here_of c.known.ensures is) at fits over ahead pick
