use Rattle.csn_certify.proofs.Here.{here_of}
use Rattle.csn_certify.proofs.PickFacts.{choice_parts}
use Rattle.csn_certify.proofs.PicksRight.{takes_followed, refuses_followed}
use Rattle.csn_certify.proofs.Turns.{turns_followed, left_follows_none, left_part_follows_none}
use Rattle.csn_certify.proofs.laws.picks_follow.Goals as goal

pub returns-clause-takes : goal.returns-clause-takes
returns-clause-takes c =
    λ d most node o i j part v parts held later ended is certified at reached fits some at_i followed pick.
    takes_followed d most (here_of c.known.ensures is) certified later (choice_parts d node is at)
    at reached fits some at_i followed pick

pub returns-clause-refuses : goal.returns-clause-refuses
returns-clause-refuses c = λ d most node o i part v parts held later is certified at at_i followed pick.
    refuses_followed d most (here_of c.known.ensures is) certified i later (choice_parts d node is at)
    at at_i followed pick

pub returns-clause-goes_on : goal.returns-clause-goes_on
returns-clause-goes_on c = λ d node part o v b at some followed. turns_followed c.strings_are_followed.ensures d at some followed

pub returns-clause-stops : goal.returns-clause-stops
returns-clause-stops c = λ d most node part o v held later ended is at fits over some pick followed. left_follows_none
    d (here_of c.known.ensures is) later at fits over some pick followed

pub returns-clause-turns_stop : goal.returns-clause-turns_stop
returns-clause-turns_stop c = λ d most node part o v held later ended is at fits over some pick followed.
    left_part_follows_none d (here_of c.known.ensures is) later at fits over some pick followed
