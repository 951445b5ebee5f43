use Rattle.std.proofs.Common.{arith}
use Rattle.csn_bits.proofs.Feeding.{holds_first, holds_second, given_first, given_second, given_second_full, given_second_none}
use Rattle.csn_bits.proofs.feed.HexFeed.digit.Goals as goal

pub returns-in_default-clause-keeps : goal.returns-in_default-clause-keeps
returns-in_default-clause-keeps c = λ line digit h v. holds_first line _ _ _ digit _ h c.requires.digits v c.in_default.is

pub returns-in_default-clause-given : goal.returns-in_default-clause-given
returns-in_default-clause-given c = λ line digit h v n. given_first line _ _ _ digit _ h c.requires.digits v c.in_default.is

pub returns-in-Some-before-clause-keeps : goal.returns-in-Some-before-clause-keeps
returns-in-Some-before-clause-keeps c =
    λ line digit h v. holds_second line _ _ _ digit _ h c.requires.digits v _ c.in-Some.is

pub returns-in-Some-before-clause-given : goal.returns-in-Some-before-clause-given
returns-in-Some-before-clause-given c =
    λ line digit h v n.
    given_second line _ _ _ digit _ h c.requires.digits v _ _ c.in-Some.is c.in-Some-before.is
    (omega (arith, n, c.if-self.true))

pub returns-in_default-before-clause-keeps : goal.returns-in_default-before-clause-keeps
returns-in_default-before-clause-keeps c =
    λ line digit h v. holds_second line _ _ _ digit _ h c.requires.digits v _ c.in-Some.is

pub returns-in_default-before-clause-given : goal.returns-in_default-before-clause-given
returns-in_default-before-clause-given c =
    λ line digit h v n.
    given_second_full line _ _ _ digit _ h c.requires.digits v _ _ c.in-Some.is c.in-Some-before.is
    (omega (arith, n, c.if-self.false))

pub returns-in_default-before-2-clause-keeps : goal.returns-in_default-before-2-clause-keeps
returns-in_default-before-2-clause-keeps c =
    λ line digit h v. holds_second line _ _ _ digit _ h c.requires.digits v _ c.in-Some.is

pub returns-in_default-before-2-clause-given : goal.returns-in_default-before-2-clause-given
returns-in_default-before-2-clause-given c =
    λ line digit h v n.
    given_second_none line _ _ _ digit _ h c.requires.digits v _ c.in-Some.is c.in_default-before.is
