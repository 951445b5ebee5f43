use Rattle.std.proofs.Common.{ap, inl, inr}
use Rattle.csn_bits.proofs.Feeding.{fault-stage_bad, fault-stage_tail, no_tail}
use Rattle.csn_bits.proofs.feed.HexFeed.finish.Goals as goal

pub returns-in-BadDigit-clause-ends : goal.returns-in-BadDigit-clause-ends
returns-in-BadDigit-clause-ends c = λ line fed. fault-stage_bad line _ _ _ _ fed.keeps c.in-BadDigit.is

pub returns-in-BadDigit-clause-fault : goal.returns-in-BadDigit-clause-fault
returns-in-BadDigit-clause-fault c = λ line fed. fault-stage_bad line _ _ _ _ fed.keeps c.in-BadDigit.is

pub returns-in-Slash-clause-ends : goal.returns-in-Slash-clause-ends
returns-in-Slash-clause-ends c =
    λ line fed. elim c.in-Slash.is [
      | inl slash ↦ fault-stage_tail line _ _ _ fed.keeps (ap no_tail slash.1)
      | inr long ↦ fault-stage_tail line _ _ _ fed.keeps (ap no_tail long)
    ]

pub returns-in-Slash-clause-fault : goal.returns-in-Slash-clause-fault
returns-in-Slash-clause-fault c = returns-in-Slash-clause-ends c
