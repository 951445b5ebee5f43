use Rattle.csn_good.proofs.made.Made.is_same.Goals as goal

pub returns : goal.returns
returns c = λ holds o p. (c.in_ok-within.ensures c.if-not-within.false o p, c.in_ok-back.ensures holds o p)
