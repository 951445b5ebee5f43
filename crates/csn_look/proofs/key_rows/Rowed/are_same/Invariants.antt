use Rattle.csn_look.proofs.Tables.RowKeys.{AreAlikeBelow}
use Rattle.csn_look.proofs.key_rows.Rowed.are_same.Given as goal

-- the parts before this one are alike
abbrev pub invariant-loop-at : goal.invariant-loop-at
invariant-loop-at l = AreAlikeBelow l.self.desc.now l.parts l.at
