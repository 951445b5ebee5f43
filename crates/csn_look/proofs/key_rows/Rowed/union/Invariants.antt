use Rattle.csn_look.specs.KeyMarks.{KeysAre}
use Rattle.csn_look.proofs.Tables.RowKeys.{ChoiceBelow}
use Rattle.csn_look.proofs.key_rows.Rowed.union.Given as goal

-- the keys of the parts before this one
abbrev pub invariant-loop-at : goal.invariant-loop-at
invariant-loop-at l = KeysAre l.table (ChoiceBelow l.self.desc.now l.parts l.octet l.at)
