use Rattle.std.proofs.Common.{◌≡◌, length, take, min}
use Rattle.csn_desc.specs.Spelled.{spelled}
use Rattle.csn_look.proofs.key_rows.literal_word.Given as goal

-- the bits before this one
abbrev pub invariant-loop-at : goal.invariant-loop-at
invariant-loop-at l = (l.word ≡ take l.at (spelled l.run l.octet)) × (l.size ≡ min 12 (length l.run))
