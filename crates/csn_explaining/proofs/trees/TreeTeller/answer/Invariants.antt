use Rattle.csn_explaining.proofs.trees.TreeTeller.answer.Given as goal

-- the steps are counted on a ledger of their own
abbrev pub ghosts-encode_with : goal.ghosts-encode_with
ghosts-encode_with a = record { name = a.blank.name; parts = a.blank.parts }
