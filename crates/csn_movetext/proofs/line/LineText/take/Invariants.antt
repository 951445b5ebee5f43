use Rattle.csn_movetext.proofs.line.LineText.take.Given as goal

-- the steps are counted on a ledger of their own
abbrev pub ghosts-take_anew : goal.ghosts-take_anew
ghosts-take_anew a = record { name = a.blank.name; parts = a.blank.parts }
