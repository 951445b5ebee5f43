use Rattle.csn_tests.proofs.judged.line_of.Given as goal

-- the steps are counted on a ledger of their own
abbrev pub ghosts-line_with : goal.ghosts-line_with
ghosts-line_with a = record { name = a.blank.name; parts = a.blank.parts }
