use Rattle.csn_tests.proofs.judged.came_of.Given as goal

-- the steps are counted on a ledger of their own
abbrev pub ghosts-came_with : goal.ghosts-came_with
ghosts-came_with a = record { name = a.blank.name; parts = a.blank.parts }
