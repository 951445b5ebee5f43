use Rattle.csn_movetext.proofs.openings.Openings.new.Given as goal

-- the steps are counted on a ledger of their own
abbrev pub ghosts-openings_of_plan : goal.ghosts-openings_of_plan
ghosts-openings_of_plan a = record { name = a.blank.name; parts = a.blank.parts }
