use Rattle.csn_tests.proofs.plan.look_ahead_answers_by_held_bits.Given as goal

abbrev pub ghosts-picks : goal.ghosts-picks
ghosts-picks g a = record { name = a.blank.name; parts = a.blank.parts }
