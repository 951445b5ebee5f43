use Rattle.csn_tests.proofs.plan.a_plan_gives_its_nodes.Given as goal

abbrev pub ghosts-nodes : goal.ghosts-nodes
ghosts-nodes g a = record { name = a.blank.name; parts = a.blank.parts }
