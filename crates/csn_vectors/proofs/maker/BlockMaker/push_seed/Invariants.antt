use Rattle.csn_vectors.proofs.maker.BlockMaker.push_seed.Given as goal

-- the steps are counted on a ledger of their own
abbrev pub ghosts-push_with_tree : goal.ghosts-push_with_tree
ghosts-push_with_tree a = record { name = a.blank.name; parts = a.blank.parts }

abbrev pub ghosts-push_alone : goal.ghosts-push_alone
ghosts-push_alone a = record { name = a.blank.name; parts = a.blank.parts }
