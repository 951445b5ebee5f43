use Rattle.csn_sample.proofs.covering.keep.Given as goal

-- the steps are counted on a ledger of their own
abbrev pub ghosts-add_tree : goal.ghosts-add_tree
ghosts-add_tree a = record { name = a.blank.name; parts = a.blank.parts }
