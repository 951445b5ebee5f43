use Rattle.csn_rule.proofs.writing.block_by_tree.Given as goal

-- the steps are counted on a ledger of their own
abbrev pub ghosts-block_of_tree : goal.ghosts-block_of_tree
ghosts-block_of_tree a = record { name = a.blank.name; parts = a.blank.parts }
