use Rattle.csn_lines.proofs.write.write_by_tree.Given as goal

-- the steps are counted on a ledger of their own
abbrev pub ghosts-answer_tree : goal.ghosts-answer_tree
ghosts-answer_tree a = record { name = a.blank.name; parts = a.blank.parts }
