use Rattle.csn_tour.proofs.blocks.tree_of.Given as goal

-- the steps are counted on a ledger of their own
abbrev pub ghosts-decode : goal.ghosts-decode
ghosts-decode a = record { name = a.blank.name; parts = a.blank.parts }
