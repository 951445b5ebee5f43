use Rattle.csn_explaining.proofs.nodes.node_at.Given as goal

-- the steps are counted on a ledger of their own
abbrev pub ghosts-node_with : goal.ghosts-node_with
ghosts-node_with a = record { name = a.blank.name; parts = a.blank.parts }
