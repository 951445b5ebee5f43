use Rattle.csn_vectors.proofs.nears.push_nearly.Given as goal

-- the steps are counted on a ledger of their own
abbrev pub ghosts-covered_with : goal.ghosts-covered_with
ghosts-covered_with a = record { name = a.blank.name; parts = a.blank.parts }
