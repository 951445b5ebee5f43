use Rattle.csn_vectors.proofs.nears.push_changes.Given as goal

-- the steps are counted on a ledger of their own
abbrev pub ghosts-nearly_with : goal.ghosts-nearly_with
ghosts-nearly_with a = record { name = a.blank.name; parts = a.blank.parts }
