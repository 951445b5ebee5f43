use Rattle.csn_vectors.proofs.nears.push_some_changes.Given as goal

-- the steps are counted on a ledger of their own
abbrev pub ghosts-string_with : goal.ghosts-string_with
ghosts-string_with a = record { name = a.blank.name; parts = a.blank.parts }
