use Rattle.csn_fields.proofs.string.StringReader.tell.Given as goal

-- the steps are counted on a ledger of their own
abbrev pub ghosts-tell_counted : goal.ghosts-tell_counted
ghosts-tell_counted g a = record { name = a.blank.name; parts = a.blank.parts }
