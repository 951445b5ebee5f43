use Rattle.csn_fields.proofs.block.tell_octets.Given as goal

-- the steps are counted on a ledger of their own
abbrev pub ghosts-tell_with : goal.ghosts-tell_with
ghosts-tell_with g a = record { name = a.blank.name; parts = a.blank.parts }
