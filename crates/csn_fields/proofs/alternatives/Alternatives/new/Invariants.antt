use Rattle.csn_fields.proofs.alternatives.Alternatives.new.Given as goal

-- the steps are counted on a ledger of their own
abbrev pub ghosts-alternatives_of : goal.ghosts-alternatives_of
ghosts-alternatives_of a = record { name = a.blank.name; parts = a.blank.parts }
