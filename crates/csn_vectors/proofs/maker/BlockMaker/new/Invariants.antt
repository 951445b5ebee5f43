use Rattle.csn_vectors.proofs.maker.BlockMaker.new.Given as goal

-- the steps are counted on a ledger of their own
abbrev pub ghosts-new_with : goal.ghosts-new_with
ghosts-new_with a = record { name = a.blank.name; parts = a.blank.parts }
