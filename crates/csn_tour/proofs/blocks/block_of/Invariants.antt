use Rattle.csn_tour.proofs.blocks.block_of.Given as goal

-- the steps are counted on a ledger of their own
abbrev pub ghosts-encoded : goal.ghosts-encoded
ghosts-encoded a = record { name = a.blank.name; parts = a.blank.parts }
