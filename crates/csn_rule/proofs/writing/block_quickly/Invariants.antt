use Rattle.csn_rule.proofs.writing.block_quickly.Given as goal

-- the steps are counted on a ledger of their own
abbrev pub ghosts-block_along : goal.ghosts-block_along
ghosts-block_along a = record { name = a.blank.name; parts = a.blank.parts }
