use Rattle.csn_rule.proofs.rule.Rule.show.Given as goal

-- the steps are counted on a ledger of their own
abbrev pub ghosts-write_counted : goal.ghosts-write_counted
ghosts-write_counted a = record { name = a.blank.name; parts = a.blank.parts }
