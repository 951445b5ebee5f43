use Rattle.csn_rule.proofs.stream.Stream.end.Given as goal

-- the steps are counted on a ledger of their own
abbrev pub ghosts-end_counted : goal.ghosts-end_counted
ghosts-end_counted a = record { name = a.blank.name; parts = a.blank.parts }
