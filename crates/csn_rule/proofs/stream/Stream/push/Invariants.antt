use Rattle.csn_rule.proofs.stream.Stream.push.Given as goal

-- the steps are counted on a ledger of their own
abbrev pub ghosts-push_counted : goal.ghosts-push_counted
ghosts-push_counted a = record { name = a.blank.name; parts = a.blank.parts }
