use Rattle.csn_rule.proofs.rule.Rule.label.Given as goal

-- the steps are counted on a ledger of their own
abbrev pub ghosts-label_counted : goal.ghosts-label_counted
ghosts-label_counted a = record { name = a.blank.name; parts = a.blank.parts }
