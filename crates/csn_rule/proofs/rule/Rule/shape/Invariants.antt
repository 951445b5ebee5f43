use Rattle.csn_rule.proofs.rule.Rule.shape.Given as goal

-- the steps are counted on a ledger of their own
abbrev pub ghosts-shape_counted : goal.ghosts-shape_counted
ghosts-shape_counted a = record { name = a.blank.name; parts = a.blank.parts }
