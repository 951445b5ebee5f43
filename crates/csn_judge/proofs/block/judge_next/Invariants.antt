use Rattle.csn_judge.proofs.block.judge_next.Given as goal

-- the steps are counted on a ledger of their own
abbrev pub ghosts-judge_with : goal.ghosts-judge_with
ghosts-judge_with a = record { name = a.blank.name; parts = a.blank.parts }
