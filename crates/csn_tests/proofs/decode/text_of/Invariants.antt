use Rattle.csn_tests.proofs.decode.text_of.Given as goal

-- the steps are counted on a ledger of their own
abbrev pub ghosts-decoded : goal.ghosts-decoded
ghosts-decoded a = record { name = a.blank.name; parts = a.blank.parts }
