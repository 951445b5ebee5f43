use Rattle.csn_tests.proofs.encode.a_tree_is_written_or_misses.Given as goal

abbrev pub ghosts-writes_or_misses : goal.ghosts-writes_or_misses
ghosts-writes_or_misses g a = record { name = a.blank.name; parts = a.blank.parts }
