use Rattle.csn_tests.proofs.look.+doubled.Given as goal

abbrev pub decreases-doubled : goal.decreases-doubled
decreases-doubled l = l.levels
