use Rattle.csn_desc.proofs.Empties.{has_count, nothing_seen}
use Rattle.csn_desc.proofs.ValuesKept.{values_kept, no_values_fit, fits_kept}
use Rattle.csn_desc.proofs.laws.values_are_kept.Goals as goal

pub returns-clause-there : goal.returns-clause-there
returns-clause-there c = λ nodes i v b seen values. values_kept nodes i b v seen values

pub returns-clause-fitting : goal.returns-clause-fitting
returns-clause-fitting c = λ d i o v b t fits h. fits_kept d fits h

pub returns-clause-none : goal.returns-clause-none
returns-clause-none c = λ d. (nothing_seen, no_values_fit d)

pub returns-clause-counts : goal.returns-clause-counts
returns-clause-counts c = has_count
