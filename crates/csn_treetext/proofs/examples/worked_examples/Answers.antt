use Rattle.std.proofs.Common.{refl, arith, rules}
use Rattle.std.specs.Fmt.{digits}
use Rattle.hex.specs.Hex.{encode_with}
use Rattle.csn_treetext.proofs.examples.worked_examples.Goals as goal

pub returns-clause-few_bits : goal.returns-clause-few_bits
unfolding digits
returns-clause-few_bits c = record { fits = omega arith; parts = search rules; spelled = refl }

pub returns-clause-many_bits : goal.returns-clause-many_bits
unfolding digits encode_with
returns-clause-many_bits c = record { fits = omega arith; parts = search rules; spelled = refl }

pub returns-clause-row : goal.returns-clause-row
unfolding digits
returns-clause-row c = record { fits = search rules; parts = search rules; spelled = refl }
