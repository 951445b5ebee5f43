-- The reader stops there.
use Rattle.std.proofs.Common.{refl, arith, codes}
use Rattle.csn_treetext.specs.declared.version.Version.TheVariants.{First, Second}
use Rattle.csn_treetext.proofs.Places.{refused_place, ended_place}
use Rattle.csn_treetext.proofs.examples.worked_places.Goals as goal

pub returns-clause-great_number : goal.returns-clause-great_number
returns-clause-great_number c = refused_place Second (codes "<A>=3'9") 6 _ (omega arith) refl refl

pub returns-clause-short_block_line : goal.returns-clause-short_block_line
returns-clause-short_block_line c = refused_place Second (codes "xFF/1") 3 _ (omega arith) refl refl

pub returns-clause-few_digits : goal.returns-clause-few_digits
returns-clause-few_digits c = ended_place First (codes "b1") _ refl refl
