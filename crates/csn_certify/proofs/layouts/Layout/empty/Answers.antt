use Rattle.csn_certify.proofs.LayoutNumbers.{null_layout, nothing_layout}
use Rattle.csn_certify.proofs.layouts.Layout.empty.Goals as goal

pub returns-clause-null : goal.returns-clause-null
returns-clause-null c = λ d. null_layout d

pub returns-clause-parts : goal.returns-clause-parts
returns-clause-parts c = λ d. nothing_layout d
