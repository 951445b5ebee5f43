use Rattle.std.proofs.Common.{◌≤◌, arith}
use Rattle.csn_treetext.proofs.TextDecided.{decided}
use Rattle.csn_treetext.proofs.laws.texts_are_decided.Goals as goal

pub returns-clause-decided : goal.returns-clause-decided
returns-clause-decided c = λ version text. decided version text

pub returns-clause-place : goal.returns-clause-place
returns-clause-place c = λ version text place other left right.
    let least : place ≤ other = right.greatest place left.within left.begins in
    let most : other ≤ place = left.greatest other right.within right.begins in omega arith
