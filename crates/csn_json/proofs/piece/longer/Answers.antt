use Rattle.std.proofs.Common.{◌∷◌, ◌++◌, [], ap, sym, subst, Some, None}
use Rattle.csn_desc.specs.TreeV.{trees_of}
use Rattle.csn_json.specs.Pieces.{TellsRow, TellsTree, then_item}
use Rattle.csn_json.specs.Reading.{AreShown}
use Rattle.csn_json.proofs.Pieces.{row_longer, front_shown, last_shown}
use Rattle.csn_json.proofs.piece.longer.Goals as goal

pub returns-in_ok-push_tree-in-Some-tree-clause-ok : goal.returns-in_ok-push_tree-in-Some-tree-clause-ok
returns-in_ok-push_tree-in-Some-tree-clause-ok c = λ round values value told this.
    let rows = subst (λ r. TellsRow round r values) c.in-Some.is told in
    let tree = subst (λ t. TellsTree round t value) c.in-Some-tree.is this in
    subst (λ ts. AreShown round (then_item values value) (trees_of ts)) (sym c.in_ok-push_tree-in-Some-tree.ensures.ok)
    (row_longer round values value c.in-Some.rows c.in-Some-tree.tree rows tree)

pub returns-in-None-tree-clause-ok : goal.returns-in-None-tree-clause-ok
returns-in-None-tree-clause-ok c = λ round values value told this ts all.
    let last = last_shown round values value ts all in
    (subst (λ t. TellsTree round t value) c.in-None-tree.is this) last.0 last.1

pub returns-in-None-clause-ok : goal.returns-in-None-clause-ok
returns-in-None-clause-ok c = λ round values value told this ts all.
    let front = front_shown round values value ts all in
    (subst (λ r. TellsRow round r values) c.in-None.is told) front.0 front.1
