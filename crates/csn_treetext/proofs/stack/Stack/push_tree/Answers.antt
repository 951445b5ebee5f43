use Rattle.std.specs.Prelude.{OnOk, reverse}
use Rattle.std.proofs.Common.{◌≡◌, ◌≤◌, ◌-◌, length, Some, set, sym, ap, ◌∙◌, subst, arith}
use Rattle.std.proofs.lemmas.Option.{slice_get_read}
use Rattle.csn_treetext.specs.declared.stack.Frame.TheVariants.{Row}
use Rattle.csn_treetext.specs.reader.Machine.{state, is_in_row, with_tree}
use Rattle.csn_treetext.specs.reader.Mode.{Behind}
use Rattle.csn_treetext.proofs.Stacked.{in_row_some, tree_pushed}
use Rattle.csn_treetext.proofs.stack.Stack.push_tree.Goals as goal
use Rattle.csn_treetext.proofs.stack.Stack.push_tree.Goals.{in-Ok, in-Err}

pub returns : goal.returns
returns c =
    let frames = c.self.inside.frames.items in
    let some : 1 ≤ length frames = in_row_some frames (ap is_in_row c.self.view_is ∙ c.requires.row) in
    let there = slice_get_read frames c.len-last.result (c.len-last.result - 1) c.index_mut.result.now (omega arith)
    (omega arith) c.index_mut.ensures.value ∙ ap Some c.in-Row.is in
    elim c.match-push.branch [
      | in-Ok w ↦ subst
          (λ r. OnOk r (with_tree c.args.self.now c.args.tree ≡ state Behind
          (reverse (set frames (c.len-last.result - 1) (Row c.push.new.self))))) (sym w.result-is)
          (ap (λ s. with_tree s c.args.tree) (sym c.self.view_is)
          ∙ tree_pushed frames (c.len-last.result - 1) c.in-Row.rows c.push.new.self c.args.tree (omega arith) there w.in-Ok.ensures.ok)
      | in-Err w ↦ subst
          (λ r. OnOk r (with_tree c.args.self.now c.args.tree ≡ state Behind
          (reverse (set frames (c.len-last.result - 1) (Row c.push.new.self))))) (sym w.result-is) tt
    ]
