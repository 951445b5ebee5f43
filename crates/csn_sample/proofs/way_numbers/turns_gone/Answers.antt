use Rattle.std.proofs.Common.{◌∙◌, ℕ, ap}
use Rattle.std.specs.Prelude.{min}
use Rattle.csn_sample.proofs.TreesInside.{turns_are}
use Rattle.csn_sample.proofs.way_numbers.turns_gone.Goals as goal

pub returns-in-Some : goal.returns-in-Some
returns-in-Some c =
    turns_are c.args.tree.now c.in-Some.rows.now _ c.in-Some.ensures
    (c.min.ensures ∙ ap (λ (n : ℕ). min n 2) c.len.ensures.len)
