use Rattle.std.specs.Prelude.{slice_index}
use Rattle.std.proofs.Common.{sym, ◌∙◌, ap, arith, ◌+◌, refl}
use Rattle.csn_desc.specs.TreeV.{row, trees_of}
use Rattle.csn_treetext.specs.reader.Machine.{state, after_tree, with_tree}
use Rattle.csn_treetext.specs.reader.Mode.{Start, Behind}
use Rattle.csn_treetext.proofs.Places.{room_reached}
use Rattle.csn_treetext.proofs.Runs.{eqb-isnt}
use Rattle.csn_treetext.proofs.ReadingFacts.{led, led_on, stopped}
use Rattle.csn_treetext.proofs.StopFacts.{behind_space, behind_no_row, behind_other}
use Rattle.csn_treetext.proofs.steps.after_tree.Goals as goal
use Rattle.csn_treetext.proofs.steps.after_tree.Goals.{else-text-at-eq32-via-then-text-at-eq32+else-is_in_row, else-text-at-eq32-via-else-text-at-eq32}

pub returns-then-is_in_row : goal.returns-then-is_in_row
returns-then-is_in_row c =
    let e = led_on c.args.source.version c.args.source.text.now c.args.at (state Behind c.args.stack.now)
    (state Start c.args.stack.now) c.requires.within c.requires.stands
    (ap (λ b. after_tree c.args.stack.now b) c.if-text-at-eq32.true ∙ behind_space c.args.stack.now (sym c.is_in_row.ensures ∙ c.if-is_in_row.true)) in (
      omega arith,
      omega arith,
      room_reached c.args.source.version c.args.source.text.now (c.args.at + 1)
          Start c.args.stack.now (omega arith) c.requires.line e,
      led e,
    )

pub returns-then-text-at-ne93 : goal.returns-then-text-at-ne93
returns-then-text-at-ne93 c =
    let stack = c.args.stack.now in
    let byte = slice_index c.args.source.text.now c.args.at in
    stopped c.args.source.version c.args.source.text.now c.args.at (state Behind stack) (omega arith) c.requires.stands
    (λ low. elim c.else-text-at-eq32.branch [
      | else-text-at-eq32-via-then-text-at-eq32+else-is_in_row w ↦ behind_no_row stack byte (sym w.is_in_row.ensures ∙ w.if-is_in_row.false)
      | else-text-at-eq32-via-else-text-at-eq32 w ↦ behind_other stack byte (eqb-isnt byte 32 w.if-text-at-eq32.false)
          (eqb-isnt byte 93 c.if-text-at-ne93.true)
    ])
    (λ past. refl)

pub returns-in_default : goal.returns-in_default
returns-in_default c =
    stopped c.args.source.version c.args.source.text.now c.args.at (state Behind c.args.stack.now) (omega arith) c.requires.stands
    (λ low. behind_no_row c.args.stack.now (slice_index c.args.source.text.now c.args.at) c.in_default.ensures)
    (λ past. refl)

pub close-requires-clause-stands : goal.close-requires-clause-stands
close-requires-clause-stands c =
    led (led_on c.args.source.version c.args.source.text.now c.args.at (state Behind c.args.stack.now)
    (with_tree c.pop_row.new.self (row (trees_of c.in-Some.rows))) c.requires.within c.requires.stands
    (ap (λ b. after_tree c.args.stack.now b) c.if-text-at-ne93.false ∙ ap (λ s. after_tree s 93) c.in-Some.ensures))
