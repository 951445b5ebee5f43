use Rattle.std.specs.Prelude.{slice_index, nat_lt}
use Rattle.std.proofs.Common.{◌≡◌, ◌+◌, ◌==◌, false, [], length, refl, sym, ap, subst, arith}
use Rattle.std.proofs.lemmas.Bool.{le-ltb}
use Rattle.csn_desc.specs.TreeV.{row, trees_of}
use Rattle.csn_treetext.specs.declared.stack.TheConstants.{MOST_ROUND}
use Rattle.csn_treetext.specs.reader.Mode.{Opened}
use Rattle.csn_treetext.specs.reader.Machine.{state, with_tree, after_bracket}
use Rattle.csn_treetext.specs.reader.Reading.{Stands}
use Rattle.csn_treetext.proofs.Runs.{eqb-isnt}
use Rattle.csn_treetext.proofs.ReadingFacts.{led, led_on, stopped}
use Rattle.csn_treetext.proofs.steps.begin_row.Goals as goal

pub close-requires-clause-stands : goal.close-requires-clause-stands
close-requires-clause-stands c =
    subst (λ ts. Stands c.args.source.version c.args.source.text.now (c.args.at + 1) (with_tree c.args.stack.now (row (trees_of ts)))) (sym c.new.ensures)
    (led (led_on c.args.source.version c.args.source.text.now c.args.at (state Opened c.args.stack.now)
    (with_tree c.args.stack.now (row (trees_of []))) c.requires.within c.requires.stands
    (ap (after_bracket c.args.source.version c.args.stack.now) c.if-text-at-eq93.true)))

pub returns-then-len-ge-MOST_ROUND : goal.returns-then-len-ge-MOST_ROUND
returns-then-len-ge-MOST_ROUND c =
    let other : (slice_index c.args.source.text.now c.args.at == 93) ≡ false =
    eqb-isnt (slice_index c.args.source.text.now c.args.at) 93 c.if-text-at-eq93.false in
    let full : nat_lt (length c.args.stack.now) MOST_ROUND ≡ false = le-ltb (length c.args.stack.now) MOST_ROUND (omega arith) in
    stopped c.args.source.version c.args.source.text.now c.args.at (state Opened c.args.stack.now) (omega arith)
    c.requires.stands (λ low. rw (other, full) refl) (λ past. refl)
