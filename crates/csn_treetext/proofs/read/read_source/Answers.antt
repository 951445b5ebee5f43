use Rattle.std.proofs.Common.{◌+◌, refl, sym, subst, arith}
use Rattle.csn_treetext.specs.Place.{IsFaultOf}
use Rattle.csn_treetext.specs.reader.Mode.{Start}
use Rattle.csn_treetext.specs.reader.Machine.{HasRoom, state}
use Rattle.csn_treetext.specs.reader.Reading.{Stands, Takes, mode_of}
use Rattle.csn_treetext.proofs.ReadingFacts.{led, stopped, whole_text, whole_refused}
use Rattle.csn_treetext.proofs.StopFacts.{next_ends}
use Rattle.csn_treetext.proofs.read.read_source.Goals as goal

pub loop-at-init : goal.loop-at-init
loop-at-init c = (
  omega arith,
  subst HasRoom (sym c.requires.nothing) tt,
  subst (λ s. Stands c.args.source.version c.args.source.text.now 0 (state Start s)) (sym c.requires.nothing) (led refl),
)

pub returns-in-Whole-clause-ok : goal.returns-in-Whole-clause-ok
returns-in-Whole-clause-ok c =
    let taken = subst (Takes c.args.source.version c.args.source.text.now (c.loop-at.at + 1) c.take.new.stack) c.in-Whole.is c.in_ok-other.ensures in
    whole_text c.args.source.version c.args.source.text.now c.in-Whole.end c.in-Whole.tree c.take.new.stack c.whole.result taken.1 c.whole.ensures.ok

pub returns-in-Whole-clause-refused : goal.returns-in-Whole-clause-refused
returns-in-Whole-clause-refused c =
    let taken = subst (Takes c.args.source.version c.args.source.text.now (c.loop-at.at + 1) c.take.new.stack) c.in-Whole.is c.in_ok-other.ensures in
    whole_refused c.args.source.version c.args.source.text.now c.in-Whole.end c.in-Whole.tree c.take.new.stack
    c.whole.result taken.0 taken.1 c.whole.ensures.refused

pub returns-clause-refused : goal.returns-clause-refused
returns-clause-refused c =
    let (within, room, stands) = c.loop-at.invariant in
    subst (IsFaultOf c.args.source.version c.args.source.text.now) (sym c.fault_at-2.ensures)
    (stopped c.args.source.version c.args.source.text.now c.loop-at.at
    (state (mode_of c.loop-at.next) c.loop-at.stack) within stands (λ low. absurd (omega arith))
    (λ past. next_ends c.loop-at.next c.loop-at.stack))
