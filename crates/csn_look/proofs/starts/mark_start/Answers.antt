use Rattle.std.proofs.Common.{sym, ◌∙◌}
use Rattle.csn_look.proofs.Tables.StartsBetween.{start_set, start_unset}
use Rattle.csn_look.proofs.starts.mark_start.Goals as goal

pub returns-then-goes_on : goal.returns-then-goes_on
returns-then-goes_on c = start_set c.args.marks.now c.args.place c.set_mark.new.marks c.set_mark.ensures (sym c.goes_on.ensures ∙ c.if-goes_on.true)

pub returns-else-goes_on : goal.returns-else-goes_on
returns-else-goes_on c = start_unset c.args.marks.now c.args.place (sym c.goes_on.ensures ∙ c.if-goes_on.false)
