use Rattle.std.proofs.Common.{sym, ◌∙◌}
use Rattle.csn_look.proofs.Sets.LeavesTell.{no_lits_start, some_lits_start}
use Rattle.csn_look.proofs.known.literal_starts.Goals as goal

pub returns-then-len-eq0 : goal.returns-then-len-eq0
returns-then-len-eq0 c = λ d. no_lits_start d c.args.run.now c.empty.result c.args.bit (sym c.len.ensures.len ∙ c.if-len-eq0.true) c.empty.ensures

pub returns-else-len-eq0 : goal.returns-else-len-eq0
returns-else-len-eq0 c = λ d. some_lits_start d c.args.run.now c.get.result.now c.symbol_starts.result c.args.bit c.get.ensures c.symbol_starts.ensures
