use Rattle.std.proofs.Common.{sym, ◌∙◌}
use Rattle.csn_look.proofs.Tables.KeyLists.{key_none}
use Rattle.csn_look.proofs.key_set.list_key.Goals as goal

pub returns : goal.returns
returns c = key_none c.args.marks.now c.args.key c.args.keys.now.items (sym c.holds.ensures ∙ c.if-holds.false)
