use Rattle.csn_good.proofs.Behind.{behind_is}
use Rattle.csn_good.proofs.made.Made.behind_size.Goals as goal

pub returns-then-one : goal.returns-then-one
returns-then-one c = behind_is c.args.self.now.at.items c.args.octet c.args.size c.set_at-later.result.now _ c.set_at-later.ensures c.in_ok-cut_to.ensures
