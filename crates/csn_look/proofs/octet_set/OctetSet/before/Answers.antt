use Rattle.csn_look.proofs.Basics.Octets.{before_is}
use Rattle.csn_look.proofs.octet_set.OctetSet.before.Goals as goal

pub returns : goal.returns
returns c = before_is c.args.self c.args.lengths c.back.result c.plus.result c.back.ensures c.plus.ensures
