use Rattle.csn_look.proofs.Basics.Octets.{has_all}
use Rattle.csn_look.proofs.octet_set.OctetSet.all.Goals as goal

pub returns : goal.returns
returns c = has_all
