use Rattle.std.proofs.Common.{refl}
use Rattle.csn_look.proofs.Sets.LeavesTell.{rest_sets}
use Rattle.csn_look.proofs.known.rest.Goals as goal

pub returns : goal.returns
returns c = λ d. rest_sets d _ refl refl refl c.all.ensures c.all-2.ensures c.all-3.ensures
