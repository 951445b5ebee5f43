use Rattle.std.proofs.Common.{refl}
use Rattle.csn_desc.specs.TreeV.{empty}
use Rattle.csn_encode.proofs.NodeKinds.{lits_added}
use Rattle.csn_encode.proofs.Texts.{nothing_begins}
use Rattle.csn_encode.proofs.draft.Draft.literal_text.Goals as goal

pub returns : goal.returns
returns c = (empty, nothing_begins c.args.form _ _ c.in_ok-rest.ensures, λ d v. lits_added d refl c.in-Ok.ensures.added)
