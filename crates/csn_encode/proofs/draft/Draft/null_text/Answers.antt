use Rattle.std.proofs.Common.{refl}
use Rattle.csn_desc.specs.TreeV.{empty}
use Rattle.csn_encode.proofs.NodeKinds.{null_added}
use Rattle.csn_encode.proofs.Texts.{nothing_begins, on_some}
use Rattle.csn_encode.proofs.draft.Draft.null_text.Goals as goal

pub returns : goal.returns
returns c =
    on_some c.behind_nothing.result
    (λ rest is. (empty, nothing_begins c.args.form _ rest.now is, λ d v. null_added d refl c.requires)) c.behind_nothing.ensures
