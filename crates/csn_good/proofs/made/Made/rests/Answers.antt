use Rattle.std.proofs.Common.{length, refl, ◌∙◌, ap, Some, arith}
use Rattle.std.proofs.lemmas.Option.{slice_get_read}
use Rattle.csn_good.proofs.Behind.{same_cut}
use Rattle.csn_good.proofs.made.Made.rests.Goals as goal

pub returns-in-Some : goal.returns-in-Some
returns-in-Some c =
    let behind = c.args.behind.now in
    let low = c.requires.size in
    let inside = c.if-place-behind.false in
    let at = slice_get_read behind (length behind) c.args.size c.index-behind-place.result refl (omega arith) c.index-behind-place.is in
    same_cut c.args.self.now.at.items c.args.octet c.args.size c.in-Some.cut low (c.requires.behind c.args.size c.in-Some.cut (at ∙ ap Some c.in-Some.is))
