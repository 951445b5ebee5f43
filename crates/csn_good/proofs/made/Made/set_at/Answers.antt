use Rattle.std.proofs.Common.{length, refl, arith}
use Rattle.std.proofs.lemmas.Option.{slice_get_read}
use Rattle.csn_good.proofs.made.Made.set_at.Goals as goal

pub returns : goal.returns
returns c =
    let eight = c.requires.made in
    let low = c.requires.octet in
    slice_get_read c.args.self.now.at.items (length c.args.self.now.at.items) c.args.octet c.index.result.now refl (omega arith) c.index.ensures
