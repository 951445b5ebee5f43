use Rattle.csn_cert.proofs.Appending.{appended}
use Rattle.csn_cert.proofs.write.push_octet.Goals as goal

pub returns : goal.returns
returns c =
    let before = c.args.out.now.items in
    appended before _ _ _ _ (appended before _ _ _ _ c.in_ok-extend_from_slice.ensures.items c.in_ok-push.ensures.items) c.in_ok-push-2.ensures.items
