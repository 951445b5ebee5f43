use Rattle.std.proofs.Common.{◌++◌, ap, ◌∙◌}
use Rattle.std.specs.Prelude.{codes}
use Rattle.csn_cert.specs.CertificateText.{digits_text}
use Rattle.csn_cert.specs.CertificateV.{PositionV}
use Rattle.csn_cert.proofs.Appending.{appended}
use Rattle.csn_cert.proofs.write.push_sets.Goals as goal

pub returns : goal.returns
returns c =
    let before = c.args.out.now.items in
    let ends = appended before _ _ _ _ c.in_ok-push_digits.ensures c.in_ok-push.ensures.items in
    let start = appended before _ _ _ _ ends c.in_ok-push_digits-2.ensures in
    appended before _ _ _ _ start c.in_ok-push-2.ensures.items
    ∙ ap (λ (q : PositionV). before ++ (digits_text 8 q.ends ++ codes " " ++ digits_text 2 q.start ++ codes " ")) c.position.view_is
