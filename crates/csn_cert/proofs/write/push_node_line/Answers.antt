use Rattle.std.proofs.Common.{◌++◌, ◌∷◌, [], ap, ◌∙◌}
use Rattle.csn_cert.specs.CertificateText.{node_line}
use Rattle.csn_cert.proofs.Appending.{appended}
use Rattle.csn_cert.proofs.write.push_node_line.Goals as goal

pub returns : goal.returns
returns c =
    let before = c.args.out.now.items in
    let nullable = appended before _ _ _ _ c.in_ok-push_node_number.ensures c.in_ok-push_nullable.ensures in
    let follow = appended before _ _ _ _ nullable c.in_ok-push_digits.ensures in
    appended before _ _ _ _ follow c.in_ok-push.ensures.items ∙ ap (λ n. before ++ (node_line c.args.number n ++ 10 ∷ [])) c.node.view_is
