use Rattle.std.proofs.Common.{◌++◌, ◌∷◌, [], ap, ◌∙◌}
use Rattle.std.specs.Fmt.{decimal}
use Rattle.std.specs.Prelude.{codes}
use Rattle.csn_cert.specs.CertificateText.{nodes_text}
use Rattle.csn_cert.proofs.write.write_certificate.Goals as goal

pub returns : goal.returns
returns c =
    let header = c.in_ok-push.ensures.items
    ∙ ap (λ l. l ++ 10 ∷ []) (c.in_ok-push_number.ensures ∙ ap (λ l. l ++ decimal c.len.result)
    c.in_ok-out.ensures.items ∙ ap (λ n. codes "csn-cert " ++ decimal n) c.len.ensures.count) in
    record {
      certificate = c.len.ensures.well_formed;
      spelled = c.in_ok-push_nodes.ensures ∙ ap (λ l. l ++ nodes_text 0 c.args.c.now) header;
    }
