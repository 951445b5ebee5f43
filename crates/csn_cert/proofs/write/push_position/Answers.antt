use Rattle.std.proofs.Common.{◌+◌, ◌∷◌, ◌++◌, ap, ◌∙◌}
use Rattle.std.specs.Prelude.{codes}
use Rattle.csn_cert.specs.CertificateText.{digits_text}
use Rattle.csn_cert.specs.CertificateV.{PositionV}
use Rattle.csn_cert.specs.PatternText.{patterns_text}
use Rattle.csn_cert.proofs.Appending.{appended, sets_behind}
use Rattle.csn_cert.proofs.write.push_position.Goals as goal

pub returns : goal.returns
returns c =
    let before = c.args.out.now.items in
    let p = c.args.position.now in
    let octet = c.in_ok-push_octet.ensures ∙ ap (λ (q : PositionV). before ++ (codes "at " ++ (48 + q.octet) ∷ codes " ")) c.position.view_is in
    let front = appended before _ _ _ _ octet c.in_ok-push_sets.ensures in
    let patterns = c.in_ok-push_patterns.ensures ∙ ap (λ ks. c.push_sets.new.out.items ++ patterns_text ks)
    (c.deref.ensures.value ∙ ap (λ (q : PositionV). q.patterns) c.position.view_is) in
    let line = appended before _ _ _ _ (appended before _ _ _ _ front patterns) c.in_ok-push.ensures.items in
    line ∙ ap (λ l. before ++ l) (sets_behind (codes "at " ++ (48 + p.octet) ∷ codes " ") (digits_text 8 p.ends)
    (digits_text 2 p.start) (patterns_text p.patterns))
