use Rattle.std.proofs.Common.{◌++◌, ◌∷◌, [], ap, ◌∙◌}
use Rattle.csn_cert.proofs.Appending.{appended}
use Rattle.csn_cert.proofs.write.push_nullable.Goals as goal

pub returns : goal.returns
returns c =
    let before = c.args.out.now.items in
    appended before _ _ _ _ (c.in_ok-push.ensures.items ∙ ap (λ d. before ++ d ∷ []) c.nullable_character.ensures) c.in_ok-push-2.ensures.items
