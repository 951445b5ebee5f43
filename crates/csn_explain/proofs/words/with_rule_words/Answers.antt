use Rattle.std.proofs.Common.{rules, ◌≡◌, ◌∙◌, ap, ap₂, codes}
use Rattle.std.proofs.lemmas.Result.{IfOk-weaker}
use Rattle.clap.specs.Words.{app_of, rule_of, with_rule}
use Rattle.csn_explain.specs.Words.{needed}
use Rattle.csn_explain.proofs.words.with_rule_words.Goals as goal

pub returns : goal.returns
returns c =
    let file : rule_of c.help-file.result ≡ needed (codes "FILE") = search rules in
    let name : rule_of c.help-name.result ≡ needed (codes "NAME") = search rules in
    let reading : rule_of c.help-reading.result ≡ needed (codes "READING") = search rules in
    let one = c.in_ok-arg.ensures.shape (search rules) ∙ ap (with_rule (app_of c.args.command)) file in
    let two = c.in_ok-arg-2.ensures.shape (search rules) ∙ ap₂ with_rule one name in
    IfOk-weaker c.arg-3.result _ _ (λ r adds. adds.shape (search rules) ∙ ap₂ with_rule two reading) c.arg-3.ensures
