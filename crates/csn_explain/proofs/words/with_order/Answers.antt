use Rattle.std.proofs.Common.{rules, ◌≡◌, ◌∙◌, ap, ap₂, codes}
use Rattle.std.proofs.lemmas.Result.{IfOk-weaker}
use Rattle.clap.specs.Words.{app_of, rule_of, with_rule}
use Rattle.csn_explain.specs.Words.{needed, trees_rule}
use Rattle.csn_explain.proofs.words.with_order.Goals as goal

pub returns : goal.returns
returns c =
    let count : rule_of c.help-count.result ≡ needed (codes "N") = search rules in
    let seed : rule_of c.help-seed.result ≡ needed (codes "SEED") = search rules in
    let trees : rule_of c.help-trees.result ≡ trees_rule = search rules in
    let one = c.in_ok-arg.ensures.shape (search rules) ∙ ap (with_rule (app_of c.args.command)) count in
    let two = c.in_ok-arg-2.ensures.shape (search rules) ∙ ap₂ with_rule one seed in
    IfOk-weaker c.arg-3.result _ _ (λ r adds. adds.shape (search rules) ∙ ap₂ with_rule two trees) c.arg-3.ensures
