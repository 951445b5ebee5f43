use Rattle.std.proofs.Common.{rules, true, ◌≡◌, ◌∙◌, Option, Some, None, IsSomeAnd, ap, ap₂, codes}
use Rattle.std.proofs.lemmas.Result.{IfOk-weaker}
use Rattle.clap.specs.Words.{Shape, app_of, new_app, rule_of, with_rule}
use Rattle.clap.specs.Simple.{app_of_fields, on_top}
use Rattle.csn_command.specs.CommandLine.{arguments_rule, command_rule}
use Rattle.csn_command.proofs.command_line.line_of.Goals as goal

abbrev without_name : Shape → Shape
without_name s = record s { no_binary_name = true }

some_and : {A : Type 0} (o : Option A) (v : A) → IsSomeAnd o (λ x. x ≡ v) → o ≡ Some v
some_and None v h = absurd h
some_and (Some x) v h = ap Some h

pub returns : goal.returns
returns c =
    let command_is : rule_of c.required.result ≡ command_rule = search rules in
    let any = some_and _ _ c.num_args.ensures.1 in
    let arguments_is : rule_of c.num_args.result ≡ arguments_rule = ap rule_of c.num_args.ensures.0
    ∙ (λ i. record (c.new-3.ensures.rule i) { range = any i }) in
    let named : app_of c.no_binary_name.result ≡ on_top without_name (new_app (codes "csn_cli")) =
    ap app_of_fields c.no_binary_name.ensures ∙ ap (on_top without_name) c.new.ensures.app in
    let first = c.in_ok-arg.ensures.shape (search rules) ∙ ap₂ with_rule named command_is in
    IfOk-weaker c.arg-2.result _ _ (λ r adds. adds.shape (search rules) ∙ ap₂ with_rule first arguments_is) c.arg-2.ensures
