use Rattle.std.proofs.Common.{◌≡◌, ◌∙◌, Some, refl}
use Rattle.std.proofs.lemmas.Result.{err_from_is_err_and}
use Rattle.csn_grammar.specs.Names.{rule_of}
use Rattle.csn_resolve.proofs.Walking.GoingFacts.{stops-first, stops-later, way-on}
use Rattle.csn_resolve.proofs.Walking.DepthFacts.{in_deepest}
use Rattle.csn_resolve.proofs.Walking.WalkFacts.{outermost-in}
use Rattle.csn_resolve.proofs.Walking.FirstFacts.{unknown, on-walk, accepted}
use Rattle.csn_resolve.proofs.first.first_refusal.Goals as goal

pub returns-in_default-clause-refused : goal.returns-in_default-clause-refused
returns-in_default-clause-refused c =
    rw c.refusal.ensures (unknown c.args.names.now c.args.reading c.args.name.now c.requires.once c.in_default.ensures.rule)

pub walk_rule-requires : goal.walk_rule-requires
walk_rule-requires c = in_deepest c.args.names.now c.in-Some.number c.rule-rule.result.now c.rule-rule.ensures

pub returns-in_err-walk_rule-clause-refused : goal.returns-in_err-walk_rule-clause-refused
returns-in_err-walk_rule-clause-refused c =
    let p = err_from_is_err_and c.from_residual-in_err-walk_rule.result c.from_residual-in_err-walk_rule.ensures.1 in
    let some : rule_of c.args.names.now c.args.name.now ≡ Some c.rule-rule.result.now = c.in-Some.ensures.rule ∙ c.rule-rule.ensures in
    rw (p.1, p.2) (on-walk c.args.names.now c.args.reading c.args.name.now c.requires.once c.rule-rule.result.now _ some
    (λ walk left h g. stops-first 0 walk left _ (c.in_err-walk_rule.ensures walk (outermost-in c.args.names.now c.args.reading c.args.name _ _ refl refl h))))

pub returns-in_err-leave_part-clause-refused : goal.returns-in_err-leave_part-clause-refused
returns-in_err-leave_part-clause-refused c =
    let p = err_from_is_err_and c.from_residual-in_err-leave_part.result c.from_residual-in_err-leave_part.ensures.1 in
    let some : rule_of c.args.names.now c.args.name.now ≡ Some c.rule-rule.result.now = c.in-Some.ensures.rule ∙ c.rule-rule.ensures in
    rw (p.1, p.2) (on-walk c.args.names.now c.args.reading c.args.name.now c.requires.once c.rule-rule.result.now _ some
    (λ walk left h g. stops-later 0 c.in_ok-walk_rule.field-0.nodes walk left _
    (c.in_ok-walk_rule.ensures walk (outermost-in c.args.names.now c.args.reading c.args.name _ _ refl refl h))
    (c.in_err-leave_part.ensures left g c.in_ok-walk_rule.field-0.nodes)))

pub returns-clause-accepted : goal.returns-clause-accepted
returns-clause-accepted c =
    let some : rule_of c.args.names.now c.args.name.now ≡ Some c.rule-rule.result.now = c.in-Some.ensures.rule ∙ c.rule-rule.ensures in
    accepted c.args.names.now c.args.reading c.args.name.now c.requires.once c.rule-rule.result.now c.in_ok-walk_rule.field-0.nodes some
    (λ walk left h g. way-on 0 c.in_ok-walk_rule.field-0.nodes walk left
    (c.in_ok-walk_rule.ensures walk (outermost-in c.args.names.now c.args.reading c.args.name _ _ refl refl h))
    ∙ c.in_ok-leave_part.ensures left g c.in_ok-walk_rule.field-0.nodes)
