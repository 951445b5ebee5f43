use Rattle.std.proofs.Common.{◌≡◌, ℕ, List, [], length, Some, sym, ◌∙◌, subst}
use Rattle.std.proofs.lemmas.Result.{err_from_is_err_and}
use Rattle.csn_desc.proofs.WellFormed.{laid_spans, well_formed}
use Rattle.csn_grammar.specs.Names.{rule_of}
use Rattle.csn_resolve.specs.Seen.{Seen}
use Rattle.csn_resolve.specs.Gives.{Placed}
use Rattle.csn_resolve.specs.Made.{RuleGivesFew}
use Rattle.csn_resolve.proofs.Giving.MadeFacts.{shown-Nothing}
use Rattle.csn_resolve.proofs.ResolveFacts.{rule_quiet, rule_few, adds_first, made_laid, if_resolved, crowded_refused, first_refused}
use Rattle.csn_resolve.proofs.resolving.resolve_name.Goals as goal

pub returns-in_err-number-clause-refused : goal.returns-in_err-number-clause-refused
returns-in_err-number-clause-refused c =
    let p = err_from_is_err_and c.from_residual-in_err-number.result c.from_residual-in_err-number.ensures.1 in
    rw (p.1, p.2) (λ why place q. first_refused c.args.names.now c.args.reading c.args.name.now c.in_err-number.ensures.refused q)

pub build_rule-requires-clause-quiet : goal.build_rule-requires-clause-quiet
build_rule-requires-clause-quiet c =
    let found : rule_of c.args.names.now c.args.name.now ≡ Some c.rule.result.now = c.in_ok-number.ensures.rule ∙ c.rule.ensures in
    rule_quiet c.args.names.now c.args.reading c.args.name.now found c.in_ok-number.ensures.accepted

pub build_rule-requires-clause-gives : goal.build_rule-requires-clause-gives
build_rule-requires-clause-gives c =
    let found : rule_of c.args.names.now c.args.name.now ≡ Some c.rule.result.now = c.in_ok-number.ensures.rule ∙ c.rule.ensures in
    let P : List Placed → Type 0 = λ z. RuleGivesFew c.args.names.now c.args.reading c.rule.result.now (length z) [] in
    let Q : Seen ℕ → Type 0 = λ z. RuleGivesFew c.args.names.now c.args.reading c.rule.result.now (length c.new-made.result) z in
    subst Q (sym (shown-Nothing c.args.reading))
    (subst P (sym c.new-made.ensures)
    (rule_few c.args.names.now c.args.reading c.args.name.now found c.in_ok-number.ensures.accepted))

pub describe-requires-clause-numbered : goal.describe-requires-clause-numbered
describe-requires-clause-numbered c =
    let found : rule_of c.args.names.now c.args.name.now ≡ Some c.rule.result.now = c.in_ok-number.ensures.rule ∙ c.rule.ensures in
    let adds = adds_first c.args.names.now c.args.reading c.args.name.now (shown-Nothing c.args.reading) c.new-made.ensures c.in_ok-build_rule.ensures in
    laid_spans _ (made_laid c.args.names.now c.args.reading c.args.name.now c.requires.shaped found c.in_ok-number.ensures.accepted adds)

pub returns-clause-resolved : goal.returns-clause-resolved
returns-clause-resolved c =
    let found : rule_of c.args.names.now c.args.name.now ≡ Some c.rule.result.now = c.in_ok-number.ensures.rule ∙ c.rule.ensures in
    let adds = adds_first c.args.names.now c.args.reading c.args.name.now (shown-Nothing c.args.reading) c.new-made.ensures c.in_ok-build_rule.ensures in
    if_resolved c.args.names.now c.args.reading c.args.name.now c.describe.result found
    c.in_ok-number.ensures.accepted adds c.describe.ensures.described c.describe.ensures.fits

pub returns-clause-refused : goal.returns-clause-refused
returns-clause-refused c = λ why place p.
    let found : rule_of c.args.names.now c.args.name.now ≡ Some c.rule.result.now = c.in_ok-number.ensures.rule ∙ c.rule.ensures in
    let adds = adds_first c.args.names.now c.args.reading c.args.name.now (shown-Nothing c.args.reading) c.new-made.ensures c.in_ok-build_rule.ensures in
    crowded_refused c.args.names.now c.args.reading c.args.name.now found c.in_ok-number.ensures.accepted adds (c.describe.ensures.refused why place p)

pub describe-requires-clause-well_formed : goal.describe-requires-clause-well_formed
describe-requires-clause-well_formed c =
    let found : rule_of c.args.names.now c.args.name.now ≡ Some c.rule.result.now = c.in_ok-number.ensures.rule ∙ c.rule.ensures in
    let adds = adds_first c.args.names.now c.args.reading c.args.name.now (shown-Nothing c.args.reading) c.new-made.ensures c.in_ok-build_rule.ensures in
    well_formed _ (made_laid c.args.names.now c.args.reading c.args.name.now c.requires.shaped found c.in_ok-number.ensures.accepted adds)
