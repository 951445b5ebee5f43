use Rattle.std.proofs.Common.{◌≡◌, [], sym, subst, Result, Ok, Err}
use Rattle.std.specs.Prelude.{IfOk}
use Rattle.csn_desc.specs.Nodes.{DescV}
use Rattle.std.proofs.lemmas.Result.{err_from_is_err_and}
use Rattle.csn_grammar.specs.RulesV.{RulesV}
use Rattle.csn_grammar.specs.Names.{built_in_names}
use Rattle.csn_resolve.specs.Resolved.{twice_steps, IsRefused}
use Rattle.csn_resolve.proofs.Walking.FirstFacts.{no-steps, defined-twice}
use Rattle.csn_resolve.proofs.ResolveFacts.{first_refused}
use Rattle.csn_resolve.specs.Resolved.{IsResolved}
use Rattle.csn_resolve.specs.Saying.{SaysTheSame}
use Rattle.csn_resolve.proofs.Meaning.MeaningFacts.{named_same}
use Rattle.csn_resolve.proofs.resolving.resolve.Goals as goal

if_ok_more : {E : Type 0} (answer : Result DescV E) (P Q : DescV → Type 0) → ((d : DescV) → P d → Q d) → IfOk answer P → IfOk answer Q
if_ok_more (Ok d) P Q more h = more d h
if_ok_more (Err e) P Q more h = h

pub returns-in_err-names-clause-refused : goal.returns-in_err-names-clause-refused
returns-in_err-names-clause-refused c =
    let p = err_from_is_err_and c.from_residual.result c.from_residual.ensures.1 in
    rw (p.1, p.2) (λ why place q. first_refused c.args.rules.now c.args.reading c.args.name.now
    (defined-twice c.args.rules.now c.args.reading c.args.name.now _ c.in_err-names.ensures.twice) q)

pub resolve_name-requires-clause-once : goal.resolve_name-requires-clause-once
resolve_name-requires-clause-once c =
    let Q : RulesV → Type 0 = λ rs. twice_steps built_in_names rs ≡ [] in
    subst Q (sym c.in_ok-names.ensures.names) (no-steps (twice_steps built_in_names c.args.rules.now) c.in_ok-names.ensures.twice)

pub returns-clause-refused : goal.returns-clause-refused
returns-clause-refused c = λ why place p.
    let P : RulesV → Type 0 = λ rs. IsRefused rs c.args.name.now c.args.reading why place in
    subst P c.in_ok-names.ensures.names (c.resolve_name.ensures.refused why place p)

pub returns-clause-says : goal.returns-clause-says
returns-clause-says c =
    let rules = c.args.rules.now in
    let n = c.args.name.now in
    let r = c.args.reading in
    let P : RulesV → Type 0 = λ rs. IfOk c.resolve_name.result (λ d. IsResolved rs n r d) in
    if_ok_more c.resolve_name.result (λ d. IsResolved rules n r d) (λ d. SaysTheSame rules n r d)
    (λ d h. record {
      means = λ rule found. (named_same rules r rule c.list.ensures.shaped h found).means;
      follows = λ rule found. (named_same rules r rule c.list.ensures.shaped h found).follows;
    })
    (subst P c.in_ok-names.ensures.names c.resolve_name.ensures.resolved)
