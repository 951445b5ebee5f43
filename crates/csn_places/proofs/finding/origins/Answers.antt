use Rattle.std.proofs.Common.{◌≡◌, length, sym, subst}
use Rattle.std.specs.Prelude.{IfOk}
use Rattle.csn_grammar.specs.RulesV.{RulesV}
use Rattle.csn_resolve.specs.Resolved.{IsResolved}
use Rattle.csn_places.specs.Places.{ArePlaces, AreOrigins}
use Rattle.csn_places.proofs.Found.{origins_are_places, many_places, if_ok_more}
use Rattle.csn_places.proofs.finding.origins.Goals as goal

pub origins_by-requires : goal.origins_by-requires
origins_by-requires c =
    let P : RulesV → Type 0 = λ rs. IsResolved rs c.args.name.now c.args.desc.now.reading c.args.desc.now in
    record { resolved = subst P (sym c.in-Ok.ensures.names) c.requires.resolved }

pub returns-clause-names : goal.returns-clause-names
returns-clause-names c =
    let P : RulesV → Type 0 = λ rs. IfOk c.origins_by.result (λ o. AreOrigins rs c.args.name.now c.args.desc.now o.items) in
    subst P c.in-Ok.ensures.names c.origins_by.ensures

pub returns-clause-places : goal.returns-clause-places
returns-clause-places c =
    let P : RulesV → Type 0 = λ rs. IfOk c.origins_by.result (λ o. AreOrigins rs c.args.name.now c.args.desc.now o.items) in
    if_ok_more c.origins_by.result (λ o. AreOrigins c.args.rules.now c.args.name.now c.args.desc.now o.items)
    (λ o. ArePlaces c.args.rules.now c.args.name.now c.args.desc.now o.items)
    (λ o h. origins_are_places c.args.rules.now c.args.name.now c.args.desc.now o.items c.requires.resolved h)
    (subst P c.in-Ok.ensures.names c.origins_by.ensures)

pub returns-clause-many : goal.returns-clause-many
returns-clause-many c =
    let P : RulesV → Type 0 = λ rs. IfOk c.origins_by.result (λ o. AreOrigins rs c.args.name.now c.args.desc.now o.items) in
    if_ok_more c.origins_by.result (λ o. AreOrigins c.args.rules.now c.args.name.now c.args.desc.now o.items)
    (λ o. length o.items ≡ length c.args.desc.now.nodes)
    (λ o h. many_places c.args.rules.now c.args.name.now c.args.desc.now o.items
    (origins_are_places c.args.rules.now c.args.name.now c.args.desc.now o.items c.requires.resolved h))
    (subst P c.in-Ok.ensures.names c.origins_by.ensures)
