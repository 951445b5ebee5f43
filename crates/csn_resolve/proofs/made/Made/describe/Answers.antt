use Rattle.std.proofs.Common.{◌≡◌, ◌∙◌, ℕ, ◌<◌, List, length, slice_get, Err, refl, sym, ap, subst, arith}
use Rattle.std.proofs.lemmas.Option.{slice_get_read}
use Rattle.csn_desc.specs.declared.node.Node.{Node}
use Rattle.csn_desc.specs.Formed.{Spans}
use Rattle.csn_desc.specs.WellFormed.{AreWellFormed}
use Rattle.csn_desc.specs.Overfull.{IsOverfull, IsFirstOverfull}
use Rattle.csn_resolve.specs.Resolved.{nodes_of}
use Rattle.csn_resolve.proofs.Giving.MadeFacts.{paired_nodes, paired_at}
use Rattle.csn_resolve.proofs.ResolveFacts.{crowded_at}
use Rattle.csn_resolve.proofs.made.Made.describe.Goals as goal

pub from_nodes-requires-clause-numbered : goal.from_nodes-requires-clause-numbered
from_nodes-requires-clause-numbered c =
    let nodes : nodes_of c.args.self ≡ c.self.inside.nodes.items = ap nodes_of (sym c.self.view_is)
    ∙ paired_nodes c.self.inside.nodes.items c.self.inside.places.items c.self.invariant.0 in
    let P : List Node → Type 0 = λ z. Spans z 0 (length z) in subst P nodes c.requires.numbered

pub from_nodes-requires-clause-well_formed : goal.from_nodes-requires-clause-well_formed
from_nodes-requires-clause-well_formed c =
    let nodes : nodes_of c.args.self ≡ c.self.inside.nodes.items = ap nodes_of (sym c.self.view_is)
    ∙ paired_nodes c.self.inside.nodes.items c.self.inside.places.items c.self.invariant.0 in
    let P : List Node → Type 0 = λ z. AreWellFormed z in subst P nodes c.requires.well_formed

pub returns-in-Ok-clause-described : goal.returns-in-Ok-clause-described
returns-in-Ok-clause-described c =
    let nodes : nodes_of c.args.self ≡ c.self.inside.nodes.items = ap nodes_of (sym c.self.view_is)
    ∙ paired_nodes c.self.inside.nodes.items c.self.inside.places.items c.self.invariant.0 in
    c.in-Ok.ensures.ok ∙ ap (λ (z : List Node). record { reading = c.args.reading; nodes = z }) (sym nodes)

pub returns-in-Ok-clause-fits : goal.returns-in-Ok-clause-fits
returns-in-Ok-clause-fits c =
    let nodes : nodes_of c.args.self ≡ c.self.inside.nodes.items = ap nodes_of (sym c.self.view_is)
    ∙ paired_nodes c.self.inside.nodes.items c.self.inside.places.items c.self.invariant.0 in
    let P : List Node → Type 0 = λ z. (i : ℕ) → ¬ IsOverfull z i in subst P (sym nodes) c.in-Ok.ensures.fits

pub index-requires : goal.index-requires
index-requires c =
    let within = c.in-Err-TooManyVals.ensures.there c.in-Err-TooManyVals.node (ap (λ z. Err z) c.in-Err-TooManyVals.field-0-is) in
    let alike = c.self.invariant.0 in
    omega (arith, within, alike)

pub returns-in-Err-TooManyVals-clause-refused : goal.returns-in-Err-TooManyVals-clause-refused
returns-in-Err-TooManyVals-clause-refused c = λ why place p.
    let nodes : nodes_of c.args.self ≡ c.self.inside.nodes.items = ap nodes_of (sym c.self.view_is)
    ∙ paired_nodes c.self.inside.nodes.items c.self.inside.places.items c.self.invariant.0 in
    let Q : List Node → Type 0 = λ z. IsFirstOverfull z c.in-Err-TooManyVals.node in
    let first : IsFirstOverfull c.self.inside.nodes.items c.in-Err-TooManyVals.node =
    c.in-Err-TooManyVals.ensures.vals c.in-Err-TooManyVals.node (ap (λ z. Err z) c.in-Err-TooManyVals.field-0-is)
    in
    let within : c.in-Err-TooManyVals.node < length c.self.inside.nodes.items =
    c.in-Err-TooManyVals.ensures.there c.in-Err-TooManyVals.node (ap (λ z. Err z) c.in-Err-TooManyVals.field-0-is)
    in
    let alike = c.self.invariant.0 in
    let here = slice_get_read c.self.inside.places.items (length c.self.inside.places.items)
    c.in-Err-TooManyVals.node c.index.result.now refl (omega (arith, within, alike)) c.index.ensures in
    let there = paired_at c.self.inside.nodes.items c.self.inside.places.items c.in-Err-TooManyVals.node c.index.result.now alike here in
    crowded_at c.args.self c.in-Err-TooManyVals.node c.index.result.now (subst Q (sym nodes) first) there.0
    (ap (λ l. slice_get l c.in-Err-TooManyVals.node) (sym c.self.view_is) ∙ there.1) there.2 c.refusal.ensures p
