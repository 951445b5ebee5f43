-- What the next node sees: no test goes by the order of the nodes round it.
use Rattle.std.proofs.Common.{◌≡◌, true, false, not, ◌&&◌, ◌==◌, reverse, sym, ◌∙◌, ap}
use Rattle.std.specs.Prelude.{slice_get}
use Rattle.std.specs.List.{list_any}
use Rattle.csn_desc.specs.Values.{is_labelled, is_named}
use Rattle.csn_desc.specs.Building.{has_shown}
use Rattle.csn_desc.proofs.Innermost.{any_reverse, both_false}
use Rattle.csn_desc.proofs.begun.is_shown.Goals as goal

pub returns-then-contains : goal.returns-then-contains
returns-then-contains c =
    let field = c.args.field in
    let around = c.args.around.now in
    let entered_there : list_any (λ i. i == field) (reverse around) ≡ true =
    any_reverse (λ i. i == field) around ∙ sym c.contains.ensures.value ∙ c.if-contains.true in
    sym (ap (λ b. is_named c.args.nodes.now field && (not b && list_any (λ i. has_shown field (slice_get c.args.nodes.now i)) (reverse around))) entered_there
    ∙ both_false (is_named c.args.nodes.now field))

pub returns : goal.returns
returns c =
    let field = c.args.field in
    let around = c.args.around.now in
    let nodes = c.args.nodes.now in
    let named : is_named nodes field ≡ true = sym (ap (λ o. is_labelled o) c.node_at.ensures) ∙ sym c.is_labelled.ensures ∙ c.if-not-is_labelled.false in
    let left : list_any (λ i. i == field) (reverse around) ≡ false =
    any_reverse (λ i. i == field) around ∙ sym c.contains.ensures.value ∙ c.if-contains.false in
    c.some_shows.ensures ∙ sym (any_reverse (λ i. has_shown field (slice_get nodes i)) around)
    ∙ sym (ap (λ b. b && (not (list_any (λ i. i == field) (reverse around)) && list_any (λ i. has_shown field (slice_get nodes i)) (reverse around))) named
    ∙ ap (λ b. not b && list_any (λ i. has_shown field (slice_get nodes i)) (reverse around)) left)
