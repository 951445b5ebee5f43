use Rattle.std.proofs.Common.{◌≡◌, ◌<◌, ◌+◌, max, ℕ, Bool, true, false, List, [], ◌++◌, Ok, Some, None, take, drop, refl, sym, ◌∙◌, ap, subst, take_all, arith}
use Rattle.std.proofs.lemmas.List.{drop_all}
use Rattle.csn_grammar.specs.ExprV.{ExprV, BranchV, expr, power, both, exprs_of, branches_of}
use Rattle.csn_grammar.specs.ExprCode.{expr_size, list_size, branch_list_size}
use Rattle.csn_grammar.specs.Names.{is_built_in, rule_of}
use Rattle.csn_resolve.specs.declared.why.Why.TheVariants.{Undefined, Recursive, IntersectionForm}
use Rattle.csn_resolve.specs.Gives.{start_of}
use Rattle.csn_resolve.specs.Walk.{is_among, entering, node_at, turn_begun}
use Rattle.csn_resolve.specs.Going.{way, stopped, LeafGoes}
use Rattle.csn_resolve.specs.Views.{around_view, entered_view, seen_view, width_view, tail_view, end_view}
use Rattle.csn_resolve.proofs.Basics.Parts.{item_size, branch_size_of, take_short, get_within}
use Rattle.csn_resolve.proofs.Walking.DepthFacts.{in_deepest, deeper, entered}
use Rattle.csn_resolve.proofs.Naming.ViewFacts.{known}
use Rattle.csn_resolve.proofs.Walking.GoingFacts.{exit-stops, stops-same, stops-in, stops-first, stops-later}
use Rattle.csn_resolve.proofs.Walking.GoingFacts.{stops-second, stops-third, goes-same, goes-after, goes-on}
use Rattle.csn_resolve.proofs.Walking.GoingFacts.{goes-third, way-on, way-third, refused-after}
use Rattle.csn_resolve.proofs.Walking.Inversion.{lits-steps, null-steps, bit-steps, octet-steps, labelled-steps}
use Rattle.csn_resolve.proofs.Walking.Inversion.{group-steps, seq-steps, choice-steps, cut-steps, sends-steps}
use Rattle.csn_resolve.proofs.Walking.Inversion.{built-in-steps, name-steps, undefined-steps, recursive-steps}
use Rattle.csn_resolve.proofs.Walking.Inversion.{rule-steps, power-steps, both-steps, window-behind-steps}
use Rattle.csn_resolve.proofs.Walking.Inversion.{no-window-steps, items-end-steps, branches-end-steps, as-form}
use Rattle.csn_resolve.proofs.Walking.Inversion.{walk-in, branches-in, items-like, branches-as, count-at}
use Rattle.csn_resolve.proofs.Walking.Inversion.{tail-steps-at, power-stop, power-leaf, power-part}
use Rattle.csn_resolve.proofs.Walking.WalkFacts.{putting-in}
use Rattle.csn_resolve.proofs.Walking.WalkForms.{leaf-goes, front-stops, inside-goes, window-at, item-next, branch-next}
use Rattle.csn_resolve.proofs.walker.Walker.+walk.Goals as goal

pub walk-returns-in-Lits : goal.walk-returns-in-Lits
walk-returns-in-Lits t c = leaf-goes c.args.self.now.names.now c.args.self.now.reading
    (around_view c.args.self.now.reading c.args.around) c.args.x.now c.args.begun.nodes c.begin.result
    (known c.args.x.now c.x.inside.span c.x.inside.form _ c.x.view_is c.in-Lits.is)
    (λ steps walk. lits-steps c.args.self.now.names.now c.args.self.now.reading walk) c.begin.ensures.steps

pub walk-returns-in-Null : goal.walk-returns-in-Null
walk-returns-in-Null t c = leaf-goes c.args.self.now.names.now c.args.self.now.reading
    (around_view c.args.self.now.reading c.args.around) c.args.x.now c.args.begun.nodes c.begin-in-Null.result
    (known c.args.x.now c.x.inside.span c.x.inside.form _ c.x.view_is c.in-Null.is)
    (λ steps walk. null-steps c.args.self.now.names.now c.args.self.now.reading walk) c.begin-in-Null.ensures.steps

pub walk-returns-in-Bit : goal.walk-returns-in-Bit
walk-returns-in-Bit t c = leaf-goes c.args.self.now.names.now c.args.self.now.reading
    (around_view c.args.self.now.reading c.args.around) c.args.x.now c.args.begun.nodes c.begin-in-Bit.result
    (known c.args.x.now c.x.inside.span c.x.inside.form _ c.x.view_is c.in-Bit.is)
    (λ steps walk. bit-steps c.args.self.now.names.now c.args.self.now.reading walk) c.begin-in-Bit.ensures.steps

pub walk-returns-in-Octet : goal.walk-returns-in-Octet
walk-returns-in-Octet t c = leaf-goes c.args.self.now.names.now c.args.self.now.reading
    (around_view c.args.self.now.reading c.args.around) c.args.x.now c.args.begun.nodes c.begin-in-Octet.result
    (known c.args.x.now c.x.inside.span c.x.inside.form _ c.x.view_is c.in-Octet.is)
    (λ steps walk. octet-steps c.args.self.now.names.now c.args.self.now.reading walk) c.begin-in-Octet.ensures.steps

pub walk-returns-in_err-begun-in-Labelled : goal.walk-returns-in_err-begun-in-Labelled
walk-returns-in_err-begun-in-Labelled t c = front-stops c.args.self.now.names.now c.args.self.now.reading
    (around_view c.args.self.now.reading c.args.around) c.args.x.now
    (node_at (around_view c.args.self.now.reading c.args.around) c.x.inside.span.start)
    c.args.begun.nodes _ c.from_residual.result
    (known c.args.x.now c.x.inside.span c.x.inside.form _ c.x.view_is c.in-Labelled.is) (λ steps walk. let parts =
    labelled-steps c.args.self.now.names.now c.args.self.now.reading walk in
    (parts.0, parts.2)) c.from_residual.ensures.1 c.in_err-begun-in-Labelled.ensures.steps

pub walk-returns-in_err-begun-in-Seq : goal.walk-returns-in_err-begun-in-Seq
walk-returns-in_err-begun-in-Seq t c = front-stops c.args.self.now.names.now c.args.self.now.reading
    (around_view c.args.self.now.reading c.args.around) c.args.x.now
    (node_at (around_view c.args.self.now.reading c.args.around) c.x.inside.span.start)
    c.args.begun.nodes _ c.from_residual-in_err-begun-in-Seq.result
    (known c.args.x.now c.x.inside.span c.x.inside.form _ c.x.view_is c.in-Seq.is) (λ steps walk. let parts =
    seq-steps c.args.self.now.names.now c.args.self.now.reading walk in
    (parts.0, parts.2)) c.from_residual-in_err-begun-in-Seq.ensures.1 c.in_err-begun-in-Seq.ensures.steps

pub walk-returns-in_err-begun-in-Choice : goal.walk-returns-in_err-begun-in-Choice
walk-returns-in_err-begun-in-Choice t c = front-stops c.args.self.now.names.now c.args.self.now.reading
    (around_view c.args.self.now.reading c.args.around) c.args.x.now
    (node_at (around_view c.args.self.now.reading c.args.around) c.x.inside.span.start)
    c.args.begun.nodes _ c.from_residual-in_err-begun-in-Choice.result
    (known c.args.x.now c.x.inside.span c.x.inside.form _ c.x.view_is c.in-Choice.is) (λ steps walk. let parts =
    choice-steps c.args.self.now.names.now c.args.self.now.reading walk in
    (parts.0, parts.2)) c.from_residual-in_err-begun-in-Choice.ensures.1 c.in_err-begun-in-Choice.ensures.steps

pub walk-returns-in_err-begun-in-Cut : goal.walk-returns-in_err-begun-in-Cut
walk-returns-in_err-begun-in-Cut t c = front-stops c.args.self.now.names.now c.args.self.now.reading
    (around_view c.args.self.now.reading c.args.around) c.args.x.now
    (node_at (around_view c.args.self.now.reading c.args.around) c.x.inside.span.start)
    c.args.begun.nodes _ c.from_residual-in_err-begun-in-Cut.result
    (known c.args.x.now c.x.inside.span c.x.inside.form _ c.x.view_is c.in-Cut.is) (λ steps walk. let parts =
    cut-steps c.args.self.now.names.now c.args.self.now.reading walk in
    (parts.0, parts.2)) c.from_residual-in_err-begun-in-Cut.ensures.1 c.in_err-begun-in-Cut.ensures.steps

pub walk-returns-in_err-enter-in-Group : goal.walk-returns-in_err-enter-in-Group
walk-returns-in_err-enter-in-Group t c = front-stops c.args.self.now.names.now c.args.self.now.reading
    (around_view c.args.self.now.reading c.args.around) c.args.x.now
    (entering (around_view c.args.self.now.reading c.args.around) c.x.inside.span.start)
    c.args.begun.nodes _ c.from_residual-in_err-enter-in-Group.result
    (known c.args.x.now c.x.inside.span c.x.inside.form _ c.x.view_is c.in-Group.is) (λ steps walk. let parts =
    group-steps c.args.self.now.names.now c.args.self.now.reading walk in
    (parts.0, parts.2)) c.from_residual-in_err-enter-in-Group.ensures.1
    (c.in_err-enter-in-Group.ensures.steps c.args.begun.nodes)

pub walk-returns-in_ok-begun-in-Labelled : goal.walk-returns-in_ok-begun-in-Labelled
walk-returns-in_ok-begun-in-Labelled t c =
    inside-goes c.args.self.now.names.now c.args.self.now.reading (around_view c.args.self.now.reading c.args.around)
    c.args.x.now (node_at (around_view c.args.self.now.reading c.args.around) c.x.inside.span.start)
    c.args.begun.nodes c.in_ok-begun-in-Labelled.begun.nodes c.walk.result
    (known c.args.x.now c.x.inside.span c.x.inside.form _ c.x.view_is c.in-Labelled.is)
    (λ steps walk. let parts = labelled-steps c.args.self.now.names.now c.args.self.now.reading walk in (
      parts.0,
      parts.2,
      c.walk.ensures parts.0 (as-form c.args.self.now.names.now c.args.self.now.reading
          (sym c.deref.ensures) (walk-in c.args.self.now.names.now c.args.self.now.reading
          (c.inside.ensures.around c.args.self.now.reading) parts.1)),
    ))
    c.in_ok-begun-in-Labelled.ensures.steps

pub walk-returns-in_ok-enter-in-Group : goal.walk-returns-in_ok-enter-in-Group
walk-returns-in_ok-enter-in-Group t c =
    inside-goes c.args.self.now.names.now c.args.self.now.reading (around_view c.args.self.now.reading c.args.around)
    c.args.x.now (entering (around_view c.args.self.now.reading c.args.around) c.x.inside.span.start)
    c.args.begun.nodes c.args.begun.nodes c.walk-in-Group.result
    (known c.args.x.now c.x.inside.span c.x.inside.form _ c.x.view_is c.in-Group.is)
    (λ steps walk. let parts = group-steps c.args.self.now.names.now c.args.self.now.reading walk in (
      parts.0,
      parts.2,
      c.walk-in-Group.ensures parts.0 (as-form c.args.self.now.names.now c.args.self.now.reading
          (sym c.deref-in-Group.ensures) (walk-in c.args.self.now.names.now c.args.self.now.reading
          (c.inside-in-Group.ensures.around c.args.self.now.reading) parts.1)),
    ))
    (c.in_ok-enter-in-Group.ensures.steps c.args.begun.nodes)

pub walk-returns-in_ok-begun-in-Seq : goal.walk-returns-in_ok-begun-in-Seq
walk-returns-in_ok-begun-in-Seq t c =
    let all : c.in-Seq.items ≡ take c.len.result c.in-Seq.items = sym (take_all c.len.result c.in-Seq.items (omega (arith, c.len.ensures.len))) in
    inside-goes c.args.self.now.names.now c.args.self.now.reading (around_view c.args.self.now.reading c.args.around)
    c.args.x.now (node_at (around_view c.args.self.now.reading c.args.around) c.x.inside.span.start)
    c.args.begun.nodes c.in_ok-begun-in-Seq.begun.nodes c.walk_items.result
    (known c.args.x.now c.x.inside.span c.x.inside.form _ c.x.view_is c.in-Seq.is)
    (λ steps walk. let parts = seq-steps c.args.self.now.names.now c.args.self.now.reading walk in (
      parts.0,
      parts.2,
      c.walk_items.ensures parts.0 (items-like c.args.self.now.names.now c.args.self.now.reading
          (c.inside-in-Seq.ensures.around c.args.self.now.reading) refl (ap exprs_of all) parts.1),
    ))
    c.in_ok-begun-in-Seq.ensures.steps

pub walk-returns-in_ok-begun-in-Choice : goal.walk-returns-in_ok-begun-in-Choice
walk-returns-in_ok-begun-in-Choice t c =
    inside-goes c.args.self.now.names.now c.args.self.now.reading (around_view c.args.self.now.reading c.args.around)
    c.args.x.now (node_at (around_view c.args.self.now.reading c.args.around) c.x.inside.span.start)
    c.args.begun.nodes c.in_ok-begun-in-Choice.begun.nodes c.walk_branches.result
    (known c.args.x.now c.x.inside.span c.x.inside.form _ c.x.view_is c.in-Choice.is)
    (λ steps walk. let parts = choice-steps c.args.self.now.names.now c.args.self.now.reading walk in (
      parts.0,
      parts.2,
      c.walk_branches.ensures parts.0
          (branches-in c.args.self.now.names.now c.args.self.now.reading
          (c.inside-in-Choice.ensures.around c.args.self.now.reading) parts.1),
    ))
    c.in_ok-begun-in-Choice.ensures.steps

pub walk-returns-in_ok-begun-in-Cut : goal.walk-returns-in_ok-begun-in-Cut
walk-returns-in_ok-begun-in-Cut t c =
    let all : c.in-Cut.items ≡ take c.len-in-Cut.result c.in-Cut.items =
    sym (take_all c.len-in-Cut.result c.in-Cut.items (omega (arith, c.len-in-Cut.ensures.len))) in
    inside-goes c.args.self.now.names.now c.args.self.now.reading (around_view c.args.self.now.reading c.args.around)
    c.args.x.now (node_at (around_view c.args.self.now.reading c.args.around) c.x.inside.span.start)
    c.args.begun.nodes c.in_ok-begun-in-Cut.begun.nodes c.walk_items-in-Cut.result
    (known c.args.x.now c.x.inside.span c.x.inside.form _ c.x.view_is c.in-Cut.is)
    (λ steps walk. let parts = cut-steps c.args.self.now.names.now c.args.self.now.reading walk in (
      parts.0,
      parts.2,
      c.walk_items-in-Cut.ensures parts.0
          (items-like c.args.self.now.names.now c.args.self.now.reading
          (c.inside-in-Cut.ensures.around c.args.self.now.reading) refl (ap exprs_of all) parts.1),
    ))
    c.in_ok-begun-in-Cut.ensures.steps

pub walk-returns-in_err-begun-in-Sends : goal.walk-returns-in_err-begun-in-Sends
walk-returns-in_err-begun-in-Sends t c =
    λ steps h.
    let is = known c.args.x.now c.x.inside.span c.x.inside.form _ c.x.view_is c.in-Sends.is in
    let parts = sends-steps c.args.self.now.names.now c.args.self.now.reading (as-form c.args.self.now.names.now c.args.self.now.reading is h) in
    exit-stops c.args.begun.nodes steps _ c.from_residual-in_err-begun-in-Sends.result
    c.from_residual-in_err-begun-in-Sends.ensures.1 (stops-in c.args.begun.nodes parts.0 parts.1 steps _ parts.4
    (c.in_err-begun-in-Sends.ensures parts.0 (as-form c.args.self.now.names.now c.args.self.now.reading
    (sym c.deref-in-Sends.ensures) parts.2)))

pub walk-returns-in_ok-begun-in-Sends : goal.walk-returns-in_ok-begun-in-Sends
walk-returns-in_ok-begun-in-Sends t c =
    λ steps h.
    let is = known c.args.x.now c.x.inside.span c.x.inside.form _ c.x.view_is c.in-Sends.is in
    let parts = sends-steps c.args.self.now.names.now c.args.self.now.reading (as-form c.args.self.now.names.now c.args.self.now.reading is h) in
    goes-after c.args.begun.nodes c.in_ok-begun-in-Sends.begun.nodes parts.0 parts.1 steps c.walk-in-Sends-2.result
    parts.4 (c.in_ok-begun-in-Sends.ensures parts.0 (as-form c.args.self.now.names.now c.args.self.now.reading
    (sym c.deref-in-Sends.ensures) parts.2))
    (c.walk-in-Sends-2.ensures parts.1 (as-form c.args.self.now.names.now c.args.self.now.reading
    (sym c.deref-in-Sends-2.ensures) parts.3))

pub walk-walk-requires : goal.walk-walk-requires
walk-walk-requires t c =
    let is = known c.args.x.now c.x.inside.span c.x.inside.form _ c.x.view_is c.in-Labelled.is in
    let size : expr_size c.args.x.now ≡ expr_size c.in-Labelled.part.value + 1 = ap expr_size is in
    let same : expr_size c.deref.result.now ≡ expr_size c.in-Labelled.part.value = ap expr_size c.deref.ensures in
    let less = deeper c.args.self.now.names.now c.args.around.depth (c.args.around.depth + 1) (expr_size c.deref.result.now) (omega arith) in
    rw c.inside.ensures.depth (omega (arith, less, size, same, c.decreases), omega (arith, size, same, c.requires))

pub walk-walk-requires-in-Group : goal.walk-walk-requires-in-Group
walk-walk-requires-in-Group t c =
    let is = known c.args.x.now c.x.inside.span c.x.inside.form _ c.x.view_is c.in-Group.is in
    let size : expr_size c.args.x.now ≡ expr_size c.in-Group.part.value + 1 = ap expr_size is in
    let same : expr_size c.deref-in-Group.result.now ≡ expr_size c.in-Group.part.value = ap expr_size c.deref-in-Group.ensures in
    let less = deeper c.args.self.now.names.now c.args.around.depth (c.args.around.depth + 1) (expr_size c.deref-in-Group.result.now) (omega arith) in
    rw c.inside-in-Group.ensures.depth (omega (arith, less, size, same, c.decreases), omega (arith, size, same, c.requires))

pub walk-walk_items-requires : goal.walk-walk_items-requires
walk-walk_items-requires t c =
    let is = known c.args.x.now c.x.inside.span c.x.inside.form _ c.x.view_is c.in-Seq.is in
    let size : expr_size c.args.x.now ≡ list_size c.in-Seq.items + 1 = ap expr_size is in
    let less = deeper c.args.self.now.names.now c.args.around.depth (c.args.around.depth + 1) (list_size c.in-Seq.items) (omega arith) in
    rw c.inside-in-Seq.ensures.depth (omega (arith, less, size, c.decreases), (omega (arith, c.len.ensures.len), omega (arith, size, c.requires)))

pub walk-walk_items-requires-in-Cut : goal.walk-walk_items-requires-in-Cut
walk-walk_items-requires-in-Cut t c =
    let is = known c.args.x.now c.x.inside.span c.x.inside.form _ c.x.view_is c.in-Cut.is in
    let size : expr_size c.args.x.now ≡ list_size c.in-Cut.items + 1 = ap expr_size is in
    let less = deeper c.args.self.now.names.now c.args.around.depth (c.args.around.depth + 1) (list_size c.in-Cut.items) (omega arith) in
    rw c.inside-in-Cut.ensures.depth (omega (arith, less, size, c.decreases), (omega (arith, c.len-in-Cut.ensures.len), omega (arith, size, c.requires)))

pub walk-walk_branches-requires : goal.walk-walk_branches-requires
walk-walk_branches-requires t c =
    let is = known c.args.x.now c.x.inside.span c.x.inside.form _ c.x.view_is c.in-Choice.is in
    let size : expr_size c.args.x.now ≡ branch_list_size c.in-Choice.branches + 1 = ap expr_size is in
    let less = deeper c.args.self.now.names.now c.args.around.depth (c.args.around.depth + 1) (branch_list_size c.in-Choice.branches) (omega arith) in
    rw c.inside-in-Choice.ensures.depth (omega (arith, less, size, c.decreases), omega (arith, size, c.requires))

pub walk-walk-requires-in-Sends : goal.walk-walk-requires-in-Sends
walk-walk-requires-in-Sends t c =
    let is = known c.args.x.now c.x.inside.span c.x.inside.form _ c.x.view_is c.in-Sends.is in
    let size : expr_size c.args.x.now ≡ max (expr_size c.in-Sends.left.value) (expr_size c.in-Sends.right.value) + 1 = ap expr_size is in
    let same : expr_size c.deref-in-Sends.result.now ≡ expr_size c.in-Sends.left.value = ap expr_size c.deref-in-Sends.ensures in
    (omega (arith, size, same, c.decreases), omega (arith, size, same, c.requires))

pub walk-walk-requires-in-Sends-2 : goal.walk-walk-requires-in-Sends-2
walk-walk-requires-in-Sends-2 t c =
    let is = known c.args.x.now c.x.inside.span c.x.inside.form _ c.x.view_is c.in-Sends.is in
    let size : expr_size c.args.x.now ≡ max (expr_size c.in-Sends.left.value) (expr_size c.in-Sends.right.value) + 1 = ap expr_size is in
    let same : expr_size c.deref-in-Sends-2.result.now ≡ expr_size c.in-Sends.right.value = ap expr_size c.deref-in-Sends-2.ensures in
    (omega (arith, size, same, c.decreases), omega (arith, size, same, c.requires))

pub walk-walk_power-requires : goal.walk-walk_power-requires
walk-walk_power-requires t c =
    let is = known c.args.x.now c.x.inside.span c.x.inside.form _ c.x.view_is c.in-Power.is in
    let size : expr_size c.args.x.now ≡ expr_size c.in-Power.part.value + 1 = ap expr_size is in
    let same : expr_size c.deref-in-Power.result.now ≡ expr_size c.in-Power.part.value = ap expr_size c.deref-in-Power.ensures in
    (omega (arith, size, same, c.decreases), omega (arith, size, same, c.requires))

pub walk-walk_both-requires : goal.walk-walk_both-requires
walk-walk_both-requires t c =
    let is = known c.args.x.now c.x.inside.span c.x.inside.form _ c.x.view_is c.in-Both.is in
    let size : expr_size c.args.x.now ≡ max (expr_size c.in-Both.left.value) (expr_size c.in-Both.right.value) + 1 = ap expr_size is in
    let left : expr_size c.deref-in-Both.result.now ≡ expr_size c.in-Both.left.value = ap expr_size c.deref-in-Both.ensures in
    let right : expr_size c.deref-in-Both-2.result.now ≡ expr_size c.in-Both.right.value = ap expr_size c.deref-in-Both-2.ensures in
    (omega (arith, size, left, right, c.decreases), omega (arith, size, left, right, c.requires))

pub walk-returns-in-Name : goal.walk-returns-in-Name
walk-returns-in-Name t c = λ steps h. c.walk_name.ensures c.x.inside.span.end steps
    (as-form c.args.self.now.names.now c.args.self.now.reading
    (known c.args.x.now c.x.inside.span c.x.inside.form _ c.x.view_is c.in-Name.is) h)

pub walk-returns-in-Power : goal.walk-returns-in-Power
walk-returns-in-Power t c =
    λ steps h.
    let is = known c.args.x.now c.x.inside.span c.x.inside.form _ c.x.view_is c.in-Power.is in
    let form = is ∙ ap (λ (z : ExprV). expr c.x.inside.span.start c.x.inside.span.end (power z c.in-Power.count)) (sym c.deref-in-Power.ensures) in
    c.walk_power.ensures c.x.inside.span.end steps (as-form c.args.self.now.names.now c.args.self.now.reading form h)

pub walk-returns-in-Both : goal.walk-returns-in-Both
walk-returns-in-Both t c =
    λ steps h.
    let is = known c.args.x.now c.x.inside.span c.x.inside.form _ c.x.view_is c.in-Both.is in
    let form = is ∙ (ap (λ (z : ExprV). expr c.x.inside.span.start c.x.inside.span.end (both z c.in-Both.right.value))
    (sym c.deref-in-Both.ensures)
    ∙ ap (λ (z : ExprV). expr c.x.inside.span.start c.x.inside.span.end (both c.deref-in-Both.result.now z))
    (sym c.deref-in-Both-2.ensures)) in
    c.walk_both.ensures c.x.inside.span.end steps (as-form c.args.self.now.names.now c.args.self.now.reading form h)

pub walk_both-walk-requires : goal.walk_both-walk-requires
walk_both-walk-requires t c =
    let less = deeper c.args.self.now.names.now c.args.around.depth (c.args.around.depth + 1) (expr_size c.args.right.now) (omega arith) in
    rw c.inside.ensures.depth (omega (arith, less, c.decreases), omega (arith, c.requires))

pub walk_both-walk-requires-in-Some-width_of : goal.walk_both-walk-requires-in-Some-width_of
walk_both-walk-requires-in-Some-width_of t c =
    let less = deeper c.args.self.now.names.now c.args.around.depth (c.args.around.depth + 1) (expr_size c.args.left.now) (omega arith) in
    rw c.inside-in-Some-width_of.ensures.depth (omega (arith, less, c.decreases), omega (arith, c.requires))

pub walk_power-walk-requires : goal.walk_power-walk-requires
walk_power-walk-requires t c =
    let less = deeper c.args.self.now.names.now c.args.around.depth (c.args.around.depth + 1) (expr_size c.args.part.now) (omega arith) in
    rw c.inside.ensures.depth (omega (arith, less, c.decreases), omega (arith, c.requires))

pub walk_both-returns-in_err-begun : goal.walk_both-returns-in_err-begun
walk_both-returns-in_err-begun t c = λ end. front-stops c.args.self.now.names.now c.args.self.now.reading
    (around_view c.args.self.now.reading c.args.around)
    (expr c.args.place end (both c.args.left.now c.args.right.now))
    (node_at (around_view c.args.self.now.reading c.args.around) c.args.place)
    c.args.begun.nodes _ c.from_residual.result refl
    (λ steps walk. both-steps c.args.self.now.names.now c.args.self.now.reading walk)
    c.from_residual.ensures.1 c.in_err-begun.ensures.steps

pub walk_both-returns-in_err-check_width : goal.walk_both-returns-in_err-check_width
walk_both-returns-in_err-check_width t c =
    λ end steps h.
    let begins : start_of c.args.left.now ≡ c.left.inside.span.start = sym (ap start_of c.left.view_is) in
    let parts = window-at c.args.self.now.names.now c.args.self.now.reading (width_view c.in-Some.width)
    c.left.inside.span.start begins (sym c.in-Some.ensures) h in
    exit-stops c.args.begun.nodes steps _ c.from_residual-in_err-check_width.result
    c.from_residual-in_err-check_width.ensures.1 (stops-second c.args.begun.nodes c.in_ok-begun.begun.nodes
    (node_at (around_view c.args.self.now.reading c.args.around) c.args.place) parts.0 parts.1 steps _ parts.4
    c.in_ok-begun.ensures.steps (c.in_err-check_width.ensures parts.0 parts.2 c.in_ok-begun.begun.nodes))

pub walk_both-returns-in-Some : goal.walk_both-returns-in-Some
walk_both-returns-in-Some t c =
    λ end steps h.
    let begins : start_of c.args.left.now ≡ c.left.inside.span.start = sym (ap start_of c.left.view_is) in
    let parts = window-at c.args.self.now.names.now c.args.self.now.reading (width_view c.in-Some.width)
    c.left.inside.span.start begins (sym c.in-Some.ensures) h in
    let inner = walk-in c.args.self.now.names.now c.args.self.now.reading (c.inside.ensures.around c.args.self.now.reading) parts.3 in
    goes-third c.args.begun.nodes c.in_ok-begun.begun.nodes c.in_ok-begun.begun.nodes
    (node_at (around_view c.args.self.now.reading c.args.around) c.args.place) parts.0 parts.1 steps c.walk.result
    parts.4 c.in_ok-begun.ensures.steps (c.in_ok-check_width.ensures parts.0 parts.2 c.in_ok-begun.begun.nodes)
    (c.walk.ensures parts.1 inner)

pub walk_both-returns-in_err-begun-2 : goal.walk_both-returns-in_err-begun-2
walk_both-returns-in_err-begun-2 t c =
    λ end steps h.
    let parts = window-behind-steps c.args.self.now.names.now c.args.self.now.reading
    (width_view c.in-Some-width_of.width) (sym c.in_default.ensures) (sym c.in-Some-width_of.ensures) h in
    let inner = walk-in c.args.self.now.names.now c.args.self.now.reading (c.inside-in-Some-width_of.ensures.around c.args.self.now.reading) parts.2 in
    exit-stops c.args.begun.nodes steps _ c.from_residual-in_err-begun-2.result
    c.from_residual-in_err-begun-2.ensures.1 (stops-second c.args.begun.nodes c.in_ok-begun.begun.nodes
    (node_at (around_view c.args.self.now.reading c.args.around) c.args.place) parts.0 parts.1 steps _ parts.4
    c.in_ok-begun.ensures.steps (c.in_err-begun-2.ensures parts.0 inner))

pub walk_both-returns-in_err-check_width-2 : goal.walk_both-returns-in_err-check_width-2
walk_both-returns-in_err-check_width-2 t c =
    λ end steps h.
    let begins : start_of c.args.right.now ≡ c.right.inside.span.start = sym (ap start_of c.right.view_is) in
    let parts = window-behind-steps c.args.self.now.names.now c.args.self.now.reading
    (width_view c.in-Some-width_of.width) (sym c.in_default.ensures) (sym c.in-Some-width_of.ensures) h in
    let inner = walk-in c.args.self.now.names.now c.args.self.now.reading (c.inside-in-Some-width_of.ensures.around c.args.self.now.reading) parts.2 in
    let counts = count-at c.args.self.now.names.now c.args.self.now.reading begins parts.3 in
    exit-stops c.args.begun.nodes steps _ c.from_residual-in_err-check_width-2.result
    c.from_residual-in_err-check_width-2.ensures.1
    (stops-third c.args.begun.nodes c.in_ok-begun.begun.nodes c.in_ok-begun-2.begun.nodes
    (node_at (around_view c.args.self.now.reading c.args.around) c.args.place) parts.0 parts.1 steps _ parts.4
    c.in_ok-begun.ensures.steps (c.in_ok-begun-2.ensures parts.0 inner)
    (c.in_err-check_width-2.ensures parts.1 counts c.in_ok-begun-2.begun.nodes))

pub walk_both-returns-in-Some-width_of : goal.walk_both-returns-in-Some-width_of
walk_both-returns-in-Some-width_of t c =
    λ end steps h.
    let begins : start_of c.args.right.now ≡ c.right.inside.span.start = sym (ap start_of c.right.view_is) in
    let parts = window-behind-steps c.args.self.now.names.now c.args.self.now.reading
    (width_view c.in-Some-width_of.width) (sym c.in_default.ensures) (sym c.in-Some-width_of.ensures) h in
    let inner = walk-in c.args.self.now.names.now c.args.self.now.reading (c.inside-in-Some-width_of.ensures.around c.args.self.now.reading) parts.2 in
    let counts = count-at c.args.self.now.names.now c.args.self.now.reading begins parts.3 in
    way-third c.args.begun.nodes c.in_ok-begun.begun.nodes c.in_ok-begun-2.begun.nodes
    (node_at (around_view c.args.self.now.reading c.args.around) c.args.place)
    parts.0 parts.1 steps parts.4 c.in_ok-begun.ensures.steps (c.in_ok-begun-2.ensures parts.0 inner)
    ∙ c.in_ok-check_width-2.ensures parts.1 counts c.in_ok-begun-2.begun.nodes

pub walk_both-returns : goal.walk_both-returns
walk_both-returns t c =
    λ end steps h.
    let begins : start_of c.args.left.now ≡ c.left.inside.span.start = sym (ap start_of c.left.view_is) in
    let parts = no-window-steps c.args.self.now.names.now c.args.self.now.reading (sym c.in_default.ensures) (sym c.in_default-width_of.ensures) h in
    rw c.refusal.ensures (refused-after c.args.begun.nodes c.in_ok-begun.begun.nodes
    (node_at (around_view c.args.self.now.reading c.args.around) c.args.place) parts.0 steps IntersectionForm
    (start_of c.args.left.now) parts.1 c.in_ok-begun.ensures.steps ∙ ap (stopped IntersectionForm) begins)

pub walk_branches-walk-requires : goal.walk_branches-walk-requires
walk_branches-walk-requires t c =
    let body : expr_size c.branch.inside.body ≡ expr_size c.get-branch.result.now.body = ap (λ (z : BranchV). expr_size z.body) c.branch.view_is in
    let size = branch_size_of c.args.branches.now c.loop-at.at c.get-branch.result.now c.get-branch.ensures in
    (omega (arith, size, body, c.decreases), omega (arith, size, body, c.requires))

pub walk_branches-returns-in_err-begun : goal.walk_branches-returns-in_err-begun
walk_branches-returns-in_err-begun t c =
    λ steps h.
    let parts = branch-next c.args.self.now.names.now c.args.self.now.reading c.args.branches.now c.loop-at.at
    c.get-branch.result.now _ c.loop-at.begun.nodes c.args.begun.nodes steps c.get-branch.ensures
    (sym c.branch.view_is) (c.loop-at.invariant steps h) in
    exit-stops c.args.begun.nodes steps _ c.from_residual.result c.from_residual.ensures.1
    (stops-same _ parts.6 (stops-first c.loop-at.begun.nodes parts.0 (parts.1 ++ parts.2) _
    (c.in_err-begun.ensures parts.0 parts.3)))

pub walk_branches-returns-in_err-leave_branch : goal.walk_branches-returns-in_err-leave_branch
walk_branches-returns-in_err-leave_branch t c =
    λ steps h.
    let parts = branch-next c.args.self.now.names.now c.args.self.now.reading c.args.branches.now c.loop-at.at
    c.get-branch.result.now _ c.loop-at.begun.nodes c.args.begun.nodes steps c.get-branch.ensures
    (sym c.branch.view_is) (c.loop-at.invariant steps h) in
    exit-stops c.args.begun.nodes steps _ c.from_residual-in_err-leave_branch.result
    c.from_residual-in_err-leave_branch.ensures.1
    (stops-same _ parts.6 (stops-second c.loop-at.begun.nodes c.in_ok-begun.begun.nodes parts.0 parts.1 parts.2
    (parts.0 ++ (parts.1 ++ parts.2)) _ refl (c.in_ok-begun.ensures parts.0 parts.3)
    (c.in_err-leave_branch.ensures parts.1 parts.4 c.in_ok-begun.begun.nodes)))

pub walk_branches-loop-at-preserved : goal.walk_branches-loop-at-preserved
walk_branches-loop-at-preserved t c =
    λ steps h.
    let parts = branch-next c.args.self.now.names.now c.args.self.now.reading c.args.branches.now c.loop-at.at
    c.get-branch.result.now _ c.loop-at.begun.nodes c.args.begun.nodes steps c.get-branch.ensures
    (sym c.branch.view_is) (c.loop-at.invariant steps h) in (
      parts.2,
      parts.5,
      parts.6 ∙ way-third c.loop-at.begun.nodes c.in_ok-begun.begun.nodes c.in_ok-begun.begun.nodes
          parts.0 parts.1 parts.2 (parts.0 ++ (parts.1 ++ parts.2)) refl (c.in_ok-begun.ensures parts.0 parts.3)
          (c.in_ok-leave_branch.ensures parts.1 parts.4 c.in_ok-begun.begun.nodes),
    )

pub walk_branches-returns : goal.walk_branches-returns
walk_branches-returns t c =
    λ steps h.
    let before = c.loop-at.invariant steps h in
    let none : drop c.loop-at.at c.args.branches.now ≡ [] = drop_all c.loop-at.at c.args.branches.now (omega (arith, c.len-at-end.ensures.len)) in
    before.2 ∙ ap (way c.loop-at.begun.nodes) (branches-end-steps c.args.self.now.names.now c.args.self.now.reading
    (branches-as c.args.self.now.names.now c.args.self.now.reading (ap branches_of none) before.1))

pub walk_items-walk-requires : goal.walk_items-walk-requires
walk_items-walk-requires t c =
    let size = item_size c.args.items.now c.loop-at.at c.get-item.result.now c.get-item.ensures in
    rw c.behind.ensures.depth (omega (arith, size, c.decreases), omega (arith, size, c.requires.part))

pub walk_items-returns-in_err-begun : goal.walk_items-returns-in_err-begun
walk_items-returns-in_err-begun t c =
    λ steps h.
    let parts = item-next c.args.self.now.names.now c.args.self.now.reading c.args.around c.args.items c.args.count
    c.loop-at.at c.get-item.result.now (around_view c.args.self.now.reading c.behind.result)
    c.loop-at.begun.nodes c.args.begun.nodes steps (c.behind.ensures.around c.args.self.now.reading)
    c.loop-at-test.true c.get-item.ensures (c.loop-at.invariant steps h) in
    exit-stops c.args.begun.nodes steps _ c.from_residual.result c.from_residual.ensures.1
    (stops-same _ parts.6 (stops-first c.loop-at.begun.nodes parts.0 (parts.1 ++ parts.2) _
    (c.in_err-begun.ensures parts.0 parts.3)))

pub walk_items-returns-in_err-leave_item : goal.walk_items-returns-in_err-leave_item
walk_items-returns-in_err-leave_item t c =
    λ steps h.
    let parts = item-next c.args.self.now.names.now c.args.self.now.reading c.args.around c.args.items c.args.count
    c.loop-at.at c.get-item.result.now (around_view c.args.self.now.reading c.behind.result)
    c.loop-at.begun.nodes c.args.begun.nodes steps (c.behind.ensures.around c.args.self.now.reading)
    c.loop-at-test.true c.get-item.ensures (c.loop-at.invariant steps h) in
    exit-stops c.args.begun.nodes steps _ c.from_residual-in_err-leave_item.result
    c.from_residual-in_err-leave_item.ensures.1
    (stops-same _ parts.6 (stops-second c.loop-at.begun.nodes c.in_ok-begun.begun.nodes parts.0 parts.1 parts.2
    (parts.0 ++ (parts.1 ++ parts.2)) _ refl (c.in_ok-begun.ensures parts.0 parts.3)
    (c.in_err-leave_item.ensures parts.1 parts.4 c.in_ok-begun.begun.nodes)))

pub walk_items-loop-at-preserved : goal.walk_items-loop-at-preserved
walk_items-loop-at-preserved t c =
    λ steps h.
    let parts = item-next c.args.self.now.names.now c.args.self.now.reading c.args.around c.args.items c.args.count
    c.loop-at.at c.get-item.result.now (around_view c.args.self.now.reading c.behind.result)
    c.loop-at.begun.nodes c.args.begun.nodes steps (c.behind.ensures.around c.args.self.now.reading)
    c.loop-at-test.true c.get-item.ensures (c.loop-at.invariant steps h) in (
      parts.2,
      parts.5,
      parts.6 ∙ way-third c.loop-at.begun.nodes c.in_ok-begun.begun.nodes c.in_ok-begun.begun.nodes
          parts.0 parts.1 parts.2 (parts.0 ++ (parts.1 ++ parts.2)) refl (c.in_ok-begun.ensures parts.0 parts.3)
          (c.in_ok-leave_item.ensures parts.1 parts.4 c.in_ok-begun.begun.nodes),
    )

pub walk_items-returns : goal.walk_items-returns
walk_items-returns t c =
    λ steps h.
    let before = c.loop-at.invariant steps h in
    let none : drop c.loop-at.at (take c.args.count c.args.items.now) ≡ [] =
    drop_all c.loop-at.at (take c.args.count c.args.items.now)
    (omega (arith, take_short c.args.count c.args.items.now)) in
    before.2 ∙ ap (way c.loop-at.begun.nodes) (items-end-steps c.args.self.now.names.now c.args.self.now.reading
    (items-like c.args.self.now.names.now c.args.self.now.reading refl refl (ap exprs_of none) before.1))

pub walk_name-returns-then-is_built_in : goal.walk_name-returns-then-is_built_in
walk_name-returns-then-is_built_in t c =
    λ end steps h.
    let built : is_built_in c.args.label.now ≡ true = ap is_built_in (sym c.bytes.ensures.value) ∙ (sym c.is_built_in.ensures ∙ c.if-is_built_in.true) in
    goes-same c.args.begun.nodes steps (node_at (around_view c.args.self.now.reading c.args.around) c.args.place)
    c.begin.result (built-in-steps c.args.self.now.names.now c.args.self.now.reading c.args.label.now built h)
    c.begin.ensures.steps

pub walk_name-returns-in_err-enter : goal.walk_name-returns-in_err-enter
walk_name-returns-in_err-enter t c =
    λ end steps h.
    let built : is_built_in c.args.label.now ≡ false = ap is_built_in (sym c.bytes.ensures.value) ∙ (sym c.is_built_in.ensures ∙ c.if-is_built_in.false) in
    let parts = name-steps c.args.self.now.names.now c.args.self.now.reading c.args.label.now built h in
    exit-stops c.args.begun.nodes steps _ c.from_residual.result c.from_residual.ensures.1
    (stops-in c.args.begun.nodes (entering (around_view c.args.self.now.reading c.args.around) c.args.place)
    parts.0 steps _ parts.1 (c.in_err-enter.ensures.steps c.args.begun.nodes))

pub walk_name-returns-in_default : goal.walk_name-returns-in_default
walk_name-returns-in_default t c =
    λ end steps h.
    let built : is_built_in c.args.label.now ≡ false = ap is_built_in (sym c.bytes.ensures.value) ∙ (sym c.is_built_in.ensures ∙ c.if-is_built_in.false) in
    let none : rule_of c.args.self.now.names.now c.args.label.now ≡ None = ap (rule_of c.args.self.now.names.now)
    (sym c.bytes-2.ensures.value) ∙ c.in_default.ensures.rule in
    rw c.refusal.ensures (refused-after c.args.begun.nodes c.args.begun.nodes
    (entering (around_view c.args.self.now.reading c.args.around) c.args.place) [] steps Undefined c.args.place
    (undefined-steps c.args.self.now.names.now c.args.self.now.reading c.args.label.now built none h)
    (c.in_ok-enter.ensures.steps c.args.begun.nodes))

pub walk_name-returns-then-has : goal.walk_name-returns-then-has
walk_name-returns-then-has t c =
    λ end steps h.
    let built : is_built_in c.args.label.now ≡ false = ap is_built_in (sym c.bytes.ensures.value) ∙ (sym c.is_built_in.ensures ∙ c.if-is_built_in.false) in
    let found = get_within c.args.self.now.names.now c.in-Some.number c.in-Some.ensures.within in
    let some : rule_of c.args.self.now.names.now c.args.label.now ≡ Some found.0 =
    ap (rule_of c.args.self.now.names.now) (sym c.bytes-2.ensures.value) ∙ (c.in-Some.ensures.rule ∙ found.1) in
    let among : is_among c.args.label.now (entered_view c.args.around.names.now) ≡ true =
    ap (λ (z : List ℕ). is_among z (entered_view c.args.around.names.now)) (sym c.bytes-3.ensures.value)
    ∙ (sym c.has.ensures ∙ c.if-has.true) in
    rw c.refusal-then-has.ensures (refused-after c.args.begun.nodes c.args.begun.nodes
    (entering (around_view c.args.self.now.reading c.args.around) c.args.place) [] steps Recursive c.args.place
    (recursive-steps c.args.self.now.names.now c.args.self.now.reading c.args.label.now found.0 built some among
    h) (c.in_ok-enter.ensures.steps c.args.begun.nodes))

pub walk_name-walk_rule-requires : goal.walk_name-walk_rule-requires
walk_name-walk_rule-requires t c =
    let small = in_deepest c.args.self.now.names.now c.in-Some.number c.rule.result.now c.rule.ensures in
    let shallow : c.args.around.depth < 65 = omega (arith, c.in_ok-enter.ensures.shallow) in
    let room = entered c.args.self.now.names.now c.args.around.depth (expr_size c.rule.result.now.body) shallow small in
    (omega (arith, room, c.decreases), small)

pub walk_name-returns : goal.walk_name-returns
walk_name-returns t c =
    λ end steps h.
    let built : is_built_in c.args.label.now ≡ false = ap is_built_in (sym c.bytes.ensures.value) ∙ (sym c.is_built_in.ensures ∙ c.if-is_built_in.false) in
    let some : rule_of c.args.self.now.names.now c.args.label.now ≡ Some c.rule.result.now =
    ap (rule_of c.args.self.now.names.now) (sym c.bytes-2.ensures.value)
    ∙ (c.in-Some.ensures.rule ∙ c.rule.ensures) in
    let new : is_among c.args.label.now (entered_view c.args.around.names.now) ≡ false =
    ap (λ (z : List ℕ). is_among z (entered_view c.args.around.names.now)) (sym c.bytes-3.ensures.value)
    ∙ (sym c.has.ensures ∙ c.if-has.false) in
    let parts = rule-steps c.args.self.now.names.now c.args.self.now.reading c.args.label.now c.rule.result.now built some new h in
    goes-after c.args.begun.nodes c.args.begun.nodes (entering (around_view c.args.self.now.reading c.args.around)
    c.args.place) parts.0 steps c.walk_rule.result parts.2 (c.in_ok-enter.ensures.steps c.args.begun.nodes)
    (c.walk_rule.ensures parts.0 (putting-in c.args.self.now.names.now c.args.self.now.reading c.args.around
    c.bytes-4.result c.args.label.now c.bytes-4.ensures.value parts.1))

pub walk_power-returns-in_err-begun : goal.walk_power-returns-in_err-begun
walk_power-returns-in_err-begun t c = λ end. front-stops c.args.self.now.names.now c.args.self.now.reading
    (around_view c.args.self.now.reading c.args.around)
    (expr c.args.place end (power c.args.part.now c.args.count.now))
    (node_at (around_view c.args.self.now.reading c.args.around) c.args.place)
    c.args.begun.nodes _ c.from_residual.result refl
    (λ steps walk. power-steps c.args.self.now.names.now c.args.self.now.reading walk)
    c.from_residual.ensures.1 c.in_err-begun.ensures.steps

pub walk_power-returns-in_err-is_leaf : goal.walk_power-returns-in_err-is_leaf
walk_power-returns-in_err-is_leaf t c =
    λ end steps h.
    exit-stops c.args.begun.nodes steps _ c.from_residual-in_err-is_leaf.result
    c.from_residual-in_err-is_leaf.ensures.1
    (power-stop c.args.self.now.names.now c.args.self.now.reading c.args.count.now c.args.begun.nodes
    c.in_ok-begun.begun.nodes _ c.in_err-is_leaf.ensures c.in_ok-begun.ensures.steps h)

pub walk_power-returns-then-branch : goal.walk_power-returns-then-branch
walk_power-returns-then-branch t c =
    λ end steps h.
    let Q : Bool → Type 0 = λ z. LeafGoes c.args.self.now.names.now c.args.self.now.reading
    (seen_view c.args.self.now.reading c.args.around.seen.now) c.args.place c.args.part.now c.args.count.now
    (Ok z) in
    let leaf = subst Q c.if-branch.true c.in_ok-is_leaf.ensures in
    power-leaf c.args.self.now.names.now c.args.self.now.reading c.args.count.now c.args.begun.nodes
    c.in_ok-begun.begun.nodes leaf c.in_ok-begun.ensures.steps h

pub walk_power-returns-in_err-begun-2 : goal.walk_power-returns-in_err-begun-2
walk_power-returns-in_err-begun-2 t c =
    λ end steps h.
    let Q : Bool → Type 0 = λ z. LeafGoes c.args.self.now.names.now c.args.self.now.reading
    (seen_view c.args.self.now.reading c.args.around.seen.now) c.args.place c.args.part.now c.args.count.now
    (Ok z) in
    let leaf = subst Q c.if-branch.false c.in_ok-is_leaf.ensures in
    let parts = power-part c.args.self.now.names.now c.args.self.now.reading c.args.count.now c.args.begun.nodes
    c.in_ok-begun.begun.nodes leaf c.in_ok-begun.ensures.steps h in
    let inner = walk-in c.args.self.now.names.now c.args.self.now.reading (c.inside.ensures.around c.args.self.now.reading) parts.2 in
    exit-stops c.args.begun.nodes steps _ c.from_residual-in_err-begun-2.result
    c.from_residual-in_err-begun-2.ensures.1
    (stops-same _ parts.4 (stops-first c.in_ok-begun.begun.nodes parts.0 parts.1 _
    (c.in_err-begun-2.ensures parts.0 inner)))

pub walk_power-returns-in_err-leave_part : goal.walk_power-returns-in_err-leave_part
walk_power-returns-in_err-leave_part t c =
    λ end steps h.
    let Q : Bool → Type 0 = λ z. LeafGoes c.args.self.now.names.now c.args.self.now.reading
    (seen_view c.args.self.now.reading c.args.around.seen.now) c.args.place c.args.part.now c.args.count.now
    (Ok z) in
    let leaf = subst Q c.if-branch.false c.in_ok-is_leaf.ensures in
    let parts = power-part c.args.self.now.names.now c.args.self.now.reading c.args.count.now c.args.begun.nodes
    c.in_ok-begun.begun.nodes leaf c.in_ok-begun.ensures.steps h in
    let inner = walk-in c.args.self.now.names.now c.args.self.now.reading (c.inside.ensures.around c.args.self.now.reading) parts.2 in
    exit-stops c.args.begun.nodes steps _ c.from_residual-in_err-leave_part.result
    c.from_residual-in_err-leave_part.ensures.1
    (stops-same _ parts.4 (stops-later c.in_ok-begun.begun.nodes c.in_ok-begun-2.begun.nodes parts.0 parts.1 _
    (c.in_ok-begun-2.ensures parts.0 inner)
    (c.in_err-leave_part.ensures parts.1 parts.3 c.in_ok-begun-2.begun.nodes)))

pub walk_power-returns : goal.walk_power-returns
walk_power-returns t c =
    λ end steps h.
    let Q : Bool → Type 0 = λ z. LeafGoes c.args.self.now.names.now c.args.self.now.reading
    (seen_view c.args.self.now.reading c.args.around.seen.now) c.args.place c.args.part.now c.args.count.now
    (Ok z) in
    let leaf = subst Q c.if-branch.false c.in_ok-is_leaf.ensures in
    let parts = power-part c.args.self.now.names.now c.args.self.now.reading c.args.count.now c.args.begun.nodes
    c.in_ok-begun.begun.nodes leaf c.in_ok-begun.ensures.steps h in
    let inner = walk-in c.args.self.now.names.now c.args.self.now.reading (c.inside.ensures.around c.args.self.now.reading) parts.2 in
    parts.4 ∙ (way-on c.in_ok-begun.begun.nodes c.in_ok-begun-2.begun.nodes parts.0 parts.1
    (c.in_ok-begun-2.ensures parts.0 inner)
    ∙ c.in_ok-leave_part.ensures parts.1 parts.3 c.in_ok-begun-2.begun.nodes)

pub walk_tail-returns-in_err-begun-2 : goal.walk_tail-returns-in_err-begun-2
walk_tail-returns-in_err-begun-2 t c =
    λ rule steps at start h.
    let parts = tail-steps-at c.args.self.now.names.now c.args.self.now.reading (tail_view c.args.tail)
    (around_view c.args.self.now.reading c.inside-inner.result) c.args.place at start
    (c.inside-inner.ensures.around c.args.self.now.reading) h in
    exit-stops c.args.begun.nodes steps _ c.from_residual-in_err-begun-2.result
    c.from_residual-in_err-begun-2.ensures.1 (stops-same _ (ap (way c.args.begun.nodes) parts.6)
    (stops-later c.args.begun.nodes c.in_ok-begun.begun.nodes
    (node_at (around_view c.args.self.now.reading c.args.around) c.args.place) _ _ c.in_ok-begun.ensures.steps
    (stops-first c.in_ok-begun.begun.nodes parts.0 _ _ (c.in_err-begun-2.ensures parts.0 parts.3))))

pub walk_tail-returns-in_err-turn : goal.walk_tail-returns-in_err-turn
walk_tail-returns-in_err-turn t c =
    λ rule steps at start h.
    let parts = tail-steps-at c.args.self.now.names.now c.args.self.now.reading (tail_view c.args.tail)
    (around_view c.args.self.now.reading c.inside-inner.result) c.args.place at start
    (c.inside-inner.ensures.around c.args.self.now.reading) h in
    exit-stops c.args.begun.nodes steps _ c.from_residual-in_err-turn.result c.from_residual-in_err-turn.ensures.1
    (stops-same _ (ap (way c.args.begun.nodes) parts.6) (stops-later c.args.begun.nodes c.in_ok-begun.begun.nodes
    (node_at (around_view c.args.self.now.reading c.args.around) c.args.place) _ _ c.in_ok-begun.ensures.steps
    (stops-later c.in_ok-begun.begun.nodes c.in_ok-begun-2.begun.nodes parts.0 _ _
    (c.in_ok-begun-2.ensures parts.0 parts.3) (stops-first c.in_ok-begun-2.begun.nodes
    (turn_begun (around_view c.args.self.now.reading c.inside-inner.result) (end_view c.args.tail.end)) _ _
    (c.in_err-turn.ensures.steps c.args.self.now.reading)))))

pub walk_tail-returns-in_err-begun-3 : goal.walk_tail-returns-in_err-begun-3
walk_tail-returns-in_err-begun-3 t c =
    λ rule steps at start h.
    let parts = tail-steps-at c.args.self.now.names.now c.args.self.now.reading (tail_view c.args.tail)
    (around_view c.args.self.now.reading c.inside-inner.result) c.args.place at start
    (c.inside-inner.ensures.around c.args.self.now.reading) h in
    let turn = items-like c.args.self.now.names.now c.args.self.now.reading (c.in_ok-turn.ensures.around c.args.self.now.reading) refl refl parts.4 in
    exit-stops c.args.begun.nodes steps _ c.from_residual-in_err-begun-3.result
    c.from_residual-in_err-begun-3.ensures.1 (stops-same _ (ap (way c.args.begun.nodes) parts.6)
    (stops-later c.args.begun.nodes c.in_ok-begun.begun.nodes
    (node_at (around_view c.args.self.now.reading c.args.around) c.args.place) _ _ c.in_ok-begun.ensures.steps
    (stops-later c.in_ok-begun.begun.nodes c.in_ok-begun-2.begun.nodes parts.0 _ _
    (c.in_ok-begun-2.ensures parts.0 parts.3)
    (stops-later c.in_ok-begun-2.begun.nodes c.in_ok-turn.turn.begun.nodes
    (turn_begun (around_view c.args.self.now.reading c.inside-inner.result) (end_view c.args.tail.end)) _ _
    (c.in_ok-turn.ensures.steps c.args.self.now.reading) (stops-first c.in_ok-turn.turn.begun.nodes parts.1 _ _
    (c.in_err-begun-3.ensures parts.1 turn))))))

pub walk_tail-returns-in_err-leave_turn : goal.walk_tail-returns-in_err-leave_turn
walk_tail-returns-in_err-leave_turn t c =
    λ rule steps at start h.
    let parts = tail-steps-at c.args.self.now.names.now c.args.self.now.reading (tail_view c.args.tail)
    (around_view c.args.self.now.reading c.inside-inner.result) c.args.place at start
    (c.inside-inner.ensures.around c.args.self.now.reading) h in
    let turn = items-like c.args.self.now.names.now c.args.self.now.reading (c.in_ok-turn.ensures.around c.args.self.now.reading) refl refl parts.4 in
    exit-stops c.args.begun.nodes steps _ c.from_residual-in_err-leave_turn.result
    c.from_residual-in_err-leave_turn.ensures.1 (stops-same _ (ap (way c.args.begun.nodes) parts.6)
    (stops-later c.args.begun.nodes c.in_ok-begun.begun.nodes
    (node_at (around_view c.args.self.now.reading c.args.around) c.args.place) _ _ c.in_ok-begun.ensures.steps
    (stops-later c.in_ok-begun.begun.nodes c.in_ok-begun-2.begun.nodes parts.0 _ _
    (c.in_ok-begun-2.ensures parts.0 parts.3)
    (stops-later c.in_ok-begun-2.begun.nodes c.in_ok-turn.turn.begun.nodes
    (turn_begun (around_view c.args.self.now.reading c.inside-inner.result) (end_view c.args.tail.end)) _ _
    (c.in_ok-turn.ensures.steps c.args.self.now.reading)
    (stops-later c.in_ok-turn.turn.begun.nodes c.in_ok-begun-3.begun.nodes parts.1 _ _
    (c.in_ok-begun-3.ensures parts.1 turn) (stops-first c.in_ok-begun-3.begun.nodes parts.2 _ _
    (c.in_err-leave_turn.ensures parts.2 parts.5 c.in_ok-begun-3.begun.nodes)))))))

pub walk_tail-returns : goal.walk_tail-returns
walk_tail-returns t c =
    λ rule steps at start h.
    let parts = tail-steps-at c.args.self.now.names.now c.args.self.now.reading (tail_view c.args.tail)
    (around_view c.args.self.now.reading c.inside-inner.result) c.args.place at start
    (c.inside-inner.ensures.around c.args.self.now.reading) h in
    let turn = items-like c.args.self.now.names.now c.args.self.now.reading (c.in_ok-turn.ensures.around c.args.self.now.reading) refl refl parts.4 in
    goes-after c.args.begun.nodes c.in_ok-begun.begun.nodes
    (node_at (around_view c.args.self.now.reading c.args.around) c.args.place) _ steps c.begin-2.result parts.6
    c.in_ok-begun.ensures.steps (goes-on c.in_ok-begun.begun.nodes c.in_ok-begun-2.begun.nodes parts.0 _
    c.begin-2.result (c.in_ok-begun-2.ensures parts.0 parts.3)
    (goes-on c.in_ok-begun-2.begun.nodes c.in_ok-turn.turn.begun.nodes
    (turn_begun (around_view c.args.self.now.reading c.inside-inner.result) (end_view c.args.tail.end))
    _ c.begin-2.result (c.in_ok-turn.ensures.steps c.args.self.now.reading)
    (goes-on c.in_ok-turn.turn.begun.nodes c.in_ok-begun-3.begun.nodes parts.1 _ c.begin-2.result
    (c.in_ok-begun-3.ensures parts.1 turn)
    (goes-on c.in_ok-begun-3.begun.nodes c.in_ok-begun-3.begun.nodes parts.2 _ c.begin-2.result
    (c.in_ok-leave_turn.ensures parts.2 parts.5 c.in_ok-begun-3.begun.nodes) c.begin-2.ensures.steps))))
