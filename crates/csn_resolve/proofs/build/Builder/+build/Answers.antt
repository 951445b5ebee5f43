use Rattle.std.proofs.Common.{◌≡◌, ◌<◌, ◌+◌, ℕ, true, false, List, [], ◌∷◌, ◌++◌, Some, None, take, drop, length, max}
use Rattle.std.proofs.Common.{refl, sym, ◌∙◌, ap, subst, take_all, append_assoc, length-append, rules, arith}
use Rattle.std.proofs.lemmas.List.{drop_all}
use Rattle.std.proofs.lemmas.Bool.{both_ways}
use Rattle.std.specs.Prelude.{slice_get}
use Rattle.csn_desc.specs.declared.node.Node.TheVariants.{Lits, Named, Seq, Trunc}
use Rattle.csn_grammar.specs.ExprV.{ExprV, BranchV, expr, power, both, exprs_of}
use Rattle.csn_grammar.specs.declared.exponent.Exponent.TheVariants.{Any}
use Rattle.csn_grammar.specs.ExprCode.{expr_size, list_size, branch_list_size}
use Rattle.csn_grammar.specs.Names.{rule_of, is_built_in}
use Rattle.csn_grammar.specs.Forms.{unit_of, is_bit}
use Rattle.csn_grammar.specs.TailForm.{tail_of}
use Rattle.csn_resolve.specs.declared.shown.Shown as s
use Rattle.csn_resolve.specs.Seen.{Frame, Seen, with_labelled}
use Rattle.csn_grammar.specs.Environment.{label_of}
use Rattle.csn_resolve.specs.Gives.{placed}
use Rattle.csn_resolve.specs.Views.{window_view, tail_view}
use Rattle.csn_resolve.specs.Made.{frame_before, shown_view, AllQuiet, GivesFew, ItemsGiveFew, Adds, AddsItems, AddsKept}
use Rattle.csn_resolve.proofs.Basics.Parts.{item_size, branch_size_of, take_get, take_short, drop_at, get_within}
use Rattle.csn_resolve.proofs.Walking.DepthFacts.{in_deepest, entered}
use Rattle.csn_resolve.proofs.Naming.ViewFacts.{known}
use Rattle.csn_resolve.proofs.Giving.MadeFacts.{shown-Behind, frame-push, no-nodes, not-bit}
use Rattle.csn_resolve.proofs.Walking.QuietFacts.{quiet-as, quiet-labelled, quiet-group, quiet-left, quiet-right}
use Rattle.csn_resolve.proofs.Walking.QuietFacts.{quiet-seq, quiet-cut, quiet-choice, quiet-count, quiet-times}
use Rattle.csn_resolve.proofs.Walking.QuietFacts.{quiet-many, quiet-window, quiet-name, quiet-plain, quiet-tail}
use Rattle.csn_resolve.proofs.Walking.QuietFacts.{quiet-at, quiet-branch}
use Rattle.csn_resolve.proofs.Giving.AddFacts.{on-ok, adds-as, few-as, room, adds-lits, adds-null, adds-bit}
use Rattle.csn_resolve.proofs.Giving.AddFacts.{adds-octet, adds-group, few-group, adds-received, adds-sent}
use Rattle.csn_resolve.proofs.Giving.AddFacts.{few-received, few-sent, adds-name, few-name, adds-spare, adds-labelled}
use Rattle.csn_resolve.proofs.Giving.AddFacts.{few-labelled, adds-rest, adds-many, few-many, adds-field, adds-times}
use Rattle.csn_resolve.proofs.Giving.AddFacts.{few-times, counted-given, adds-window, few-window, window-count}
use Rattle.csn_resolve.proofs.Giving.AddFacts.{some-window, adds-only, few-only, adds-choice, few-choice, adds-plain}
use Rattle.csn_resolve.proofs.Giving.AddFacts.{few-plain, seq-gives, cut-gives, adds-row, few-row, spare-named}
use Rattle.csn_resolve.proofs.Giving.BuildFacts.{ItemsLeft, ItemsIn, items-begin, items-next, items-few, items-done}
use Rattle.csn_resolve.proofs.Giving.BuildFacts.{parts-room, kept-more, kept-past, kept-few, kept-done, kept-quiet}
use Rattle.csn_resolve.proofs.Giving.BuildFacts.{tail-few, tail-items, items-in, turn-few, parts-fit, stop-room}
use Rattle.csn_resolve.proofs.Giving.BuildFacts.{adds-tail, turn-items, adds-turn, items-longer, kept-longer}
use Rattle.csn_resolve.proofs.Giving.BuildFacts.{tail-longer}
use Rattle.csn_resolve.proofs.Basics.Windows.{sides_of, part_size}
use Rattle.csn_resolve.proofs.build.Builder.+build.Goals as goal
use Rattle.csn_resolve.proofs.build.Builder.+build.Goals.{build_tail-In_ok-build_items}

pub build-build_name-requires : goal.build-build_name-requires
build-build_name-requires t c =
    let is = known c.args.x.now c.x.inside.span c.x.inside.form _ c.x.view_is c.in-Name.is in (
      omega (arith, c.decreases),
      (
        (c.x.inside.span.end, quiet-as c.args.self.now.names.now c.args.self.now.reading is c.requires.quiet),
        (c.x.inside.span.end, few-as c.args.self.now.names.now c.args.self.now.reading is c.requires.gives),
      ),
    )

pub build-push-requires-in-Labelled : goal.build-push-requires-in-Labelled
build-push-requires-in-Labelled t c =
    room c.args.self.now.names.now c.args.self.now.reading c.requires.gives

pub build-push-requires-in-Seq : goal.build-push-requires-in-Seq
build-push-requires-in-Seq t c =
    room c.args.self.now.names.now c.args.self.now.reading c.requires.gives

pub build-push-requires-in-Cut : goal.build-push-requires-in-Cut
build-push-requires-in-Cut t c =
    room c.args.self.now.names.now c.args.self.now.reading c.requires.gives

pub build-build-requires : goal.build-build-requires
build-build-requires t c =
    let is = known c.args.x.now c.x.inside.span c.x.inside.form _ c.x.view_is c.in-Labelled.is in
    let size : expr_size c.args.x.now ≡ expr_size c.in-Labelled.part.value + 1 = ap expr_size is in
    let same : expr_size c.deref.result.now ≡ expr_size c.in-Labelled.part.value = ap expr_size c.deref.ensures in (
      omega (arith, size, same, c.decreases),
      (
        quiet-as c.args.self.now.names.now c.args.self.now.reading (sym c.deref.ensures)
            (quiet-labelled c.args.self.now.names.now c.args.self.now.reading
            (quiet-as c.args.self.now.names.now c.args.self.now.reading is c.requires.quiet)),
        few-as c.args.self.now.names.now c.args.self.now.reading (sym c.deref.ensures)
            (few-labelled c.args.self.now.names.now c.args.self.now.reading c.args.made.now c.push-in-Labelled.new.self _
            c.in_ok-push-in-Labelled.ensures
            (few-as c.args.self.now.names.now c.args.self.now.reading is c.requires.gives)),
      ),
    )

pub build-build-requires-in-Group : goal.build-build-requires-in-Group
build-build-requires-in-Group t c =
    let is = known c.args.x.now c.x.inside.span c.x.inside.form _ c.x.view_is c.in-Group.is in
    let size : expr_size c.args.x.now ≡ expr_size c.in-Group.part.value + 1 = ap expr_size is in
    let same : expr_size c.deref-in-Group.result.now ≡ expr_size c.in-Group.part.value = ap expr_size c.deref-in-Group.ensures in (
      omega (arith, size, same, c.decreases),
      (
        quiet-as c.args.self.now.names.now c.args.self.now.reading (sym c.deref-in-Group.ensures)
            (quiet-group c.args.self.now.names.now c.args.self.now.reading
            (quiet-as c.args.self.now.names.now c.args.self.now.reading is c.requires.quiet)),
        few-as c.args.self.now.names.now c.args.self.now.reading (sym c.deref-in-Group.ensures)
            (few-group c.args.self.now.names.now c.args.self.now.reading
            (few-as c.args.self.now.names.now c.args.self.now.reading is c.requires.gives)),
      ),
    )

pub build-build_items-requires : goal.build-build_items-requires
build-build_items-requires t c =
    let is = known c.args.x.now c.x.inside.span c.x.inside.form _ c.x.view_is c.in-Seq.is in
    let size : expr_size c.args.x.now ≡ list_size c.in-Seq.items + 1 = ap expr_size is in
    let all : c.in-Seq.items ≡ take c.len.result c.in-Seq.items = sym (take_all c.len.result c.in-Seq.items (omega (arith, c.len.ensures.len))) in
    let P : List ExprV → Type 0 = λ l. AllQuiet c.args.self.now.names.now c.args.self.now.reading c.args.round.names l in
    let Q : List ExprV → Type 0 = λ l. ItemsGiveFew c.args.self.now.names.now c.args.self.now.reading l
    (length c.push-in-Seq.new.self) (shown_view c.args.self.now.reading c.args.round.shown.now) in (
      omega (arith, size, c.decreases),
      (
        omega (arith, c.len.ensures.len),
        (
          subst P all (quiet-seq c.args.self.now.names.now c.args.self.now.reading c.in-Seq.items
              (quiet-as c.args.self.now.names.now c.args.self.now.reading is c.requires.quiet)),
          (
            subst Q all (few-row c.args.self.now.names.now c.args.self.now.reading Seq c.in-Seq.items
                (seq-gives c.args.self.now.names.now c.args.self.now.reading (exprs_of c.in-Seq.items))
                c.args.made.now c.push-in-Seq.new.self _ c.in_ok-push-in-Seq.ensures
                (few-as c.args.self.now.names.now c.args.self.now.reading is c.requires.gives)),
            omega
                (arith, ap length c.new-parts.ensures),
          ),
        ),
      ),
    )

pub build-build_items-requires-in-Cut : goal.build-build_items-requires-in-Cut
build-build_items-requires-in-Cut t c =
    let is = known c.args.x.now c.x.inside.span c.x.inside.form _ c.x.view_is c.in-Cut.is in
    let size : expr_size c.args.x.now ≡ list_size c.in-Cut.items + 1 = ap expr_size is in
    let all : c.in-Cut.items ≡ take c.len-in-Cut.result c.in-Cut.items =
    sym (take_all c.len-in-Cut.result c.in-Cut.items (omega (arith, c.len-in-Cut.ensures.len))) in
    let P : List ExprV → Type 0 = λ l. AllQuiet c.args.self.now.names.now c.args.self.now.reading c.args.round.names l in
    let Q : List ExprV → Type 0 = λ l. ItemsGiveFew c.args.self.now.names.now c.args.self.now.reading l
    (length c.push-in-Cut.new.self) (shown_view c.args.self.now.reading c.args.round.shown.now) in (
      omega (arith, size, c.decreases),
      (
        omega (arith, c.len-in-Cut.ensures.len),
        (
          subst P all (quiet-cut c.args.self.now.names.now c.args.self.now.reading c.in-Cut.items
              (quiet-as c.args.self.now.names.now c.args.self.now.reading is c.requires.quiet)),
          (
            subst Q all (few-row c.args.self.now.names.now c.args.self.now.reading Trunc c.in-Cut.items
                (cut-gives c.args.self.now.names.now c.args.self.now.reading (exprs_of c.in-Cut.items))
                c.args.made.now c.push-in-Cut.new.self _ c.in_ok-push-in-Cut.ensures
                (few-as c.args.self.now.names.now c.args.self.now.reading is c.requires.gives)),
            omega
                (arith, ap length c.new-parts-in-Cut.ensures),
          ),
        ),
      ),
    )

pub build-set-requires : goal.build-set-requires
build-set-requires t c =
    let is = known c.args.x.now c.x.inside.span c.x.inside.form _ c.x.view_is c.in-Seq.is in
    let all : c.in-Seq.items ≡ take c.len.result c.in-Seq.items = sym (take_all c.len.result c.in-Seq.items (omega (arith, c.len.ensures.len))) in
    let Q : List ExprV → Type 0 = λ l. ItemsGiveFew c.args.self.now.names.now c.args.self.now.reading l
    (length c.push-in-Seq.new.self) (shown_view c.args.self.now.reading c.args.round.shown.now) in
    let few = subst Q all (few-row c.args.self.now.names.now c.args.self.now.reading Seq c.in-Seq.items
    (seq-gives c.args.self.now.names.now c.args.self.now.reading (exprs_of c.in-Seq.items))
    c.args.made.now c.push-in-Seq.new.self _ c.in_ok-push-in-Seq.ensures
    (few-as c.args.self.now.names.now c.args.self.now.reading is c.requires.gives)) in
    let longer = items-longer c.args.self.now.names.now c.args.self.now.reading (take c.len.result c.in-Seq.items)
    c.new-parts.result c.push-in-Seq.new.self c.build_items.new.made few c.in_ok-build_items-in-Seq.ensures in
    let one = ap length c.in_ok-push-in-Seq.ensures ∙ length-append c.args.made.now _ in
    omega (arith, longer, one, c.len-at.ensures.len)

pub build-set-requires-in-Cut : goal.build-set-requires-in-Cut
build-set-requires-in-Cut t c =
    let is = known c.args.x.now c.x.inside.span c.x.inside.form _ c.x.view_is c.in-Cut.is in
    let all : c.in-Cut.items ≡ take c.len-in-Cut.result c.in-Cut.items =
    sym (take_all c.len-in-Cut.result c.in-Cut.items (omega (arith, c.len-in-Cut.ensures.len))) in
    let Q : List ExprV → Type 0 = λ l. ItemsGiveFew c.args.self.now.names.now c.args.self.now.reading l
    (length c.push-in-Cut.new.self) (shown_view c.args.self.now.reading c.args.round.shown.now) in
    let few = subst Q all (few-row c.args.self.now.names.now c.args.self.now.reading Trunc c.in-Cut.items
    (cut-gives c.args.self.now.names.now c.args.self.now.reading (exprs_of c.in-Cut.items))
    c.args.made.now c.push-in-Cut.new.self _ c.in_ok-push-in-Cut.ensures
    (few-as c.args.self.now.names.now c.args.self.now.reading is c.requires.gives)) in
    let longer = items-longer c.args.self.now.names.now c.args.self.now.reading
    (take c.len-in-Cut.result c.in-Cut.items) c.new-parts-in-Cut.result c.push-in-Cut.new.self
    c.build_items-in-Cut.new.made few c.in_ok-build_items-in-Cut.ensures in
    let one = ap length c.in_ok-push-in-Cut.ensures ∙ length-append c.args.made.now _ in
    omega (arith, longer, one, c.len-at-in-Cut.ensures.len)

pub build-returns-in_ok-build_items-in-Seq : goal.build-returns-in_ok-build_items-in-Seq
build-returns-in_ok-build_items-in-Seq t c =
    let is = known c.args.x.now c.x.inside.span c.x.inside.form _ c.x.view_is c.in-Seq.is in
    let all : take c.len.result c.in-Seq.items ≡ c.in-Seq.items = take_all c.len.result c.in-Seq.items (omega (arith, c.len.ensures.len)) in
    let P : List ExprV → Type 0 = λ l. AddsItems c.args.self.now.names.now c.args.self.now.reading l
    (shown_view c.args.self.now.reading c.args.round.shown.now) c.new-parts.result c.build_items.new.parts
    c.push-in-Seq.new.self c.build_items.new.made in
    let Q : List ℕ → Type 0 = λ l. AddsItems c.args.self.now.names.now c.args.self.now.reading c.in-Seq.items
    (shown_view c.args.self.now.reading c.args.round.shown.now) l c.build_items.new.parts c.push-in-Seq.new.self
    c.build_items.new.made in
    let items : AddsItems c.args.self.now.names.now c.args.self.now.reading c.in-Seq.items
    (shown_view c.args.self.now.reading c.args.round.shown.now) [] c.build_items.new.parts c.push-in-Seq.new.self
    c.build_items.new.made = subst Q c.new-parts.ensures (subst P all c.in_ok-build_items-in-Seq.ensures) in
    adds-as c.args.self.now.names.now c.args.self.now.reading c.args.made.now c.set.new.self is
    (adds-row c.args.self.now.names.now c.args.self.now.reading Seq c.in-Seq.items
    (seq-gives c.args.self.now.names.now c.args.self.now.reading (exprs_of c.in-Seq.items))
    c.args.made.now c.push-in-Seq.new.self c.build_items.new.made c.set.new.self _ c.len-at.result
    c.in_ok-push-in-Seq.ensures items c.set.ensures c.len-at.ensures.len)

pub build-returns-in_ok-build_items-in-Cut : goal.build-returns-in_ok-build_items-in-Cut
build-returns-in_ok-build_items-in-Cut t c =
    let is = known c.args.x.now c.x.inside.span c.x.inside.form _ c.x.view_is c.in-Cut.is in
    let all : take c.len-in-Cut.result c.in-Cut.items ≡ c.in-Cut.items = take_all c.len-in-Cut.result c.in-Cut.items
    (omega (arith, c.len-in-Cut.ensures.len)) in
    let Q : List ℕ → Type 0 = λ l. AddsItems c.args.self.now.names.now c.args.self.now.reading c.in-Cut.items
    (shown_view c.args.self.now.reading c.args.round.shown.now) l c.build_items-in-Cut.new.parts
    c.push-in-Cut.new.self c.build_items-in-Cut.new.made in
    let P : List ExprV → Type 0 = λ l. AddsItems c.args.self.now.names.now c.args.self.now.reading l
    (shown_view c.args.self.now.reading c.args.round.shown.now)
    c.new-parts-in-Cut.result c.build_items-in-Cut.new.parts c.push-in-Cut.new.self
    c.build_items-in-Cut.new.made in
    let items : AddsItems c.args.self.now.names.now c.args.self.now.reading c.in-Cut.items
    (shown_view c.args.self.now.reading c.args.round.shown.now) [] c.build_items-in-Cut.new.parts
    c.push-in-Cut.new.self c.build_items-in-Cut.new.made = subst Q c.new-parts-in-Cut.ensures
    (subst P all c.in_ok-build_items-in-Cut.ensures) in
    adds-as c.args.self.now.names.now c.args.self.now.reading c.args.made.now c.set-in-Cut.new.self is
    (adds-row c.args.self.now.names.now c.args.self.now.reading Trunc c.in-Cut.items
    (cut-gives c.args.self.now.names.now c.args.self.now.reading (exprs_of c.in-Cut.items))
    c.args.made.now c.push-in-Cut.new.self c.build_items-in-Cut.new.made c.set-in-Cut.new.self _
    c.len-at-in-Cut.result c.in_ok-push-in-Cut.ensures items c.set-in-Cut.ensures c.len-at-in-Cut.ensures.len)

pub build-build_choice-requires : goal.build-build_choice-requires
build-build_choice-requires t c =
    let is = known c.args.x.now c.x.inside.span c.x.inside.form _ c.x.view_is c.in-Choice.is in
    let size : expr_size c.args.x.now ≡ branch_list_size c.in-Choice.branches + 1 = ap expr_size is in (
      omega (arith, size, c.decreases),
      (
        quiet-choice c.args.self.now.names.now c.args.self.now.reading c.in-Choice.branches
            (quiet-as c.args.self.now.names.now c.args.self.now.reading is c.requires.quiet),
        (c.x.inside.span.end, (few-as c.args.self.now.names.now c.args.self.now.reading is c.requires.gives)),
      ),
    )

pub build-build_power-requires : goal.build-build_power-requires
build-build_power-requires t c =
    let is = known c.args.x.now c.x.inside.span c.x.inside.form _ c.x.view_is c.in-Power.is in
    let form = is ∙ ap (λ (z : ExprV). expr c.x.inside.span.start c.x.inside.span.end (power z c.in-Power.count)) (sym c.deref-in-Power.ensures) in
    let size : expr_size c.args.x.now ≡ expr_size c.deref-in-Power.result.now + 1 = ap expr_size form in (
      omega (arith, size, c.decreases),
      (
        (c.x.inside.span.end, quiet-as c.args.self.now.names.now c.args.self.now.reading form c.requires.quiet),
        (c.x.inside.span.end, few-as c.args.self.now.names.now c.args.self.now.reading form c.requires.gives),
      ),
    )

pub build-build_both-requires : goal.build-build_both-requires
build-build_both-requires t c =
    let is = known c.args.x.now c.x.inside.span c.x.inside.form _ c.x.view_is c.in-Both.is in
    let form = is ∙ (ap (λ (z : ExprV). expr c.x.inside.span.start c.x.inside.span.end (both z c.in-Both.right.value))
    (sym c.deref-in-Both.ensures)
    ∙ ap (λ (z : ExprV). expr c.x.inside.span.start c.x.inside.span.end (both c.deref-in-Both.result.now z))
    (sym c.deref-in-Both-2.ensures)) in
    let size : expr_size c.args.x.now ≡ max (expr_size c.deref-in-Both.result.now) (expr_size c.deref-in-Both-2.result.now) + 1 = ap expr_size form in (
      omega (arith, size, c.decreases),
      (
        (c.x.inside.span.end, quiet-as c.args.self.now.names.now c.args.self.now.reading form c.requires.quiet),
        (c.x.inside.span.end, few-as c.args.self.now.names.now c.args.self.now.reading form c.requires.gives),
      ),
    )

pub build-build-requires-in-Received : goal.build-build-requires-in-Received
build-build-requires-in-Received t c =
    let is = known c.args.x.now c.x.inside.span c.x.inside.form _ c.x.view_is c.in-Sends.is in
    let size : expr_size c.args.x.now ≡ max (expr_size c.in-Sends.left.value) (expr_size c.in-Sends.right.value) + 1 = ap expr_size is in
    let same : expr_size c.deref-in-Received.result.now ≡ expr_size c.in-Sends.left.value = ap expr_size c.deref-in-Received.ensures in (
      omega (arith, size, same, c.decreases),
      (
        quiet-as c.args.self.now.names.now c.args.self.now.reading (sym c.deref-in-Received.ensures)
            (quiet-left c.args.self.now.names.now c.args.self.now.reading
            (quiet-as c.args.self.now.names.now c.args.self.now.reading is c.requires.quiet)),
        few-as c.args.self.now.names.now c.args.self.now.reading (sym c.deref-in-Received.ensures)
            (few-received c.args.self.now.names.now c.args.self.now.reading c.in-Received.is
            (few-as c.args.self.now.names.now c.args.self.now.reading is c.requires.gives)),
      ),
    )

pub build-build-requires-in-Sent : goal.build-build-requires-in-Sent
build-build-requires-in-Sent t c =
    let is = known c.args.x.now c.x.inside.span c.x.inside.form _ c.x.view_is c.in-Sends.is in
    let same : expr_size c.deref-in-Sent.result.now ≡ expr_size c.in-Sends.right.value = ap expr_size c.deref-in-Sent.ensures in
    let size : expr_size c.args.x.now ≡ max (expr_size c.in-Sends.left.value) (expr_size c.in-Sends.right.value) + 1 = ap expr_size is in (
      omega (arith, size, same, c.decreases),
      (
        quiet-as c.args.self.now.names.now c.args.self.now.reading (sym c.deref-in-Sent.ensures)
            (quiet-right c.args.self.now.names.now c.args.self.now.reading
            (quiet-as c.args.self.now.names.now c.args.self.now.reading is c.requires.quiet)),
        few-as c.args.self.now.names.now c.args.self.now.reading (sym c.deref-in-Sent.ensures)
            (few-sent c.args.self.now.names.now c.args.self.now.reading c.in-Sent.is
            (few-as c.args.self.now.names.now c.args.self.now.reading is c.requires.gives)),
      ),
    )

pub build-returns-in_ok-copy-in-Lits : goal.build-returns-in_ok-copy-in-Lits
build-returns-in_ok-copy-in-Lits t c =
    let is = known c.args.x.now c.x.inside.span c.x.inside.form _ c.x.view_is c.in-Lits.is in
    on-ok c.push.result
    (λ now. adds-as c.args.self.now.names.now c.args.self.now.reading c.args.made.now c.push.new.self is
    (adds-lits c.args.self.now.names.now c.args.self.now.reading c.args.made.now c.push.new.self
    (now ∙ ap (λ z. c.args.made.now ++ placed (Lits z) c.x.inside.span.start ∷ []) c.in_ok-copy-in-Lits.ensures)))
    c.push.ensures

pub build-returns-in-Null : goal.build-returns-in-Null
build-returns-in-Null t c =
    let is = known c.args.x.now c.x.inside.span c.x.inside.form _ c.x.view_is c.in-Null.is in
    on-ok c.push-in-Null.result (λ now. adds-as c.args.self.now.names.now c.args.self.now.reading c.args.made.now
    c.push-in-Null.new.self is (adds-null c.args.self.now.names.now c.args.self.now.reading c.args.made.now
    c.push-in-Null.new.self now)) c.push-in-Null.ensures

pub build-returns-in-Bit : goal.build-returns-in-Bit
build-returns-in-Bit t c =
    let is = known c.args.x.now c.x.inside.span c.x.inside.form _ c.x.view_is c.in-Bit.is in
    on-ok c.push-in-Bit.result (λ now. adds-as c.args.self.now.names.now c.args.self.now.reading c.args.made.now
    c.push-in-Bit.new.self is (adds-bit c.args.self.now.names.now c.args.self.now.reading c.args.made.now
    c.push-in-Bit.new.self (now ∙ ap (λ z. c.args.made.now ++ placed z c.x.inside.span.start ∷ [])
    c.one_field.ensures))) c.push-in-Bit.ensures

pub build-returns-in-Octet : goal.build-returns-in-Octet
build-returns-in-Octet t c =
    let is = known c.args.x.now c.x.inside.span c.x.inside.form _ c.x.view_is c.in-Octet.is in
    on-ok c.push-in-Octet.result (λ now. adds-as c.args.self.now.names.now c.args.self.now.reading c.args.made.now
    c.push-in-Octet.new.self is (adds-octet c.args.self.now.names.now c.args.self.now.reading c.args.made.now
    c.push-in-Octet.new.self (now ∙ ap (λ z. c.args.made.now ++ placed z c.x.inside.span.start ∷ [])
    c.one_field-in-Octet.ensures))) c.push-in-Octet.ensures

pub build-returns-in-Name : goal.build-returns-in-Name
build-returns-in-Name t c =
    let is = known c.args.x.now c.x.inside.span c.x.inside.form _ c.x.view_is c.in-Name.is in
    on-ok c.build_name.result (λ h. adds-as c.args.self.now.names.now c.args.self.now.reading c.args.made.now
    c.build_name.new.made is (h c.x.inside.span.end)) c.build_name.ensures

pub build-returns-in_ok-push-in-Labelled : goal.build-returns-in_ok-push-in-Labelled
build-returns-in_ok-push-in-Labelled t c =
    let is = known c.args.x.now c.x.inside.span c.x.inside.form _ c.x.view_is c.in-Labelled.is in
    let pushed = c.in_ok-push-in-Labelled.ensures
    ∙ ap (λ z. c.args.made.now ++ placed (Named z (c.len-inner.result + 1)) c.x.inside.span.start ∷ [])
    c.in_ok-label-in-Labelled.ensures in
    on-ok c.build.result
    (λ h. adds-as c.args.self.now.names.now c.args.self.now.reading c.args.made.now c.build.new.made is
    (adds-labelled c.args.self.now.names.now c.args.self.now.reading c.args.made.now c.push-in-Labelled.new.self
    c.build.new.made (c.len-inner.result + 1) (omega (arith, c.len-inner.ensures.len)) pushed
    (adds-as c.args.self.now.names.now c.args.self.now.reading c.push-in-Labelled.new.self c.build.new.made
    (sym c.deref.ensures) h)))
    c.build.ensures

pub build-returns-in-Group : goal.build-returns-in-Group
build-returns-in-Group t c =
    let is = known c.args.x.now c.x.inside.span c.x.inside.form _ c.x.view_is c.in-Group.is in
    on-ok c.build-in-Group.result
    (λ h. adds-as c.args.self.now.names.now c.args.self.now.reading c.args.made.now c.build-in-Group.new.made is
    (adds-group c.args.self.now.names.now c.args.self.now.reading c.args.made.now c.build-in-Group.new.made
    (adds-as c.args.self.now.names.now c.args.self.now.reading c.args.made.now c.build-in-Group.new.made
    (sym c.deref-in-Group.ensures) h)))
    c.build-in-Group.ensures

pub build-returns-in-Choice : goal.build-returns-in-Choice
build-returns-in-Choice t c =
    let is = known c.args.x.now c.x.inside.span c.x.inside.form _ c.x.view_is c.in-Choice.is in
    on-ok c.build_choice.result (λ h. adds-as c.args.self.now.names.now c.args.self.now.reading c.args.made.now
    c.build_choice.new.made is (h c.x.inside.span.end)) c.build_choice.ensures

pub build-returns-in-Power : goal.build-returns-in-Power
build-returns-in-Power t c =
    let is = known c.args.x.now c.x.inside.span c.x.inside.form _ c.x.view_is c.in-Power.is in
    let form = is ∙ ap (λ (z : ExprV). expr c.x.inside.span.start c.x.inside.span.end (power z c.in-Power.count)) (sym c.deref-in-Power.ensures) in
    on-ok c.build_power.result (λ h. adds-as c.args.self.now.names.now c.args.self.now.reading c.args.made.now
    c.build_power.new.made form (h c.x.inside.span.end)) c.build_power.ensures

pub build-returns-in-Both : goal.build-returns-in-Both
build-returns-in-Both t c =
    let is = known c.args.x.now c.x.inside.span c.x.inside.form _ c.x.view_is c.in-Both.is in
    let form = is ∙ (ap (λ (z : ExprV). expr c.x.inside.span.start c.x.inside.span.end (both z c.in-Both.right.value))
    (sym c.deref-in-Both.ensures)
    ∙ ap (λ (z : ExprV). expr c.x.inside.span.start c.x.inside.span.end (both c.deref-in-Both.result.now z))
    (sym c.deref-in-Both-2.ensures)) in
    on-ok c.build_both.result (λ h. adds-as c.args.self.now.names.now c.args.self.now.reading c.args.made.now
    c.build_both.new.made form (h c.x.inside.span.end)) c.build_both.ensures

pub build-returns-in-Received : goal.build-returns-in-Received
build-returns-in-Received t c =
    let is = known c.args.x.now c.x.inside.span c.x.inside.form _ c.x.view_is c.in-Sends.is in
    on-ok c.build-in-Received.result (λ h. adds-as c.args.self.now.names.now c.args.self.now.reading c.args.made.now
    c.build-in-Received.new.made is
    (adds-received c.args.self.now.names.now c.args.self.now.reading c.args.made.now c.build-in-Received.new.made
    c.in-Received.is (adds-as c.args.self.now.names.now c.args.self.now.reading c.args.made.now
    c.build-in-Received.new.made (sym c.deref-in-Received.ensures) h))) c.build-in-Received.ensures

pub build-returns-in-Sent : goal.build-returns-in-Sent
build-returns-in-Sent t c =
    let is = known c.args.x.now c.x.inside.span c.x.inside.form _ c.x.view_is c.in-Sends.is in
    on-ok c.build-in-Sent.result (λ h. adds-as c.args.self.now.names.now c.args.self.now.reading c.args.made.now
    c.build-in-Sent.new.made is (adds-sent c.args.self.now.names.now c.args.self.now.reading c.args.made.now
    c.build-in-Sent.new.made c.in-Sent.is
    (adds-as c.args.self.now.names.now c.args.self.now.reading c.args.made.now c.build-in-Sent.new.made
    (sym c.deref-in-Sent.ensures) h))) c.build-in-Sent.ensures

pub build_both-width-count-requires : goal.build_both-width-count-requires
build_both-width-count-requires t c =
    let w = window_view c.in-Some.window in
    let sides = sides_of c.args.left.now c.args.right.now w (sym c.in-Some.ensures) in
    let there = window-count c.args.self.now.names.now c.args.self.now.reading w (sym c.in-Some.ensures) c.requires.gives.1.1 in
    record { count = there.0; is = there.1; small = (quiet-window c.args.self.now.names.now c.args.self.now.reading sides c.requires.quiet.1).1 }

pub build_both-push-requires : goal.build_both-push-requires
build_both-push-requires t c =
    room c.args.self.now.names.now c.args.self.now.reading c.requires.gives.1

pub build_both-build-requires : goal.build_both-build-requires
build_both-build-requires t c =
    let w = window_view c.in-Some.window in
    let sides = sides_of c.args.left.now c.args.right.now w (sym c.in-Some.ensures) in (
      omega (arith, part_size sides, c.decreases),
      (
        (quiet-window c.args.self.now.names.now c.args.self.now.reading sides c.requires.quiet.1).0,
        few-window c.args.self.now.names.now c.args.self.now.reading c.args.made.now c.push.new.self w _
            (sym c.in-Some.ensures) c.in_ok-push.ensures c.requires.gives.1,
      ),
    )

pub build_both-returns : goal.build_both-returns
build_both-returns t c =
    on-ok c.build.result
    (λ h end. adds-window c.args.self.now.names.now c.args.self.now.reading c.args.made.now c.push.new.self
    c.build.new.made (window_view c.in-Some.window) (c.len-part.result + 1) c.width-count.result
    (sym c.in-Some.ensures) c.width-count.ensures (omega (arith, c.len-part.ensures.len)) c.in_ok-push.ensures h)
    c.build.ensures

pub build_both-unreachable-requires : goal.build_both-unreachable-requires
build_both-unreachable-requires t c =
    some-window c.args.self.now.names.now c.args.self.now.reading c.requires.gives.1.1 (sym c.in_default.ensures)

pub build_branches-push-requires : goal.build_branches-push-requires
build_branches-push-requires t c =
    let kept = c.is_kept.ensures.0 c.if-not-is_kept.false in
    let here = drop_at c.args.branches.now c.loop-at.at c.get-branch.result.now c.get-branch.ensures in
    let few = kept-few c.args.self.now.names.now c.args.self.now.reading c.args.branches.now here kept c.requires.gives c.loop-at.invariant.left in
    let some = room c.args.self.now.names.now c.args.self.now.reading few in
    omega (arith, some, c.loop-at.invariant.room)

pub build_branches-build-requires : goal.build_branches-build-requires
build_branches-build-requires t c =
    let kept = c.is_kept.ensures.0 c.if-not-is_kept.false in
    let here = drop_at c.args.branches.now c.loop-at.at c.get-branch.result.now c.get-branch.ensures in
    let few = kept-few c.args.self.now.names.now c.args.self.now.reading c.args.branches.now here kept c.requires.gives c.loop-at.invariant.left in
    let body : c.branch.inside.body ≡ c.get-branch.result.now.body = ap (λ (z : BranchV). z.body) c.branch.view_is in
    let size = branch_size_of c.args.branches.now c.loop-at.at c.get-branch.result.now c.get-branch.ensures in
    let same : expr_size c.branch.inside.body ≡ expr_size c.get-branch.result.now.body = ap expr_size body in (
      omega (arith, size, same, c.decreases),
      (
        quiet-as c.args.self.now.names.now c.args.self.now.reading (sym body)
            (quiet-branch c.args.self.now.names.now c.args.self.now.reading c.args.branches.now c.loop-at.at
            c.get-branch.result.now c.get-branch.ensures c.requires.quiet),
        few-as c.args.self.now.names.now
            c.args.self.now.reading (sym body) few,
      ),
    )

pub build_branches-loop-at-preserved-then-not-is_kept : goal.build_branches-loop-at-preserved-then-not-is_kept
build_branches-loop-at-preserved-then-not-is_kept t c =
    record {
      left = kept-past c.args.self.now.names.now c.args.self.now.reading c.args.branches.now
          (drop_at c.args.branches.now c.loop-at.at c.get-branch.result.now c.get-branch.ensures)
          (λ k. both_ways _ c.if-not-is_kept.true (c.is_kept.ensures.1 k)) c.loop-at.invariant.left;
      room = c.loop-at.invariant.room;
    }

pub build_branches-loop-at-preserved : goal.build_branches-loop-at-preserved
build_branches-loop-at-preserved t c =
    let kept = c.is_kept.ensures.0 c.if-not-is_kept.false in
    let here = drop_at c.args.branches.now c.loop-at.at c.get-branch.result.now c.get-branch.ensures in
    let few = kept-few c.args.self.now.names.now c.args.self.now.reading c.args.branches.now here kept c.requires.gives c.loop-at.invariant.left in
    let body : c.branch.inside.body ≡ c.get-branch.result.now.body = ap (λ (z : BranchV). z.body) c.branch.view_is in
    let adds = adds-as c.args.self.now.names.now c.args.self.now.reading c.loop-at.made c.build.new.made (sym body) c.in_ok-build.ensures in
    let next = c.in_ok-push.ensures.ok ∙ ap (λ k. c.loop-at.parts ++ k ∷ []) c.len.ensures.len in
    record {
      left = kept-more c.args.self.now.names.now c.args.self.now.reading c.args.branches.now here kept c.loop-at.invariant.left adds next;
      room = parts-room c.args.self.now.names.now c.args.self.now.reading c.loop-at.parts c.loop-at.made
          c.build.new.made few adds next c.loop-at.invariant.room;
    }

pub build_branches-returns : goal.build_branches-returns
build_branches-returns t c =
    kept-done c.args.self.now.names.now c.args.self.now.reading c.args.branches.now
    (drop_all c.loop-at.at c.args.branches.now (omega (arith, c.len-at-end.ensures.len))) c.loop-at.invariant.left

pub build_choice-build-requires : goal.build_choice-build-requires
build_choice-build-requires t c =
    let only = few-only c.args.self.now.names.now c.args.self.now.reading c.args.branches.now c.in-Some.ensures c.requires.gives.1 in
    let quiet = kept-quiet c.args.self.now.names.now c.args.self.now.reading c.args.branches.now refl only.1 c.requires.quiet in
    let size = quiet.1 in
    (omega (arith, size, c.decreases), (quiet.0, only.0))

pub build_choice-returns-in-Some : goal.build_choice-returns-in-Some
build_choice-returns-in-Some t c =
    on-ok c.build.result (λ h end. adds-only c.args.self.now.names.now c.args.self.now.reading c.args.branches.now
    c.args.made.now c.build.new.made c.in-Some.ensures h) c.build.ensures

pub build_choice-push-requires : goal.build_choice-push-requires
build_choice-push-requires t c =
    room c.args.self.now.names.now c.args.self.now.reading c.requires.gives.1

pub build_choice-build_branches-requires : goal.build_choice-build_branches-requires
build_choice-build_branches-requires t c = (
  omega (arith, c.decreases),
  (
    c.requires.quiet,
    (
      few-choice c.args.self.now.names.now c.args.self.now.reading c.args.branches.now c.args.made.now
          c.push.new.self _ c.in_default.ensures c.in_ok-push.ensures c.requires.gives.1,
      omega
          (arith, ap length c.new-parts.ensures),
    ),
  ),
)

pub build_choice-set-requires : goal.build_choice-set-requires
build_choice-set-requires t c =
    let few = few-choice c.args.self.now.names.now c.args.self.now.reading c.args.branches.now c.args.made.now
    c.push.new.self _ c.in_default.ensures c.in_ok-push.ensures c.requires.gives.1 in
    let longer = kept-longer c.args.self.now.names.now c.args.self.now.reading c.args.branches.now c.new-parts.result
    c.push.new.self c.build_branches.new.made few c.in_ok-build_branches.ensures in
    let one = ap length c.in_ok-push.ensures ∙ length-append c.args.made.now _ in
    omega (arith, longer, one, c.len-at.ensures.len)

pub build_choice-returns : goal.build_choice-returns
build_choice-returns t c =
    λ end.
    let Q : List ℕ → Type 0 = λ l. AddsKept c.args.self.now.names.now c.args.self.now.reading c.args.branches.now
    (shown_view c.args.self.now.reading c.args.round.shown.now) l c.build_branches.new.parts c.push.new.self
    c.build_branches.new.made in
    let kept : AddsKept c.args.self.now.names.now c.args.self.now.reading c.args.branches.now
    (shown_view c.args.self.now.reading c.args.round.shown.now) [] c.build_branches.new.parts c.push.new.self
    c.build_branches.new.made = subst Q c.new-parts.ensures c.in_ok-build_branches.ensures in
    adds-choice c.args.self.now.names.now c.args.self.now.reading c.args.branches.now c.args.made.now c.push.new.self
    c.build_branches.new.made c.set.new.self _ c.len-at.result c.in_default.ensures c.in_ok-push.ensures kept
    c.set.ensures c.len-at.ensures.len

pub build_items-loop-at-init : goal.build_items-loop-at-init
build_items-loop-at-init t c =
    let none : frame_before c.args.self.now.reading [] c.args.items.now c.new-nodes.result.items ≡ [] =
    ap (λ (l : List ℕ). frame_before c.args.self.now.reading [] c.args.items.now l) c.new-nodes.ensures.items
    ∙ no-nodes c.args.self.now.reading [] c.args.items.now in
    let P : Frame ℕ → Type 0 = λ f. ItemsLeft c.args.self.now.names.now c.args.self.now.reading
    (take c.args.count c.args.items.now) (shown_view c.args.self.now.reading c.args.round.shown.now)
    c.args.parts.now c.args.made.now (take c.args.count c.args.items.now) f c.args.parts.now c.args.made.now in
    record {
      left = subst P (sym none) (items-begin c.args.self.now.names.now c.args.self.now.reading
          (take c.args.count c.args.items.now));
      long = ap length c.new-nodes.ensures.items;
      room = c.requires.room;
    }

pub build_items-push-requires : goal.build_items-push-requires
build_items-push-requires t c =
    let few_at : c.loop-at.at < c.args.count = c.loop-at-test.true in
    let here = drop_at (take c.args.count c.args.items.now) c.loop-at.at c.get-item.result.now
    (take_get c.args.items.now c.args.count c.loop-at.at c.get-item.result.now few_at c.get-item.ensures) in
    let few = items-few c.args.self.now.names.now c.args.self.now.reading (take c.args.count c.args.items.now)
    here c.requires.gives c.loop-at.invariant.left in
    let some = room c.args.self.now.names.now c.args.self.now.reading few in
    omega (arith, some, c.loop-at.invariant.room)

pub build_items-build-requires : goal.build_items-build-requires
build_items-build-requires t c =
    let few_at : c.loop-at.at < c.args.count = c.loop-at-test.true in
    let in_first = take_get c.args.items.now c.args.count c.loop-at.at c.get-item.result.now few_at c.get-item.ensures in
    let here = drop_at (take c.args.count c.args.items.now) c.loop-at.at c.get-item.result.now in_first in
    let few = items-few c.args.self.now.names.now c.args.self.now.reading (take c.args.count c.args.items.now)
    here c.requires.gives c.loop-at.invariant.left in
    let sees : (frame_before c.args.self.now.reading [] c.args.items.now c.loop-at.nodes.items)
    ∷ (shown_view c.args.self.now.reading c.args.round.shown.now) ≡ shown_view c.args.self.now.reading
    (s.Behind c.args.items c.as_slice.result c.args.round.shown) =
    sym (shown-Behind c.args.self.now.reading c.args.items c.as_slice.result c.args.round.shown ∙ ap
    (λ (l : List ℕ). frame_before c.args.self.now.reading [] c.args.items.now l
    ∷ (shown_view c.args.self.now.reading c.args.round.shown.now)) c.as_slice.ensures.value) in
    let P : Seen ℕ → Type 0 = λ z. GivesFew c.args.self.now.names.now c.args.self.now.reading c.get-item.result.now (length c.loop-at.made) z in
    let size = item_size c.args.items.now c.loop-at.at c.get-item.result.now c.get-item.ensures in (
      omega (arith, size, c.decreases),
      (
        quiet-at c.args.self.now.names.now c.args.self.now.reading (take c.args.count c.args.items.now)
            c.loop-at.at c.get-item.result.now in_first c.requires.quiet,
        subst P sees few,
      ),
    )

pub build_items-loop-at-preserved : goal.build_items-loop-at-preserved
build_items-loop-at-preserved t c =
    let few_at : c.loop-at.at < c.args.count = c.loop-at-test.true in
    let here = drop_at (take c.args.count c.args.items.now) c.loop-at.at c.get-item.result.now
    (take_get c.args.items.now c.args.count c.loop-at.at c.get-item.result.now few_at c.get-item.ensures) in
    let few = items-few c.args.self.now.names.now c.args.self.now.reading (take c.args.count c.args.items.now)
    here c.requires.gives c.loop-at.invariant.left in
    let sees : (frame_before c.args.self.now.reading [] c.args.items.now c.loop-at.nodes.items)
    ∷ (shown_view c.args.self.now.reading c.args.round.shown.now) ≡ shown_view c.args.self.now.reading
    (s.Behind c.args.items c.as_slice.result c.args.round.shown) =
    sym (shown-Behind c.args.self.now.reading c.args.items c.as_slice.result c.args.round.shown ∙ ap
    (λ (l : List ℕ). frame_before c.args.self.now.reading [] c.args.items.now l
    ∷ (shown_view c.args.self.now.reading c.args.round.shown.now)) c.as_slice.ensures.value) in
    let Q : Seen ℕ → Type 0 = λ z. Adds c.args.self.now.names.now c.args.self.now.reading c.get-item.result.now z c.loop-at.made c.build.new.made in
    let adds = subst Q (sym sees) c.in_ok-build.ensures in
    let next = c.in_ok-push.ensures.ok ∙ ap (λ k. c.loop-at.parts ++ k ∷ []) c.len-node.ensures.len in
    let nodes : c.push-in-loop-at.new.self.items ≡ c.loop-at.nodes.items ++ c.len-node.result ∷ [] = c.in_ok-push-2.ensures.items in
    let at_long : slice_get c.args.items.now (length c.loop-at.nodes.items) ≡ Some c.get-item.result.now =
    ap (λ k. slice_get c.args.items.now k) c.loop-at.invariant.long ∙ c.get-item.ensures in
    let frame : with_labelled (label_of c.args.self.now.reading c.get-item.result.now) (length c.loop-at.made)
    (frame_before c.args.self.now.reading [] c.args.items.now c.loop-at.nodes.items) ≡ frame_before
    c.args.self.now.reading [] c.args.items.now c.push-in-loop-at.new.self.items =
    ap (λ k. with_labelled (label_of c.args.self.now.reading c.get-item.result.now) k
    (frame_before c.args.self.now.reading [] c.args.items.now c.loop-at.nodes.items)) (sym c.len-node.ensures.len)
    ∙ (sym (frame-push c.args.self.now.reading [] c.args.items.now c.loop-at.nodes.items c.get-item.result.now
    c.len-node.result at_long) ∙ ap (λ (l : List ℕ). frame_before c.args.self.now.reading [] c.args.items.now l)
    (sym nodes)) in
    let P : Frame ℕ → Type 0 = λ f. ItemsLeft c.args.self.now.names.now c.args.self.now.reading
    (take c.args.count c.args.items.now) (shown_view c.args.self.now.reading c.args.round.shown.now)
    c.args.parts.now c.args.made.now (drop (c.loop-at.at + 1) (take c.args.count c.args.items.now))
    f c.push.new.self c.build.new.made in
    let long = ap length nodes ∙ length-append c.loop-at.nodes.items (c.len-node.result ∷ []) in
    record {
      left = subst P frame (items-next c.args.self.now.names.now c.args.self.now.reading
          (take c.args.count c.args.items.now) here c.loop-at.invariant.left adds next);
      long = omega (arith, long, c.loop-at.invariant.long);
      room = parts-room c.args.self.now.names.now c.args.self.now.reading c.loop-at.parts c.loop-at.made
          c.build.new.made few adds next c.loop-at.invariant.room;
    }

pub build_items-returns : goal.build_items-returns
build_items-returns t c =
    items-done c.args.self.now.names.now c.args.self.now.reading (take c.args.count c.args.items.now)
    (drop_all c.loop-at.at (take c.args.count c.args.items.now)
    (omega (arith, take_short c.args.count c.args.items.now))) c.loop-at.invariant.left

pub build_name-overflow_add-inner : goal.build_name-overflow_add-inner
build_name-overflow_add-inner t c =
    let found = get_within c.args.self.now.names.now c.in-Some.number c.in-Some.ensures.within in
    let some : rule_of c.args.self.now.names.now c.args.label.now ≡ Some found.0 =
    ap (rule_of c.args.self.now.names.now) (sym c.bytes.ensures.value) ∙ (c.in-Some.ensures.rule ∙ found.1) in
    let few = (quiet-name c.args.self.now.names.now c.args.self.now.reading some c.requires.quiet.1).1 in
    omega (arith, few)

pub build_name-build_rule-requires : goal.build_name-build_rule-requires
build_name-build_rule-requires t c =
    let some : rule_of c.args.self.now.names.now c.args.label.now ≡ Some c.rule.result.now =
    ap (rule_of c.args.self.now.names.now) (sym c.bytes.ensures.value)
    ∙ (c.in-Some.ensures.rule ∙ c.rule.ensures) in
    let quiet = quiet-name c.args.self.now.names.now c.args.self.now.reading some c.requires.quiet.1 in
    let few = quiet.1 in
    let small = in_deepest c.args.self.now.names.now c.in-Some.number c.rule.result.now c.rule.ensures in
    let deep = entered c.args.self.now.names.now c.args.round.names (expr_size c.rule.result.now.body) (omega (arith, few)) small in
    (omega (arith, deep, c.decreases), (quiet.0, few-name c.args.self.now.names.now c.args.self.now.reading some c.requires.gives.1))

pub build_name-push-requires : goal.build_name-push-requires
build_name-push-requires t c =
    room c.args.self.now.names.now c.args.self.now.reading c.requires.gives.1

pub build_name-returns-in-Some : goal.build_name-returns-in-Some
build_name-returns-in-Some t c =
    let some : rule_of c.args.self.now.names.now c.args.label.now ≡ Some c.rule.result.now =
    ap (rule_of c.args.self.now.names.now) (sym c.bytes.ensures.value)
    ∙ (c.in-Some.ensures.rule ∙ c.rule.ensures) in
    on-ok c.build_rule.result (λ h end. adds-name c.args.self.now.names.now c.args.self.now.reading c.args.made.now
    c.build_rule.new.made some h) c.build_rule.ensures

pub build_name-spare_node-requires : goal.build_name-spare_node-requires
build_name-spare_node-requires t c =
    let none : rule_of c.args.self.now.names.now c.args.label.now ≡ None = ap (rule_of c.args.self.now.names.now)
    (sym c.bytes.ensures.value) ∙ c.in-None.ensures.rule in
    let spare = spare-named c.args.self.now.names.now c.args.self.now.reading none c.requires.gives.1.1 in
    record {
      built_in = ap is_built_in c.bytes-in-None.ensures.value ∙ spare.0;
      spare = λ p. spare.1 (sym c.bytes-in-None.ensures.value ∙ p);
    }

pub build_name-returns-in-None : goal.build_name-returns-in-None
build_name-returns-in-None t c =
    let none : rule_of c.args.self.now.names.now c.args.label.now ≡ None = ap (rule_of c.args.self.now.names.now)
    (sym c.bytes.ensures.value) ∙ c.in-None.ensures.rule in
    on-ok c.push.result
    (λ now end. adds-spare c.args.self.now.names.now c.args.self.now.reading c.args.made.now c.push.new.self
    c.spare_node.result none (λ p. c.spare_node.ensures.bit (c.bytes-in-None.ensures.value ∙ p))
    (λ p. c.spare_node.ensures.low (c.bytes-in-None.ensures.value ∙ p))
    (λ p. c.spare_node.ensures.padding (c.bytes-in-None.ensures.value ∙ p)) now)
    c.push.ensures

pub build_power-push-requires : goal.build_power-push-requires
build_power-push-requires t c =
    room c.args.self.now.names.now c.args.self.now.reading c.requires.gives.1

pub build_power-push-requires-in-Any : goal.build_power-push-requires-in-Any
build_power-push-requires-in-Any t c =
    room c.args.self.now.names.now c.args.self.now.reading c.requires.gives.1

pub build_power-push-requires-in-Some : goal.build_power-push-requires-in-Some
build_power-push-requires-in-Some t c =
    room c.args.self.now.names.now c.args.self.now.reading c.requires.gives.1

pub build_power-push-requires-2 : goal.build_power-push-requires-2
build_power-push-requires-2 t c =
    room c.args.self.now.names.now c.args.self.now.reading c.requires.gives.1

pub build_power-build-requires : goal.build_power-build-requires
build_power-build-requires t c =
    let no_bit : is_bit c.args.part.now ≡ false = ap is_bit (sym c.part.view_is) ∙ not-bit c.part.inside.span c.part.inside.form c.in_default-form.not-Bit in
    let any : expr c.args.place c.requires.quiet.0 (power c.args.part.now c.args.count.now) ≡ expr c.args.place
    c.requires.quiet.0 (power c.args.part.now Any) =
    ap (λ z. expr c.args.place c.requires.quiet.0 (power c.args.part.now z)) c.in-Any.is in
    let any_too : expr c.args.place c.requires.gives.0 (power c.args.part.now c.args.count.now) ≡ expr c.args.place
    c.requires.gives.0 (power c.args.part.now Any) =
    ap (λ z. expr c.args.place c.requires.gives.0 (power c.args.part.now z)) c.in-Any.is in (
      omega (arith, c.decreases),
      (
        quiet-many c.args.self.now.names.now c.args.self.now.reading no_bit
            (quiet-as c.args.self.now.names.now c.args.self.now.reading any c.requires.quiet.1),
        few-many c.args.self.now.names.now c.args.self.now.reading c.args.made.now c.push-in-Any.new.self _ no_bit
            c.in_ok-push.ensures (few-as c.args.self.now.names.now c.args.self.now.reading any_too c.requires.gives.1),
      ),
    )

pub build_power-returns-in-Any : goal.build_power-returns-in-Any
build_power-returns-in-Any t c =
    let no_bit : is_bit c.args.part.now ≡ false = ap is_bit (sym c.part.view_is) ∙ not-bit c.part.inside.span c.part.inside.form c.in_default-form.not-Bit in
    on-ok c.build.result
    (λ h end. adds-as c.args.self.now.names.now c.args.self.now.reading c.args.made.now c.build.new.made
    (ap (λ z. expr c.args.place end (power c.args.part.now z)) c.in-Any.is)
    (adds-many c.args.self.now.names.now c.args.self.now.reading c.args.made.now c.push-in-Any.new.self
    c.build.new.made (c.len-inner.result + 1) no_bit (omega (arith, c.len-inner.ensures.len))
    c.in_ok-push.ensures h))
    c.build.ensures

pub build_power-count-count-requires : goal.build_power-count-count-requires
build_power-count-count-requires t c =
    let there = counted-given c.args.self.now.names.now c.args.self.now.reading c.in_default.not-Any c.requires.gives.1.1 in
    record { count = there.0; is = there.1; small = quiet-count c.args.self.now.names.now c.args.self.now.reading c.requires.quiet.1 }

pub build_power-build-requires-2 : goal.build_power-build-requires-2
build_power-build-requires-2 t c =
    let no_unit : unit_of c.args.part.now ≡ None = sym c.in_default-unit_of.ensures in (
      omega (arith, c.decreases),
      (
        quiet-times c.args.self.now.names.now c.args.self.now.reading
            (shown_view c.args.self.now.reading c.args.round.shown.now) no_unit c.count-count.ensures c.requires.quiet.1,
        few-times c.args.self.now.names.now c.args.self.now.reading c.args.made.now c.push-2.new.self _ no_unit
            c.count-count.ensures c.in_ok-push-2.ensures c.requires.gives.1,
      ),
    )

pub build_power-returns : goal.build_power-returns
build_power-returns t c =
    let no_unit : unit_of c.args.part.now ≡ None = sym c.in_default-unit_of.ensures in
    on-ok c.build-2.result
    (λ h end. adds-times c.args.self.now.names.now c.args.self.now.reading c.args.made.now c.push-2.new.self
    c.build-2.new.made (c.len-inner-2.result + 1) c.count-count.result no_unit c.count-count.ensures
    (omega (arith, c.len-inner-2.ensures.len)) c.in_ok-push-2.ensures h)
    c.build-2.ensures

pub build_power-returns-in-Bit : goal.build_power-returns-in-Bit
build_power-returns-in-Bit t c =
    let one : is_bit c.args.part.now ≡ true = ap is_bit (known c.args.part.now c.part.inside.span c.part.inside.form _ c.part.view_is c.in-Bit.is) in
    on-ok c.push.result
    (λ now end. adds-as c.args.self.now.names.now c.args.self.now.reading c.args.made.now c.push.new.self
    (ap (λ z. expr c.args.place end (power c.args.part.now z)) c.in-Any.is)
    (adds-rest c.args.self.now.names.now c.args.self.now.reading c.args.made.now c.push.new.self one now))
    c.push.ensures

pub build_power-returns-in-Some : goal.build_power-returns-in-Some
build_power-returns-in-Some t c =
    on-ok c.push-in-Some.result
    (λ now end. adds-field c.args.self.now.names.now c.args.self.now.reading c.args.made.now c.push-in-Some.new.self
    c.in-Some.unit c.count-count.result (sym c.in-Some.ensures) c.count-count.ensures now)
    c.push-in-Some.ensures

pub build_rule-build_tail-requires : goal.build_rule-build_tail-requires
build_rule-build_tail-requires t c =
    let some : tail_of c.args.rule.now ≡ Some (tail_view c.in-Some.tail) = sym c.in-Some.ensures.tail in (
      omega (arith, c.in-Some.ensures.part, c.decreases),
      (
        omega (arith, c.in-Some.ensures.within),
        (
          quiet-tail c.args.self.now.names.now c.args.self.now.reading
              (take c.in-Some.tail.count c.in-Some.tail.items.now) some refl c.requires.quiet,
          (c.args.rule.now, some, search rules, c.requires.gives),
        ),
      ),
    )

pub build_rule-build-requires : goal.build_rule-build-requires
build_rule-build-requires t c =
    let none : tail_of c.args.rule.now ≡ None = sym c.in-None.ensures.tail in (
      omega (arith, c.decreases),
      (
        quiet-plain c.args.self.now.names.now c.args.self.now.reading none c.requires.quiet,
        few-plain c.args.self.now.names.now c.args.self.now.reading none c.requires.gives,
      ),
    )

pub build_rule-returns-in-Some : goal.build_rule-returns-in-Some
build_rule-returns-in-Some t c =
    let some : tail_of c.args.rule.now ≡ Some (tail_view c.in-Some.tail) = sym c.in-Some.ensures.tail in
    on-ok c.build_tail.result (λ h. h c.args.rule.now some (search rules)) c.build_tail.ensures

pub build_rule-returns-in-None : goal.build_rule-returns-in-None
build_rule-returns-in-None t c =
    let none : tail_of c.args.rule.now ≡ None = sym c.in-None.ensures.tail in
    on-ok c.build.result (λ h. adds-plain c.args.self.now.names.now c.args.self.now.reading c.args.made.now c.build.new.made none h) c.build.ensures

pub build_tail-build_items-requires : goal.build_tail-build_items-requires
build_tail-build_items-requires t c =
    let few = tail-few c.args.self.now.names.now c.args.self.now.reading c.requires.gives in (
      omega (arith, c.decreases),
      (
        c.requires.within,
        (
          c.requires.quiet,
          (
            tail-items c.args.self.now.names.now c.args.self.now.reading c.args.made.now
                (take c.args.tail.count c.args.tail.items.now) _ refl c.in_ok-push.ensures few,
            omega
                (arith, ap length c.new-parts.ensures),
          ),
        ),
      ),
    )

-- the items of a rule in tail form stand behind its node
tail-added : (t : ℕ) (c : build_tail-In_ok-build_items t)
    → AddsItems c.args.self.now.names.now c.args.self.now.reading (take c.args.tail.count c.args.tail.items.now)
    (shown_view c.args.self.now.reading c.args.round.shown.now) [] c.build_items.new.parts c.push.new.self
    c.build_items.new.made
tail-added t c =
    let P : List ℕ → Type 0 = λ l. AddsItems c.args.self.now.names.now c.args.self.now.reading
    (take c.args.tail.count c.args.tail.items.now) (shown_view c.args.self.now.reading c.args.round.shown.now)
    l c.build_items.new.parts c.push.new.self c.build_items.new.made in
    subst P c.new-parts.ensures c.in_ok-build_items.ensures

tail-behind : (t : ℕ) (c : build_tail-In_ok-build_items t)
    → ItemsIn c.args.self.now.names.now c.args.self.now.reading (tail_view c.args.tail)
    (shown_view c.args.self.now.reading c.args.round.shown.now) c.args.place c.args.made.now c.build_items.new.made
    c.build_items.new.parts
tail-behind t c =
    items-in c.args.self.now.names.now c.args.self.now.reading c.args.made.now
    (take c.args.tail.count c.args.tail.items.now) _ refl c.in_ok-push.ensures (tail-added t c)
    (tail-few c.args.self.now.names.now c.args.self.now.reading c.requires.gives)

pub build_tail-push-requires-2 : goal.build_tail-push-requires-2
build_tail-push-requires-2 t c =
    let behind = tail-behind t (goal.at.build_tail-push-requires-2 t c).In_ok-build_items in
    let fit = parts-fit c.args.self.now.names.now c.args.self.now.reading behind in
    omega (arith, fit)

pub build_tail-build_turn-requires : goal.build_tail-build_turn-requires
build_tail-build_turn-requires t c =
    let behind = tail-behind t (goal.at.build_tail-build_turn-requires t c).In_ok-build_items in
    (omega (arith, c.decreases), (c.requires.within, (c.requires.quiet, turn-few c.args.self.now.names.now c.args.self.now.reading behind)))

pub build_tail-push-requires-3 : goal.build_tail-push-requires-3
build_tail-push-requires-3 t c =
    let behind = tail-behind t (goal.at.build_tail-push-requires-3 t c).In_ok-build_items in
    let fit = parts-fit c.args.self.now.names.now c.args.self.now.reading behind in
    let one = ap length c.in_ok-push-2.ensures.ok ∙ length-append c.build_items.new.parts (c.len.result ∷ []) in
    omega (arith, fit, one)

pub build_tail-push-requires-4 : goal.build_tail-push-requires-4
build_tail-push-requires-4 t c =
    let behind = tail-behind t (goal.at.build_tail-push-requires-4 t c).In_ok-build_items in
    stop-room c.args.self.now.names.now c.args.self.now.reading c.build_turn.new.made behind c.in_ok-build_turn.ensures

pub build_tail-set-requires : goal.build_tail-set-requires
build_tail-set-requires t c =
    let behind = tail-behind t (goal.at.build_tail-set-requires t c).In_ok-build_items in
    let longer = tail-longer c.args.self.now.names.now c.args.self.now.reading c.build_turn.new.made behind c.in_ok-build_turn.ensures in
    let one = ap length c.in_ok-push-4.ensures ∙ length-append c.build_turn.new.made _ in
    omega (arith, longer, one, c.len-at.ensures.len)

pub build_tail-returns : goal.build_tail-returns
build_tail-returns t c =
    let items = tail-added t (goal.at.build_tail-returns t c).In_ok-build_items in
    let stopped = c.in_ok-push-4.ensures ∙ ap (λ z. c.build_turn.new.made ++ placed (Lits z) c.args.tail.end.stop.at ∷ []) c.in_ok-stop.ensures in
    let all = c.in_ok-push-3.ensures.ok
    ∙ (ap (λ l. l ++ c.len-2.result ∷ []) c.in_ok-push-2.ensures.ok ∙ append_assoc c.build_items.new.parts
    (c.len.result ∷ []) (c.len-2.result ∷ [])) in
    adds-tail c.args.self.now.names.now c.args.self.now.reading c.args.made.now
    (take c.args.tail.count c.args.tail.items.now) _ c.len-at.result c.len.result c.len-2.result refl
    c.in_ok-push.ensures items c.in_ok-build_turn.ensures stopped c.len.ensures.len c.len-2.ensures.len all
    c.set.ensures c.len-at.ensures.len

pub build_turn-set-requires : goal.build_turn-set-requires
build_turn-set-requires t c =
    let few = turn-items c.args.self.now.names.now c.args.self.now.reading c.args.made.now
    (take c.args.tail.count c.args.tail.items.now) _ _ _ refl c.in_ok-push.ensures c.in_ok-push-2.ensures
    c.in_ok-push-3.ensures c.requires.gives in
    let longer = items-longer c.args.self.now.names.now c.args.self.now.reading
    (take c.args.tail.count c.args.tail.items.now) c.push-4.new.self c.push-3.new.self c.build_items.new.made few
    c.in_ok-build_items.ensures in
    let one = ap length c.in_ok-push.ensures ∙ length-append c.args.made.now _ in
    let two = ap length c.in_ok-push-2.ensures ∙ length-append c.push.new.self _ in
    let three = ap length c.in_ok-push-3.ensures ∙ length-append c.push-2.new.self _ in
    omega (arith, longer, one, two, three, c.len-sequence.ensures.len)

pub build_turn-returns : goal.build_turn-returns
build_turn-returns t c =
    let again = c.in_ok-push-3.ensures ∙ ap (λ z. c.push-2.new.self ++ placed (Lits z) c.args.tail.end.again.at ∷ []) c.in_ok-again.ensures in
    let first : c.push-4.new.self ≡ (c.len-sequence.result + 1 + 1) ∷ [] = c.in_ok-push-4.ensures.ok
    ∙ ap (λ l. l ++ (c.len-sequence.result + 1 + 1) ∷ []) c.new-parts.ensures in
    let P : List ℕ → Type 0 = λ l. AddsItems c.args.self.now.names.now c.args.self.now.reading
    (take c.args.tail.count c.args.tail.items.now) (shown_view c.args.self.now.reading c.args.round.shown.now)
    l c.build_items.new.parts c.push-3.new.self c.build_items.new.made in
    adds-turn c.args.self.now.names.now c.args.self.now.reading c.args.made.now
    (take c.args.tail.count c.args.tail.items.now) _ (c.len-sequence.result + 1) (c.len-sequence.result + 1 + 1)
    refl c.in_ok-push.ensures c.in_ok-push-2.ensures again (subst P first c.in_ok-build_items.ensures)
    (omega (arith, c.len-sequence.ensures.len)) refl c.set.ensures
