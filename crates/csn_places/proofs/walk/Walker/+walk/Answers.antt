use Rattle.std.proofs.Common.{◌≡◌, ◌<◌, ◌+◌, [], ◌∷◌, Some, None, take, sym, ◌∙◌, ap, take_all, rules, arith}
use Rattle.csn_grammar.specs.ExprV.{BranchV, sends, exprs_of}
use Rattle.csn_grammar.specs.ExprCode.{expr_size, list_size, branch_list_size}
use Rattle.csn_grammar.specs.Names.{rule_of}
use Rattle.csn_grammar.specs.TailForm.{tail_of}
use Rattle.csn_resolve.specs.Views.{tail_view}
use Rattle.csn_resolve.proofs.Basics.Parts.{item_size, branch_size_of, take_get, take_short, get_within}
use Rattle.csn_resolve.proofs.Walking.DepthFacts.{in_deepest}
use Rattle.csn_resolve.proofs.Naming.ViewFacts.{known, part-smaller}
use Rattle.csn_resolve.proofs.Giving.AddFacts.{on-ok}
use Rattle.csn_places.specs.Origins.{at, origins, form_origins, items_origins, named_at}
use Rattle.csn_places.proofs.WalkFacts.{adds-behind, adds-told, adds-none, adds-form, items-next, items-done, branches-next}
use Rattle.csn_places.proofs.WalkFacts.{branches-past, branches-done, plain-rule, tail-rule-at, tail-adds, name-room}
use Rattle.csn_places.proofs.WalkFacts.{none-named, last-named, rule-named}
use Rattle.csn_places.proofs.walk.Walker.+walk.Goals as goal

pub walk-returns-in-Lits : goal.walk-returns-in-Lits
walk-returns-in-Lits t c =
    let is = known c.args.x.now c.x.inside.span c.x.inside.form _ c.x.view_is c.in-Lits.is in
    on-ok c.push_origin.result (λ h void told. adds-form c.args.self.now.names.now c.args.self.now.reading void c.args.left c.args.round.now
    c.args.x.now _ c.args.out.now.items c.push_origin.new.out.items is h) c.push_origin.ensures

pub walk-returns-in-Null : goal.walk-returns-in-Null
walk-returns-in-Null t c =
    let is = known c.args.x.now c.x.inside.span c.x.inside.form _ c.x.view_is c.in-Null.is in
    on-ok c.push_origin-in-Null.result (λ h void told. adds-form c.args.self.now.names.now c.args.self.now.reading void c.args.left c.args.round.now
    c.args.x.now _ c.args.out.now.items c.push_origin-in-Null.new.out.items is h) c.push_origin-in-Null.ensures

pub walk-returns-in-Bit : goal.walk-returns-in-Bit
walk-returns-in-Bit t c =
    let is = known c.args.x.now c.x.inside.span c.x.inside.form _ c.x.view_is c.in-Bit.is in
    on-ok c.push_origin-in-Bit.result (λ h void told. adds-form c.args.self.now.names.now c.args.self.now.reading void c.args.left c.args.round.now
    c.args.x.now _ c.args.out.now.items c.push_origin-in-Bit.new.out.items is h) c.push_origin-in-Bit.ensures

pub walk-returns-in-Octet : goal.walk-returns-in-Octet
walk-returns-in-Octet t c =
    let is = known c.args.x.now c.x.inside.span c.x.inside.form _ c.x.view_is c.in-Octet.is in
    on-ok c.push_origin-in-Octet.result (λ h void told. adds-form c.args.self.now.names.now c.args.self.now.reading void c.args.left c.args.round.now
    c.args.x.now _ c.args.out.now.items c.push_origin-in-Octet.new.out.items is h) c.push_origin-in-Octet.ensures

pub walk-walk_name-requires : goal.walk-walk_name-requires
walk-walk_name-requires t c =
    omega (arith, c.decreases)

pub walk-returns-in-Name : goal.walk-returns-in-Name
walk-returns-in-Name t c =
    let is = known c.args.x.now c.x.inside.span c.x.inside.form _ c.x.view_is c.in-Name.is in
    on-ok c.walk_name.result (λ h void told. adds-form c.args.self.now.names.now c.args.self.now.reading void c.args.left c.args.round.now
    c.args.x.now _ c.args.out.now.items c.walk_name.new.out.items is (h void told)) c.walk_name.ensures

pub walk-walk-requires : goal.walk-walk-requires
walk-walk-requires t c =
    let less = part-smaller c.args.x.now c.x.inside.span c.x.inside.form _ c.in-Labelled.part.value c.deref.result.now
    c.x.view_is c.in-Labelled.is c.deref.ensures (omega arith) in
    omega (arith, less, c.decreases)

pub walk-returns-in_ok-push_origin-in-Labelled : goal.walk-returns-in_ok-push_origin-in-Labelled
walk-returns-in_ok-push_origin-in-Labelled t c =
    let is = known c.args.x.now c.x.inside.span c.x.inside.form _ c.x.view_is c.in-Labelled.is in
    on-ok c.walk.result (λ h void told.
    let names = named_at c.args.self.now.names.now c.args.self.now.reading void c.args.left c.args.round.now in
    let part = ap (origins c.args.self.now.reading void c.args.round.now names) c.deref.ensures in
    adds-form c.args.self.now.names.now c.args.self.now.reading void c.args.left c.args.round.now
    c.args.x.now _ c.args.out.now.items c.walk.new.out.items is
    (adds-behind c.args.out.now.items c.push_origin-in-Labelled.new.out.items c.walk.new.out.items (at c.x.inside.span.start c.args.round.now ∷ [])
    (origins c.args.self.now.reading void c.args.round.now names c.in-Labelled.part.value) c.in_ok-push_origin-in-Labelled.ensures
    (adds-told c.push_origin-in-Labelled.new.out.items c.walk.new.out.items _ _ part (h void told)))) c.walk.ensures

pub walk-walk-requires-in-Group : goal.walk-walk-requires-in-Group
walk-walk-requires-in-Group t c =
    let less = part-smaller c.args.x.now c.x.inside.span c.x.inside.form _ c.in-Group.part.value c.deref-in-Group.result.now
    c.x.view_is c.in-Group.is c.deref-in-Group.ensures (omega arith) in
    omega (arith, less, c.decreases)

pub walk-returns-in-Group : goal.walk-returns-in-Group
walk-returns-in-Group t c =
    let is = known c.args.x.now c.x.inside.span c.x.inside.form _ c.x.view_is c.in-Group.is in
    on-ok c.walk-in-Group.result (λ h void told.
    let names = named_at c.args.self.now.names.now c.args.self.now.reading void c.args.left c.args.round.now in
    let part = ap (origins c.args.self.now.reading void c.args.round.now names) c.deref-in-Group.ensures in
    adds-form c.args.self.now.names.now c.args.self.now.reading void c.args.left c.args.round.now
    c.args.x.now _ c.args.out.now.items c.walk-in-Group.new.out.items is
    (adds-told c.args.out.now.items c.walk-in-Group.new.out.items _
    (origins c.args.self.now.reading void c.args.round.now names c.in-Group.part.value) part (h void told))) c.walk-in-Group.ensures

pub walk-walk_items-requires : goal.walk-walk_items-requires
walk-walk_items-requires t c =
    let is = known c.args.x.now c.x.inside.span c.x.inside.form _ c.x.view_is c.in-Seq.is in
    let size : expr_size c.args.x.now ≡ list_size c.in-Seq.items + 1 = ap expr_size is in (
      omega (arith, size, c.decreases),
      omega (arith, c.len.ensures.len),
    )

pub walk-returns-in_ok-push_origin-in-Seq : goal.walk-returns-in_ok-push_origin-in-Seq
walk-returns-in_ok-push_origin-in-Seq t c =
    let is = known c.args.x.now c.x.inside.span c.x.inside.form _ c.x.view_is c.in-Seq.is in
    let all : take c.len.result c.in-Seq.items ≡ c.in-Seq.items =
    take_all c.len.result c.in-Seq.items (omega (arith, c.len.ensures.len)) in
    on-ok c.walk_items.result (λ h void told.
    let names = named_at c.args.self.now.names.now c.args.self.now.reading void c.args.left c.args.round.now in
    adds-form c.args.self.now.names.now c.args.self.now.reading void c.args.left c.args.round.now
    c.args.x.now _ c.args.out.now.items c.walk_items.new.out.items is
    (adds-behind c.args.out.now.items c.push_origin-in-Seq.new.out.items c.walk_items.new.out.items (at c.x.inside.span.start c.args.round.now ∷ [])
    (items_origins c.args.self.now.reading void c.args.round.now names (exprs_of c.in-Seq.items)) c.in_ok-push_origin-in-Seq.ensures
    (adds-told c.push_origin-in-Seq.new.out.items c.walk_items.new.out.items _ _
    (ap (λ l. items_origins c.args.self.now.reading void c.args.round.now names (exprs_of l)) all) (h void told)))) c.walk_items.ensures

pub walk-walk_items-requires-in-Cut : goal.walk-walk_items-requires-in-Cut
walk-walk_items-requires-in-Cut t c =
    let is = known c.args.x.now c.x.inside.span c.x.inside.form _ c.x.view_is c.in-Cut.is in
    let size : expr_size c.args.x.now ≡ list_size c.in-Cut.items + 1 = ap expr_size is in (
      omega (arith, size, c.decreases),
      omega (arith, c.len-in-Cut.ensures.len),
    )

pub walk-returns-in_ok-push_origin-in-Cut : goal.walk-returns-in_ok-push_origin-in-Cut
walk-returns-in_ok-push_origin-in-Cut t c =
    let is = known c.args.x.now c.x.inside.span c.x.inside.form _ c.x.view_is c.in-Cut.is in
    let all : take c.len-in-Cut.result c.in-Cut.items ≡ c.in-Cut.items =
    take_all c.len-in-Cut.result c.in-Cut.items (omega (arith, c.len-in-Cut.ensures.len)) in
    on-ok c.walk_items-in-Cut.result (λ h void told.
    let names = named_at c.args.self.now.names.now c.args.self.now.reading void c.args.left c.args.round.now in
    adds-form c.args.self.now.names.now c.args.self.now.reading void c.args.left c.args.round.now
    c.args.x.now _ c.args.out.now.items c.walk_items-in-Cut.new.out.items is
    (adds-behind c.args.out.now.items c.push_origin-in-Cut.new.out.items c.walk_items-in-Cut.new.out.items (at c.x.inside.span.start c.args.round.now ∷ [])
    (items_origins c.args.self.now.reading void c.args.round.now names (exprs_of c.in-Cut.items)) c.in_ok-push_origin-in-Cut.ensures
    (adds-told c.push_origin-in-Cut.new.out.items c.walk_items-in-Cut.new.out.items _ _
    (ap (λ l. items_origins c.args.self.now.reading void c.args.round.now names (exprs_of l)) all) (h void told)))) c.walk_items-in-Cut.ensures

pub walk-walk_choice-requires : goal.walk-walk_choice-requires
walk-walk_choice-requires t c =
    let is = known c.args.x.now c.x.inside.span c.x.inside.form _ c.x.view_is c.in-Choice.is in
    let size : expr_size c.args.x.now ≡ branch_list_size c.in-Choice.branches + 1 = ap expr_size is in
    omega (arith, size, c.decreases)

pub walk-returns-in-Choice : goal.walk-returns-in-Choice
walk-returns-in-Choice t c =
    let is = known c.args.x.now c.x.inside.span c.x.inside.form _ c.x.view_is c.in-Choice.is in
    on-ok c.walk_choice.result (λ h void told. adds-form c.args.self.now.names.now c.args.self.now.reading void c.args.left c.args.round.now
    c.args.x.now _ c.args.out.now.items c.walk_choice.new.out.items is (h void told)) c.walk_choice.ensures

pub walk-walk-requires-in-Received : goal.walk-walk-requires-in-Received
walk-walk-requires-in-Received t c =
    let less = part-smaller c.args.x.now c.x.inside.span c.x.inside.form _ c.in-Sends.one.value c.deref-in-Received.result.now
    c.x.view_is c.in-Sends.is c.deref-in-Received.ensures (omega arith) in
    omega (arith, less, c.decreases)

pub walk-returns-in-Received : goal.walk-returns-in-Received
walk-returns-in-Received t c =
    let is = known c.args.x.now c.x.inside.span c.x.inside.form _ c.x.view_is c.in-Sends.is in
    on-ok c.walk-in-Received.result (λ h void told.
    let names = named_at c.args.self.now.names.now c.args.self.now.reading void c.args.left c.args.round.now in
    let part = ap (origins c.args.self.now.reading void c.args.round.now names) c.deref-in-Received.ensures in
    let form = sends c.in-Sends.one.value c.in-Sends.other.value in
    let side : origins c.args.self.now.reading void c.args.round.now names c.in-Sends.one.value
    ≡ form_origins c.args.self.now.reading void c.args.round.now names c.args.self.now.reading c.x.inside.span.start form =
    sym (ap (λ z. form_origins c.args.self.now.reading void c.args.round.now names z c.x.inside.span.start form) c.in-Received.is) in
    adds-form c.args.self.now.names.now c.args.self.now.reading void c.args.left c.args.round.now
    c.args.x.now _ c.args.out.now.items c.walk-in-Received.new.out.items is
    (adds-told c.args.out.now.items c.walk-in-Received.new.out.items _ _ (part ∙ side) (h void told))) c.walk-in-Received.ensures

pub walk-walk-requires-in-Sent : goal.walk-walk-requires-in-Sent
walk-walk-requires-in-Sent t c =
    let less = part-smaller c.args.x.now c.x.inside.span c.x.inside.form _ c.in-Sends.other.value c.deref-in-Sent.result.now
    c.x.view_is c.in-Sends.is c.deref-in-Sent.ensures (omega arith) in
    omega (arith, less, c.decreases)

pub walk-returns-in-Sent : goal.walk-returns-in-Sent
walk-returns-in-Sent t c =
    let is = known c.args.x.now c.x.inside.span c.x.inside.form _ c.x.view_is c.in-Sends.is in
    on-ok c.walk-in-Sent.result (λ h void told.
    let names = named_at c.args.self.now.names.now c.args.self.now.reading void c.args.left c.args.round.now in
    let part = ap (origins c.args.self.now.reading void c.args.round.now names) c.deref-in-Sent.ensures in
    let form = sends c.in-Sends.one.value c.in-Sends.other.value in
    let side : origins c.args.self.now.reading void c.args.round.now names c.in-Sends.other.value
    ≡ form_origins c.args.self.now.reading void c.args.round.now names c.args.self.now.reading c.x.inside.span.start form =
    sym (ap (λ z. form_origins c.args.self.now.reading void c.args.round.now names z c.x.inside.span.start form) c.in-Sent.is) in
    adds-form c.args.self.now.names.now c.args.self.now.reading void c.args.left c.args.round.now
    c.args.x.now _ c.args.out.now.items c.walk-in-Sent.new.out.items is
    (adds-told c.args.out.now.items c.walk-in-Sent.new.out.items _ _ (part ∙ side) (h void told))) c.walk-in-Sent.ensures

pub walk_items-walk-requires : goal.walk_items-walk-requires
walk_items-walk-requires t c =
    let size = item_size c.args.items.now c.loop-at.at c.get.result.now c.get.ensures in
    omega (arith, size, c.decreases)

pub walk_items-loop-at-preserved : goal.walk_items-loop-at-preserved
walk_items-loop-at-preserved t c =
    λ void told. let few : c.loop-at.at < c.args.count = c.loop-at-test.true in
    items-next c.args.self.now.names.now c.args.self.now.reading void c.args.left c.args.round.now
    (take c.args.count c.args.items.now) c.loop-at.at c.get.result.now c.loop-at.out.items c.walk.new.out.items _
    (take_get c.args.items.now c.args.count c.loop-at.at c.get.result.now few c.get.ensures) (c.loop-at.invariant void told) (c.in_ok-walk.ensures void told)

pub walk_items-returns : goal.walk_items-returns
walk_items-returns t c =
    λ void told. items-done c.args.self.now.names.now c.args.self.now.reading void c.args.left c.args.round.now
    (take c.args.count c.args.items.now) c.loop-at.at c.loop-at.out.items _
    (omega (arith, take_short c.args.count c.args.items.now, c.loop-at-test.false)) (c.loop-at.invariant void told)

pub walk_branches-walk-requires : goal.walk_branches-walk-requires
walk_branches-walk-requires t c =
    let size = branch_size_of c.args.branches.now c.loop-at.at c.get-branch.result.now c.get-branch.ensures in
    let same : expr_size c.branch.inside.body ≡ expr_size c.get-branch.result.now.body = ap (λ (b : BranchV). expr_size b.body) c.branch.view_is in
    omega (arith, size, same, c.decreases)

pub walk_branches-loop-at-preserved-then-not-is_kept : goal.walk_branches-loop-at-preserved-then-not-is_kept
walk_branches-loop-at-preserved-then-not-is_kept t c =
    λ void told. branches-past c.args.self.now.names.now c.args.self.now.reading void c.args.left c.args.round.now
    c.args.branches.now c.loop-at.at c.get-branch.result.now c.loop-at.out.items _ c.get-branch.ensures
    (sym (c.is_kept.ensures void told) ∙ c.if-not-is_kept.true) (c.loop-at.invariant void told)

pub walk_branches-loop-at-preserved : goal.walk_branches-loop-at-preserved
walk_branches-loop-at-preserved t c =
    λ void told. let body : c.branch.inside.body ≡ c.get-branch.result.now.body = ap (λ (b : BranchV). b.body) c.branch.view_is in
    branches-next c.args.self.now.names.now c.args.self.now.reading void c.args.left c.args.round.now
    c.args.branches.now c.loop-at.at c.get-branch.result.now c.loop-at.out.items c.walk.new.out.items _ c.get-branch.ensures
    (sym (c.is_kept.ensures void told) ∙ c.if-not-is_kept.false) (c.loop-at.invariant void told)
    (adds-told c.loop-at.out.items c.walk.new.out.items _ _ (ap (origins c.args.self.now.reading void c.args.round.now
    (named_at c.args.self.now.names.now c.args.self.now.reading void c.args.left c.args.round.now)) body) (c.in_ok-walk.ensures void told))

pub walk_branches-returns : goal.walk_branches-returns
walk_branches-returns t c =
    λ void told. branches-done c.args.self.now.names.now c.args.self.now.reading void c.args.left c.args.round.now
    c.args.branches.now c.loop-at.at c.loop-at.out.items _ (omega (arith, c.len-at-end.ensures.len, c.loop-at-test.false)) (c.loop-at.invariant void told)

pub walk_name-walk_rule-requires : goal.walk_name-walk_rule-requires
walk_name-walk_rule-requires t c =
    let some : rule_of c.args.self.now.names.now c.args.label.now ≡ Some c.rule.result.now =
    ap (rule_of c.args.self.now.names.now) (sym c.bytes.ensures.value) ∙ (c.in-Some.ensures.rule ∙ c.rule.ensures) in
    let small = in_deepest c.args.self.now.names.now c.in-Some.number c.rule.result.now c.rule.ensures in
    let room = name-room c.args.self.now.names.now c.args.left (expr_size c.rule.result.now.body) (λ p. omega (arith, p)) small in
    omega (arith, room, c.decreases)

pub walk_name-returns-in_ok-inner-in-Some : goal.walk_name-returns-in_ok-inner-in-Some
walk_name-returns-in_ok-inner-in-Some t c =
    let some : rule_of c.args.self.now.names.now c.args.label.now ≡ Some c.rule.result.now =
    ap (rule_of c.args.self.now.names.now) (sym c.bytes.ensures.value) ∙ (c.in-Some.ensures.rule ∙ c.rule.ensures) in
    on-ok c.walk_rule.result (λ h void told. adds-told c.args.out.now.items c.walk_rule.new.out.items _ _
    (rule-named c.args.self.now.names.now c.args.self.now.reading void c.args.left c.args.round.now
    c.args.label.now c.args.place c.rule.result.now c.in_ok-inner-in-Some.inner
    (λ p. omega (arith, p)) some c.in_ok-inner-in-Some.ensures) (h void told)) c.walk_rule.ensures

pub walk_name-returns-then-left-eq0 : goal.walk_name-returns-then-left-eq0
walk_name-returns-then-left-eq0 t c =
    λ void told. let found = get_within c.args.self.now.names.now c.in-Some.number c.in-Some.ensures.within in
    let some : rule_of c.args.self.now.names.now c.args.label.now ≡ Some found.0 =
    ap (rule_of c.args.self.now.names.now) (sym c.bytes.ensures.value) ∙ (c.in-Some.ensures.rule ∙ found.1) in
    adds-none c.args.out.now.items _ (last-named c.args.self.now.names.now c.args.self.now.reading void c.args.left
    c.args.round.now c.args.label.now c.args.place found.0
    (omega arith) some)

pub walk_name-returns-in-None : goal.walk_name-returns-in-None
walk_name-returns-in-None t c =
    let none : rule_of c.args.self.now.names.now c.args.label.now ≡ None =
    ap (rule_of c.args.self.now.names.now) (sym c.bytes.ensures.value) ∙ c.in-None.ensures.rule in
    on-ok c.push_origin.result (λ h void told. adds-told c.args.out.now.items c.push_origin.new.out.items _ _
    (none-named c.args.self.now.names.now c.args.self.now.reading void c.args.left c.args.round.now c.args.label.now c.args.place none) h) c.push_origin.ensures

pub walk_rule-walk_tail-requires : goal.walk_rule-walk_tail-requires
walk_rule-walk_tail-requires t c =
    (omega (arith, c.in-Some.ensures.part, c.decreases), omega (arith, c.in-Some.ensures.within))

pub walk_rule-walk-requires : goal.walk_rule-walk-requires
walk_rule-walk-requires t c =
    omega (arith, c.decreases)

pub walk_rule-returns-in-Some : goal.walk_rule-returns-in-Some
walk_rule-returns-in-Some t c =
    let some : tail_of c.args.rule.now ≡ Some (tail_view c.in-Some.tail) = sym c.in-Some.ensures.tail in
    on-ok c.walk_tail.result (λ h void told. adds-told c.args.out.now.items c.walk_tail.new.out.items _ _
    (tail-rule-at c.args.self.now.names.now c.args.self.now.reading void c.args.left c.args.round.now c.args.rule.now
    (tail_view c.in-Some.tail) _ some (search rules)) (h void told)) c.walk_tail.ensures

pub walk_rule-returns-in-None : goal.walk_rule-returns-in-None
walk_rule-returns-in-None t c =
    let none : tail_of c.args.rule.now ≡ None = sym c.in-None.ensures.tail in
    on-ok c.walk.result (λ h void told. adds-told c.args.out.now.items c.walk.new.out.items _ _
    (plain-rule c.args.self.now.names.now c.args.self.now.reading void c.args.left c.args.round.now c.args.rule.now none) (h void told)) c.walk.ensures

pub walk_tail-walk_items-requires : goal.walk_tail-walk_items-requires
walk_tail-walk_items-requires t c =
    (omega (arith, c.decreases), c.requires.within)

pub walk_tail-walk_items-requires-2 : goal.walk_tail-walk_items-requires-2
walk_tail-walk_items-requires-2 t c =
    (omega (arith, c.decreases), c.requires.within)

pub walk_tail-returns : goal.walk_tail-returns
walk_tail-returns t c =
    on-ok c.push_origin-5.result (λ h void told. tail-adds c.args.self.now.names.now c.args.self.now.reading void c.args.left c.args.round.now
    c.args.place (tail_view c.args.tail) c.args.out.now.items _ _ _ _ _ _ c.push_origin-5.new.out.items
    c.in_ok-push_origin.ensures (c.in_ok-walk_items.ensures void told) c.in_ok-push_origin-2.ensures c.in_ok-push_origin-3.ensures
    c.in_ok-push_origin-4.ensures (c.in_ok-walk_items-2.ensures void told) h) c.push_origin-5.ensures

pub walk_choice-walk_branches-requires : goal.walk_choice-walk_branches-requires
walk_choice-walk_branches-requires t c =
    omega (arith, c.decreases)
