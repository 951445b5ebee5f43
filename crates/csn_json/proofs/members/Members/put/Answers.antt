use Rattle.std.proofs.Common.{ap, sym, ◌∙◌, subst, codes}
use Rattle.csn_json.specs.Pieces.{TellsTag, TellsTree}
use Rattle.csn_json.proofs.MembersRead.{member_told, alternative_put, label_put, tree_put, other_put}
use Rattle.csn_json.proofs.members.Members.put.Goals as goal

pub returns-in_ok-tag_of-in-alt-clause-ok : goal.returns-in_ok-tag_of-in-alt-clause-ok
returns-in_ok-tag_of-in-alt-clause-ok c = λ members value has told.
    let m = c.args.self.now in
    let found = c.in_ok-tag_of-in-alt.field-0 in
    let tag = subst (λ k. TellsTag k found value) c.in-alt.is (c.in_ok-tag_of-in-alt.ensures.ok c.args.round value told) in
    alternative_put c.args.round m.other m.alternative m.label c.told.result m.tree members c.args.key.now value c.in-alt.is
    (member_told (TellsTag (codes "alt")) found c.told.result value c.told.ensures.fit c.told.ensures.unfit tag) has

pub returns-in_ok-tag_of-in-label-clause-ok : goal.returns-in_ok-tag_of-in-label-clause-ok
returns-in_ok-tag_of-in-label-clause-ok c = λ members value has told.
    let m = c.args.self.now in
    let found = c.in_ok-tag_of-in-label.field-0 in
    let tag = subst (λ k. TellsTag k found value) c.in-label.is (c.in_ok-tag_of-in-label.ensures.ok c.args.round value told) in
    label_put c.args.round m.other m.alternative m.label c.told-in-label.result m.tree members c.args.key.now value c.in-label.is
    (member_told (TellsTag (codes "label")) found c.told-in-label.result value c.told-in-label.ensures.fit c.told-in-label.ensures.unfit tag) has

pub returns-in_ok-tree_of-in-tree-clause-ok : goal.returns-in_ok-tree_of-in-tree-clause-ok
returns-in_ok-tree_of-in-tree-clause-ok c = λ members value has told.
    let m = c.args.self.now in
    let found = c.in_ok-tree_of-in-tree.field-0 in
    tree_put c.args.round m.other m.alternative m.label m.tree c.told-in-tree.result members c.args.key.now value c.in-tree.is
    (member_told (TellsTree c.args.round) found c.told-in-tree.result value c.told-in-tree.ensures.fit c.told-in-tree.ensures.unfit
    (c.in_ok-tree_of-in-tree.ensures.ok value told)) has

pub returns-in_default-clause-ok : goal.returns-in_default-clause-ok
returns-in_default-clause-ok c = λ members value has told.
    other_put c.args.key.now value members (c.in_default.not-alt, c.in_default.not-label, c.in_default.not-tree)
