use Rattle.std.proofs.Common.{[], ◌∷◌}
use Rattle.csn_certify.specs.Search.{IsFirstUnder}
use Rattle.csn_certify.proofs.Searching.{first_stage, third_stage, is_none, if_ok_more, second_stage}
use Rattle.csn_certify.proofs.search.Search.of_choice.Goals as goal

pub returns-in-Some : goal.returns-in-Some
returns-in-Some c = first_stage c.args.self.now.desc.now c.args.node c.in-Some.conflict c.in-Some.ensures

pub returns : goal.returns
returns c =
    let d = c.args.self.now.desc.now in
    if_ok_more c.choice_clash.result (IsFirstUnder d (c.args.node ∷ 3 ∷ [])) (IsFirstUnder d (c.args.node ∷ []))
    (λ r h. third_stage d c.args.node r (is_none d (c.args.node ∷ 1 ∷ []) c.two_empty.result c.in_default.not-Some c.two_empty.ensures)
    (is_none d (c.args.node ∷ 2 ∷ []) c.choice_not_firm.result c.in_default-choice_not_firm.not-Some c.choice_not_firm.ensures) h) c.choice_clash.ensures

pub returns-in-Some-choice_not_firm : goal.returns-in-Some-choice_not_firm
returns-in-Some-choice_not_firm c =
    let d = c.args.self.now.desc.now in
    second_stage d c.args.node c.in-Some-choice_not_firm.conflict
    (is_none d (c.args.node ∷ 1 ∷ []) c.two_empty.result c.in_default.not-Some c.two_empty.ensures) c.in-Some-choice_not_firm.ensures

pub choice_not_firm-requires-clause-choice : goal.choice_not_firm-requires-clause-choice
choice_not_firm-requires-clause-choice c = c.requires.choice

pub choice_clash-requires-clause-choice : goal.choice_clash-requires-clause-choice
choice_clash-requires-clause-choice c = c.requires.choice
