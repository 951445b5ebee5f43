use Rattle.std.proofs.Common.{◌∙◌, ℕ, List, [], Option, sym, ap, subst}
use Rattle.csn_judge.specs.Judging.{JudgeV, JudgesFor}
use Rattle.csn_judge.specs.Paused.{PausedV, judge_by}
use Rattle.csn_rule.specs.Streams.{ComeBy, JudgesOn}
use Rattle.csn_rule.proofs.stream.judge_of.Goals as goal

pub returns-in-None-clause-judges : goal.returns-in-None-clause-judges
returns-in-None-clause-judges c = λ b come.
    let P : Option PausedV → Type 0 = λ o. ComeBy c.args.rule.now o b in
    let Q : List ℕ → Type 0 = λ l. JudgesFor c.new.result l [] in
    ([], subst Q (sym (subst P c.in-None.is come)) c.new.ensures.judges)

pub returns-in-Some-clause-judges : goal.returns-in-Some-clause-judges
returns-in-Some-clause-judges c = λ b come.
    let P : Option PausedV → Type 0 = λ o. ComeBy c.args.rule.now o b in
    let Q : JudgeV → Type 0 = λ j. JudgesOn j b in
    subst Q (sym (c.resume.ensures ∙ ap (λ d. judge_by d c.in-Some.paused) c.plan-in-Some.ensures)) (subst P c.in-Some.is come)
