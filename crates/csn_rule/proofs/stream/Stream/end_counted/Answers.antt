use Rattle.std.proofs.Common.{◌∙◌, ℕ, List, Option, sym, subst}
use Rattle.csn_desc.specs.Nodes.{DescV}
use Rattle.csn_judge.specs.Blocks.{IsJudged}
use Rattle.csn_judge.specs.Paused.{PausedV}
use Rattle.csn_rule.specs.Streams.{StreamV, ComeBy, HasCome}
use Rattle.csn_rule.proofs.Streams.{ends_behind}
use Rattle.csn_rule.proofs.stream.Stream.end_counted.Goals as goal

pub returns-clause-judged : goal.returns-clause-judged
returns-clause-judged g c =
    let d : DescV = c.self.inside.rule.value in
    let P : StreamV → Type 0 = λ s. (b : List ℕ) → HasCome s b → IsJudged s.desc b c.finish.result in
    subst P c.self.view_is
    (ends_behind d c.self.inside.block c.judge_of.result c.finish.result (c.judge_of.ensures.desc ∙ c.deref.ensures)
    (λ b come. c.judge_of.ensures.judges b
    (subst (λ (x : DescV). ComeBy x c.take.result b) (sym c.deref.ensures)
    (subst (λ (o : Option PausedV). ComeBy d o b) (sym c.take.ensures.value) come)))
    c.finish.ensures.ends)
