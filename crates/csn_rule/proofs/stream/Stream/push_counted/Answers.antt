use Rattle.std.proofs.Common.{◌∙◌, ◌++◌, ℕ, List, Option, sym, subst}
use Rattle.csn_desc.specs.Nodes.{DescV}
use Rattle.csn_fields.specs.Follower.{Says}
use Rattle.csn_judge.specs.Paused.{PausedV, judge_by}
use Rattle.csn_rule.specs.Blocks.{block_in}
use Rattle.csn_rule.specs.Streams.{StreamV, ComeBy, HasCome, JudgesOn}
use Rattle.csn_rule.proofs.Streams.{says_behind, comes_behind}
use Rattle.csn_rule.proofs.stream.Stream.push_counted.Goals as goal

pub returns-clause-comes : goal.returns-clause-comes
returns-clause-comes g c =
    let d : DescV = c.self.inside.rule.value in let piece = block_in c.args.octets.now c.args.bits in
    let P : StreamV → Type 0 = λ s. (b : List ℕ) → HasCome s b → JudgesOn (judge_by d c.pause.result) (b ++ piece) in
    subst P c.self.view_is
    (comes_behind d c.self.inside.block c.pause.result c.judge_of-judge.result c.feed-verdict.new.self piece c.feed-verdict.result
    (c.judge_of-judge.ensures.desc ∙ c.deref.ensures) c.feed-verdict.ensures.desc c.pause.ensures.judge
    (λ b come. c.judge_of-judge.ensures.judges b
    (subst (λ (x : DescV). ComeBy x c.take.result b) (sym c.deref.ensures)
    (subst (λ (o : Option PausedV). ComeBy d o b) (sym c.take.ensures.value) come)))
    c.feed-verdict.ensures.judges c.feed-verdict.ensures.refused)

pub returns-clause-says : goal.returns-clause-says
returns-clause-says g c =
    let d : DescV = c.self.inside.rule.value in let piece = block_in c.args.octets.now c.args.bits in
    let P : StreamV → Type 0 = λ s. (b : List ℕ) → HasCome s b → Says s.desc (b ++ piece) c.feed-verdict.result in
    subst P c.self.view_is
    (says_behind d c.self.inside.block c.judge_of-judge.result c.feed-verdict.new.self piece c.feed-verdict.result
    (c.judge_of-judge.ensures.desc ∙ c.deref.ensures)
    (λ b come. c.judge_of-judge.ensures.judges b
    (subst (λ (x : DescV). ComeBy x c.take.result b) (sym c.deref.ensures)
    (subst (λ (o : Option PausedV). ComeBy d o b) (sym c.take.ensures.value) come)))
    c.feed-verdict.ensures.judges)
