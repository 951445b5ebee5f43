use Rattle.std.proofs.Common.{◌≡◌, List, ℕ, [], take, ap, sym, subst, arith, ◌∙◌}
use Rattle.std.proofs.lemmas.List.{take-take}
use Rattle.csn_judge.specs.Judging.{JudgeV, JudgesFor, opened}
use Rattle.csn_judge.specs.declared.fed.Fed.{Fed}
use Rattle.csn_judge.specs.declared.fed.Fed.TheVariants.{Going}
use Rattle.csn_movetext.specs.Openings.{OpeningsV}
use Rattle.csn_movetext.specs.Track.{TrackV}
use Rattle.csn_movetext.specs.Blocks.{BlockV, stands, nothing, WritesFor}
use Rattle.csn_movetext.proofs.BlockFacts.{writes_none}
use Rattle.csn_movetext.proofs.block.BlockText.restart.Goals as goal

pub returns-clause-writes : goal.returns-clause-writes
returns-clause-writes c =
    let j : JudgeV = c.self.inside.judge in
    let openings : OpeningsV = c.self.inside.track.openings in
    let text : List ℕ = c.self.inside.track.kept.text in
    let start : ℕ = c.self.inside.start in
    let front : List ℕ = take start text in
    let answer : c.self.inside.answer ≡ Going = ap (λ (b : BlockV). b.answer) c.self.view_is ∙ c.requires.answer in
    let J : BlockV → Type 0 = λ b. JudgesFor b.judge [] [] in
    let judges : JudgesFor j [] [] = subst J (sym c.self.view_is) c.requires.judges in
    let none : opened j ≡ [] = ap (λ (b : BlockV). opened b.judge) c.self.view_is ∙ c.requires.opened in
    let still : take start front ≡ front = take-take start start text (omega arith) in
    let T : TrackV → Type 0 = λ t. WritesFor (stands j t c.self.inside.answer (take start t.kept.text)) [] in
    let A : Fed → Type 0 = λ a. WritesFor (stands j (nothing openings front) a (take start front)) [] in
    let F : List ℕ → Type 0 = λ f. WritesFor (stands j (nothing openings front) Going f) [] in
    subst T (sym c.restart.ensures) (subst A (sym answer) (subst F (sym still) (writes_none j openings front judges none)))
