use Rattle.std.proofs.Common.{ℕ, List, Err, OnOk, IfErr, sym, ◌∙◌, subst}
use Rattle.std.specs.Prelude.{Result}
use Rattle.csn_movetext.specs.declared.fault.BlockFault.{BlockFault}
use Rattle.csn_movetext.specs.Blocks.{WritesFor, AddsText, Ends}
use Rattle.csn_movetext.proofs.BlockFacts.{text_added, text_wanting}
use Rattle.csn_movetext.proofs.block.BlockText.next_block.Goals as goal
use Rattle.csn_movetext.proofs.block.BlockText.next_block.Goals.{in-Ok, in-Err}

pub returns-clause-text : goal.returns-clause-text
returns-clause-text g c =
    let R : Result (Unit {0}) BlockFault → List ℕ → Type 0 =
    λ r out. OnOk r ((b : List ℕ) → WritesFor c.args.self.now b → AddsText c.args.self.now.form c.args.self.now.desc b c.args.out.now.items out) in
    elim c.match-end.branch [
      | in-Ok w ↦
          subst (λ r. R r c.match-end.out.items) (sym w.ended-is)
          (subst (λ o. R w.add_to-ended.result o.items) (sym w.out-is)
          (text_added c.args.self.now c.end.new.self.track.kept.text c.end.new.self.before c.args.out.now.items
          w.add_to-ended.new.out.items w.add_to-ended.result
          c.end.ensures.before w.in-Ok.ensures.text w.add_to-ended.ensures.added))
      | in-Err w ↦ subst (λ r. R r c.match-end.out.items) (sym w.ended-is) tt
    ]

pub returns-clause-why : goal.returns-clause-why
returns-clause-why g c =
    let R : Result (Unit {0}) BlockFault → Type 0 = λ r. IfErr r (λ why. Ends c.args.self.now (Err why)) in
    elim c.match-end.branch [
      | in-Ok w ↦
          subst R (sym w.ended-is)
          (text_wanting c.strings_are_followed.ensures c.args.self.now c.end.new.self.track.kept.text
          w.add_to-ended.result w.in-Ok.ensures.text w.add_to-ended.ensures.why)
      | in-Err w ↦ subst R (sym w.ended-is) w.in-Err.ensures.why
    ]

pub returns-clause-answer : goal.returns-clause-answer
returns-clause-answer g c = c.restart.ensures.answer

pub returns-clause-writes : goal.returns-clause-writes
returns-clause-writes g c = c.restart.ensures.writes

pub returns-clause-form : goal.returns-clause-form
returns-clause-form g c = c.restart.ensures.form ∙ c.end.ensures.form

pub returns-clause-desc : goal.returns-clause-desc
returns-clause-desc g c = c.restart.ensures.desc ∙ c.end.ensures.desc

pub returns-clause-before : goal.returns-clause-before
returns-clause-before g c = c.restart.ensures.before ∙ c.end.ensures.before

pub returns-clause-seen : goal.returns-clause-seen
returns-clause-seen g c = c.restart.ensures.seen ∙ c.end.ensures.seen
