use Rattle.std.proofs.Common.{◌≤◌, ◌+◌, ℕ, subst, sym, arith}
use Rattle.csn_certify.specs.Filling.{AreDeep}
use Rattle.csn_certify.proofs.FillingFacts.{fresh_empty}
use Rattle.csn_certify.proofs.ChooserFacts.{deep_null, deep_more}
use Rattle.csn_certify.proofs.chooser.Chooser.width.Goals.{in-None, in-Some}
use Rattle.csn_certify.proofs.chooser.Chooser.width.Goals as goal

pub loop-j-preserved : goal.loop-j-preserved
loop-j-preserved c =
    let j = c.loop-j.j in
    let d = c.args.self.now.desc.now in
    let parts = c.args.self.now.parts.now in
    let octet = c.args.self.now.octet in
    let P : ℕ → Type 0 = λ width. AreDeep d parts octet (j + 1) width × (width ≤ 12) in
    elim c.match-keys.branch [
      | in-None w ↦ subst P (sym w.width-is) (deep_null d parts octet j c.loop-j.width w.in-None.ensures c.loop-j.invariant.0, c.loop-j.invariant.1)
      | in-Some w ↦
          subst P (sym w.width-is) (
            deep_more d parts octet j c.loop-j.width w.widened-width.result w.widened-width.result w.in-Some.table.now
                w.new.result w.new.ensures w.in-Some.ensures w.widened-width.ensures.deep
                w.widened-width.ensures.wider (omega arith) c.loop-j.invariant.0,
            w.widened-width.ensures.most,
          )
    ]

pub widened-width-requires-clause-fresh : goal.widened-width-requires-clause-fresh
widened-width-requires-clause-fresh c = fresh_empty c.in-Some.table.now c.new.result c.new.ensures
