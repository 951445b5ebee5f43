use Rattle.std.proofs.Common.{◌≡◌, ◌+◌, [], suc, sym, ap, ◌∙◌, subst, arith, length, slice_index_or}
use Rattle.csn_certmake.specs.Patterns.{patterns_at}
use Rattle.csn_certmake.specs.Near.{HaveTogether}
use Rattle.csn_certmake.proofs.Rows.{row_read}
use Rattle.csn_certmake.proofs.NearParts.{together_next, twelve_together}
use Rattle.csn_certmake.proofs.near.near_parts.Goals as goal

pub least_of_row-marks-requires : goal.least_of_row-marks-requires
least_of_row-marks-requires c =
    let i = c.get.result in
    let is : slice_index_or c.args.rows.now i [] ≡ c.index-rows-get.result =
    row_read c.args.rows.now i c.index-rows-get.result (c.requires.there c.loop-at.at i c.get.ensures)
    c.index-rows-get.is in
    sym (ap length is) ∙ (c.requires.rows c.loop-at.at i c.get.ensures).eight

pub loop-at-preserved : goal.loop-at-preserved
loop-at-preserved c =
    let i = c.get.result in
    let is : slice_index_or c.args.rows.now i [] ≡ c.index-rows-get.result =
    row_read c.args.rows.now i c.index-rows-get.result (c.requires.there c.loop-at.at i c.get.ensures)
    c.index-rows-get.is in
    let next : suc c.loop-at.at ≡ c.loop-at.at + 1 = omega arith in
    subst (λ n. HaveTogether (patterns_at c.args.rows.now) c.args.parts.now n (c.loop-at.marks + c.least_of_row-marks.result)) next
    (together_next c.args.rows.now c.args.parts.now c.loop-at.at i c.least_of_row-marks.result c.loop-at.marks c.index-rows-get.result
    c.get.ensures is c.least_of_row-marks.ensures.least c.loop-at.invariant)

pub returns-then-marks-clause-marks : goal.returns-then-marks-clause-marks
returns-then-marks-clause-marks c = λ more.
    twelve_together (patterns_at c.args.rows.now) c.args.parts.now c.loop-at.at c.loop-at.marks (omega (arith, c.if-marks.true)) c.loop-at.invariant
