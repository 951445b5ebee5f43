use Rattle.std.proofs.Common.{◌≡◌, ◌-◌, [], suc, sym, ap, ◌∙◌, subst, arith, length, slice_index_or}
use Rattle.csn_certmake.specs.Patterns.{patterns_at}
use Rattle.csn_certmake.specs.Near.{IsFar}
use Rattle.csn_certmake.proofs.Rows.{row_read}
use Rattle.csn_certmake.proofs.NearParts.{far_first, far_next}
use Rattle.csn_certmake.proofs.pattern_table.far.Goals as goal

pub loop-at-init : goal.loop-at-init
loop-at-init c = (
  omega (arith, c.requires.within, c.len-at.ensures.len),
  far_first (patterns_at c.args.rows.now) c.args.parts.now c.len-at.result c.in_ok-row.row c.len-at.ensures.len c.in_ok-row.ensures,
)

pub before-requires-clause-part : goal.before-requires-clause-part
before-requires-clause-part c =
    let i = c.get.result in
    let is : slice_index_or c.args.rows.now i [] ≡ c.index-rows-get.result =
    row_read c.args.rows.now i c.index-rows-get.result (c.requires.rows.there (c.loop-at.at - 1) i c.get.ensures)
    c.index-rows-get.is in
    sym (ap length is) ∙ (c.requires.rows.rows (c.loop-at.at - 1) i c.get.ensures).eight

pub loop-at-preserved : goal.loop-at-preserved
loop-at-preserved c =
    let i = c.get.result in
    let is : slice_index_or c.args.rows.now i [] ≡ c.index-rows-get.result =
    row_read c.args.rows.now i c.index-rows-get.result (c.requires.rows.there (c.loop-at.at - 1) i c.get.ensures)
    c.index-rows-get.is in
    let next : c.loop-at.at ≡ suc (c.loop-at.at - 1) = omega (arith, c.loop-at-test.true) in (
      omega (arith, c.loop-at-test.true),
      far_next c.args.rows.now c.args.parts.now (c.loop-at.at - 1) c.loop-at.at i c.loop-at.row c.in_ok-next.next
          c.index-rows-get.result next c.get.ensures is c.in_ok-next.ensures c.in_ok-row-2.row c.in_ok-row-2.ensures c.loop-at.invariant.1,
    )

pub returns : goal.returns
returns c =
    let all : c.loop-at.at ≡ c.args.from = omega (arith, c.loop-at-test.false, c.loop-at.invariant.0) in
    subst (λ n. IsFar (patterns_at c.args.rows.now) c.args.parts.now n c.loop-at.row) all c.loop-at.invariant.1
