use Rattle.std.proofs.Common.{◌∙◌}
use Rattle.csn_look.proofs.Tables.RowKeys.{spelled_push, spelled_all}
use Rattle.csn_look.proofs.key_rows.literal_word.Goals as goal

pub loop-at-preserved : goal.loop-at-preserved
loop-at-preserved c = (
  spelled_push c.args.run.now c.args.octet c.loop-at.at c.bit_of_symbol.result c.get.result.now c.loop-at.word
      c.push.new.self c.get.ensures c.bit_of_symbol.ensures c.loop-at.invariant.0 c.push.ensures,
  c.loop-at.invariant.1,
)

pub returns : goal.returns
returns c =
    c.loop-at.invariant.0
    ∙ spelled_all c.args.run.now c.args.octet c.loop-at.at c.if-len-most.size c.loop-at.invariant.1 c.loop-at.auto.at-end c.loop-at-test.false
