use Rattle.std.proofs.Common.{refl, sym, ◌∙◌, arith}
use Rattle.std.proofs.lemmas.List.{take_more_set, length-set}
use Rattle.csn_bits.proofs.DigitValues.{read_more}
use Rattle.csn_bits.proofs.digit.decode_pairs.Goals as goal

pub loop-at-init : goal.loop-at-init
loop-at-init c = (refl, (tt, refl))

pub loop-at-preserved : goal.loop-at-preserved
loop-at-preserved c =
    let there = c.loop-at-test.true in (
      length-set c.loop-at.room c.loop-at.at c.in-Some.octet ∙ c.loop-at.invariant.0,
      read_more c.args.bytes.now c.loop-at.room _ c.loop-at.at c.in-Some.octet _ _ (omega (arith, there)) refl refl c.in-Some.ensures.0 c.in-Some.ensures.1
          (take_more_set c.loop-at.room c.loop-at.at c.in-Some.octet (omega (arith, there, c.loop-at.invariant.0, c.requires))) c.loop-at.invariant.1,
    )
