use Rattle.std.proofs.Common.{◌<◌, length, drop, arith, length-drop}
use Rattle.csn_judge.proofs.SpellingFacts.{run-more, small-more}
use Rattle.csn_judge.proofs.spelling.spelled.Goals as goal

pub loop-k-preserved : goal.loop-k-preserved
loop-k-preserved c =
    let few : c.bit.result < 2 = omega (arith, c.bit.ensures.bit) in
    let within : c.loop-k.k < length (drop c.args.at c.args.run.now) =
    omega (arith, length-drop c.args.at c.args.run.now, c.requires.within, c.loop-k-test.true) in (
      run-more c.args.run.now c.args.at c.loop-k.k c.args.place c.loop-k.number c.bit.result c.get.result.now
          c.get.ensures within c.bit.ensures.value c.bit.ensures.bit c.loop-k.invariant.0,
      small-more c.loop-k.k c.loop-k.number c.bit.result few c.loop-k.invariant.1,
    )
