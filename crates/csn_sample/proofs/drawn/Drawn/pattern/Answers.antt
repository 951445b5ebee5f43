use Rattle.std.proofs.Common.{length, arith}
use Rattle.std.specs.Prelude.{replicate}
use Rattle.std.proofs.lemmas.List.{length-replicate}
use Rattle.csn_desc.specs.declared.symbol.Symbol.TheVariants.{Low}
use Rattle.csn_desc.specs.Spelled.{spelled}
use Rattle.csn_desc.proofs.BitFacts.{length-spelled}
use Rattle.csn_sample.proofs.Draws.{pattern-next, pattern_is_spare}
use Rattle.csn_sample.proofs.drawn.Drawn.pattern.Goals as goal

pub loop-preserved : goal.loop-preserved
loop-preserved c =
    pattern-next Low c.args.self.now.bits.items c.loop.self.bits.items c.push.new.self.bits.items c.loop.counter
    c.bit_of.result c.loop.invariant c.bit_of.ensures.value c.in_ok-push.ensures.added

pub returns : goal.returns
returns c = (
  spelled (replicate c.loop.counter Low) (length c.args.self.now.bits.items),
  c.loop.invariant,
  (let spells = length-spelled (replicate c.loop.counter Low) (length c.args.self.now.bits.items) in
      let many = length-replicate c.loop.counter Low in omega (arith, spells, many, c.loop-test.false)),
  λ reading. pattern_is_spare reading Low (length c.args.self.now.bits.items) c.loop.counter,
)
