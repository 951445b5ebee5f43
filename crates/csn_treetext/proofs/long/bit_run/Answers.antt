use Rattle.std.proofs.Common.{◌+◌, sym, subst, arith, inl, inr}
use Rattle.csn_treetext.specs.declared.version.Version.TheVariants.{First}
use Rattle.csn_treetext.specs.reader.Mode.{Bare}
use Rattle.csn_treetext.specs.reader.Machine.{state}
use Rattle.csn_treetext.specs.reader.Reading.{Comes}
use Rattle.csn_treetext.proofs.StopFacts.{bit_more}
use Rattle.csn_treetext.proofs.long.bit_run.Goals as goal

pub loop-bit-preserved : goal.loop-bit-preserved
loop-bit-preserved c =
    let (begins, within, comes) = c.loop-bit.invariant in
    let (low, is, small) = c.in-Some.ensures.some in (
      omega arith,
      omega arith,
      λ stack e.
          subst (λ l. Comes First c.args.text.now (c.loop-bit.end + 1) (state (Bare l) stack)) (sym c.in_ok-push_bit-in-Some.ensures)
          (bit_more c.args.text.now c.loop-bit.end c.loop-bit.bits c.in-Some.bit stack (comes stack e) low is small
          (omega (arith, c.loop-bit-test.true, c.len.ensures.count))),
    )

pub returns-in-None : goal.returns-in-None
returns-in-None c = record {
  comes = c.loop-bit.invariant.2;
  stops = inr c.in-None.ensures.none;
  from =
      c.loop-bit.invariant.0;
  within = c.loop-bit.invariant.1;
}

pub returns : goal.returns
returns c = record {
  comes = c.loop-bit.invariant.2;
  stops = inl (omega (arith, c.loop-bit-test.false, c.len.ensures.count, c.len.ensures.within));
  from = c.loop-bit.invariant.0;
  within = c.loop-bit.invariant.1;
}
