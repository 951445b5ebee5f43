use Rattle.std.proofs.Common.{arith, refl, ◌∙◌, ap, length, length-drop}
use Rattle.csn_replay.specs.declared.told.Told.TheVariants.{Ok, WriteFault}
use Rattle.csn_replay.proofs.Puts.{broke_off, took_all, took_more, within_more, slice_from, kept_on, leaves_on, leaves_still}
use Rattle.csn_replay.proofs.Puts.{ok_is_no_fault, memory_is_no_fault, fault_is_not_ok, memory_is_not_ok}
use Rattle.csn_replay.proofs.Puts.{took_has_not_failed, full_has_not_failed}
use Rattle.csn_replay.proofs.output.put_all.Goals as goal

pub loop-passed-preserved : goal.loop-passed-preserved
loop-passed-preserved g c =
    let p = c.loop-passed.passed in
    let n = c.in-Took.n in
    let text = c.args.text.now in
    record {
      within = within_more p n text c.loop-passed.invariant.within c.in-Took.ensures.within;
      took = took_more (g.K.Sink.taken c.args.out.now) (g.K.Sink.taken c.loop-passed.out)
          (g.K.Sink.taken c.put.new.self) p n text c.loop-passed.invariant.within c.loop-passed.invariant.took
          c.in-Took.ensures.appended;
      no_fault = c.in-Took.ensures.outside.2 took_has_not_failed ∙ c.loop-passed.invariant.no_fault;
      steady = λ was. (c.in-Took.ensures.outside.1 (c.loop-passed.invariant.steady was)).0;
    }

pub put-requires : goal.put-requires
put-requires g c = record {
  some = omega (arith, ap length (slice_from c.loop-passed.passed c.args.text.now), length-drop c.loop-passed.passed c.args.text.now, c.loop-passed-test.true);
  unfailed = c.loop-passed.invariant.no_fault ∙ c.requires.unfailed;
}

pub loop-passed-smaller : goal.loop-passed-smaller
loop-passed-smaller g c = omega (arith, c.in-Took.ensures.at_least_one, c.loop-passed-test.true)

pub returns-in-Failed : goal.returns-in-Failed
returns-in-Failed g c =
    let at = c.loop-passed.invariant in
    let left = leaves_on WriteFault at.no_fault at.steady (λ is. c.in-Failed.ensures.failed)
    c.in-Failed.ensures.outside (λ is. refl) (λ was is. c.in-Failed.ensures.steady_not_failed was) in
    record {
      wrote = broke_off _ _ _ _ _ _ fault_is_not_ok c.in-Failed.ensures.taken_stays at.took;
      write_fault =
          left.write_fault;
      outside = left.outside;
      steady_no_fault = left.steady_no_fault;
    }

pub returns-in-NoMemory : goal.returns-in-NoMemory
returns-in-NoMemory g c = record {
  wrote = broke_off _ _ _ _ _ _ memory_is_not_ok c.in-NoMemory.ensures.taken_stays c.loop-passed.invariant.took;
  write_fault = λ is. absurd (memory_is_no_fault is);
  outside = kept_on c.loop-passed.invariant.no_fault c.loop-passed.invariant.steady c.in-NoMemory.ensures.outside (λ is. absurd (full_has_not_failed is));
  steady_no_fault = λ was. memory_is_no_fault;
}

pub returns : goal.returns
returns g c =
    let left = leaves_still Ok ok_is_no_fault c.loop-passed.invariant.no_fault c.loop-passed.invariant.steady in
    record {
      wrote = took_all _ _ _ _ (omega (arith, c.loop-passed-test.false)) c.loop-passed.invariant.took;
      write_fault = left.write_fault;
      outside = left.outside;
      steady_no_fault = left.steady_no_fault;
    }
