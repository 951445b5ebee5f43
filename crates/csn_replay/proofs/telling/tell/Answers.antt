use Rattle.std.proofs.Common.{refl, arith, subst, ◌∙◌}
use Rattle.csn_io.specs.Faults.{Rose}
use Rattle.csn_replay.proofs.Puts.{ok_is_no_fault, told_ok, told_fault}
use Rattle.csn_replay.proofs.Rounds.{none_told, stayed, ended, passed_over, all_told}
use Rattle.csn_replay.proofs.telling.tell.Goals as goal
use Rattle.csn_replay.proofs.telling.tell.Goals.{in-Ok, in-WriteFault}

pub loop-at-init : goal.loop-at-init
loop-at-init g c =
    record {
      write_fault = λ is. absurd (ok_is_no_fault is);
      no_fault = λ fine. refl;
      never_falls =
          omega arith;
      steady = λ was. was;
      steady_no_fault = λ was. ok_is_no_fault;
      telling = none_told _ _ _;
    }

pub loop-at-preserved-in-None : goal.loop-at-preserved-in-None
loop-at-preserved-in-None g c =
    record {
      write_fault = c.loop-at.invariant.write_fault;
      no_fault = c.loop-at.invariant.no_fault;
      never_falls = c.loop-at.invariant.never_falls;
      steady = c.loop-at.invariant.steady;
      steady_no_fault = c.loop-at.invariant.steady_no_fault;
      telling = stayed _ _ _ _ _ _ _ _ c.loop-at.invariant.telling c.in-None.ensures.showed;
    }

pub loop-at-preserved : goal.loop-at-preserved
loop-at-preserved g c =
    elim c.match-told.branch [
      | in-Ok w ↦
          let fine = c.loop-at.invariant.no_fault (told_ok w.in-Ok.is) in
          rw (w.out-is, w.told-is) (record {
            write_fault = λ is. subst (λ n. Rose n (g.K.Sink.faults w.report-told.new.out)) fine (w.report-told.ensures.write_fault is);
            no_fault = λ is. w.report-told.ensures.outside.2 is ∙ fine;
            never_falls = omega (arith, fine, w.report-told.ensures.outside.0);
            steady = λ was. (w.report-told.ensures.outside.1 (c.loop-at.invariant.steady was)).0;
            steady_no_fault = λ was. w.report-told.ensures.steady_no_fault (c.loop-at.invariant.steady was);
            telling = ended _ _ _ _ _ _ _ _ _ _ _ w.in-Ok.is c.loop-at.invariant.telling c.in-Some.ensures.showed w.report-told.ensures.wrote;
          })
      | in-WriteFault w ↦
          rw (w.out-is, w.told-is) (record {
            write_fault = c.loop-at.invariant.write_fault;
            no_fault = c.loop-at.invariant.no_fault;
            never_falls = c.loop-at.invariant.never_falls;
            steady = c.loop-at.invariant.steady;
            steady_no_fault = c.loop-at.invariant.steady_no_fault;
            telling = passed_over _ _ _ _ _ _ _ _ _ (told_fault w.in-WriteFault.is) c.loop-at.invariant.telling c.in-Some.ensures.showed;
          })
    ]

pub returns-clause-watchers : goal.returns-clause-watchers
returns-clause-watchers g c = (all_told _ _ _ _ _ _ _ _ (omega (arith, c.loop-at-test.false, c.len.ensures)) c.loop-at.invariant.telling).0

pub returns-clause-wrote : goal.returns-clause-wrote
returns-clause-wrote g c = (all_told _ _ _ _ _ _ _ _ (omega (arith, c.loop-at-test.false, c.len.ensures)) c.loop-at.invariant.telling).1

pub show-requires : goal.show-requires
show-requires g c = omega (arith, c.loop-at-test.true, c.len.ensures)

pub returns-clause-write_fault : goal.returns-clause-write_fault
returns-clause-write_fault g c = c.loop-at.invariant.write_fault

pub returns-clause-steady_no_fault : goal.returns-clause-steady_no_fault
returns-clause-steady_no_fault g c = c.loop-at.invariant.steady_no_fault

pub returns-clause-outside : goal.returns-clause-outside
returns-clause-outside g c =
    let kept = c.loop-at.invariant in (
      kept.never_falls,
      (λ was. (kept.steady was, kept.no_fault (kept.steady_no_fault was))),
      kept.no_fault,
    )
