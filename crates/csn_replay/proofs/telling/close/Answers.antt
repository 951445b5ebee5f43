use Rattle.std.proofs.Common.{◌≡◌, vec_len, length, refl, sym, ap, ◌∙◌, arith, rules}
use Rattle.std.proofs.lemmas.List.{nil_from_length}
use Rattle.csn_replay.proofs.Rounds.{none_reported_of, one_reported_of, broke_off_of, all_reported_of}
use Rattle.csn_replay.specs.declared.told.Told.TheVariants.{Ok}
use Rattle.csn_replay.proofs.Puts.{leaves_on, leaves_still, ok_is_no_fault}
use Rattle.csn_replay.proofs.telling.close.Goals as goal

pub loop-watcher-init : goal.loop-watcher-init
loop-watcher-init g c =
    let all : vec_len c.args.watchers ≡ length c.args.watchers.items = omega arith in
    record {
      can_next = search rules;
      is_finite = search rules;
      len = c.into_iter-watcher-iterator.ensures.into_iter_gives.1 ∙ all ∙ ap length (sym c.into_iter-watcher-iterator.ensures.into_iter_gives.0);
      no_fault = refl;
      steady = λ was. was;
      reporting = none_reported_of _ _ _ _ c.into_iter-watcher-iterator.ensures.into_iter_gives.0;
    }

pub loop-watcher-preserved : goal.loop-watcher-preserved
loop-watcher-preserved g c =
    record {
      can_next = search rules;
      is_finite = search rules;
      len = omega (arith, ap length c.in-Some.ensures.steps.0, c.in-Some.ensures.steps.1, c.loop-watcher.invariant.len);
      no_fault = c.in-Ok.ensures.outside.2 ok_is_no_fault ∙ c.loop-watcher.invariant.no_fault;
      steady = λ was. (c.in-Ok.ensures.outside.1 (c.loop-watcher.invariant.steady was)).0;
      reporting = one_reported_of _ _ _ _ _ _ _ _ c.in-Some.ensures.steps.0 c.loop-watcher.invariant.reporting c.in-Ok.ensures.wrote;
    }

pub returns-in_default : goal.returns-in_default
returns-in_default g c =
    let left = leaves_on c.report.result c.loop-watcher.invariant.no_fault c.loop-watcher.invariant.steady
    c.report.ensures.write_fault c.report.ensures.outside (λ is. is) c.report.ensures.steady_no_fault in
    record {
      wrote = broke_off_of _ _ _ _ _ _ _ _ _ c.in_default.not-Ok c.in-Some.ensures.steps.0 c.loop-watcher.invariant.reporting c.report.ensures.wrote;
      write_fault = left.write_fault;
      outside = left.outside;
      steady_no_fault = left.steady_no_fault;
    }

pub returns : goal.returns
returns g c =
    let left = leaves_still Ok ok_is_no_fault c.loop-watcher.invariant.no_fault c.loop-watcher.invariant.steady in
    let end = nil_from_length _ (sym c.loop-watcher.invariant.len ∙ c.in-None.ensures.steps.0) in
    record {
      wrote = all_reported_of _ _ _ _ _ end c.loop-watcher.invariant.reporting;
      write_fault =
          left.write_fault;
      outside = left.outside;
      steady_no_fault = left.steady_no_fault;
    }
