use Rattle.std.proofs.Common.{[], ◌∷◌, ◌++◌, length, arith, length-append, ap, refl, ◌∙◌}
use Rattle.std.proofs.lemmas.Result.{err_from_is_err_and}
use Rattle.csn_lines.proofs.ProgressLemmas.{so_far_none, so_far_line, so_far_rest, so_far_halts}
use Rattle.csn_lines.proofs.lines.Lines.take.Goals as goal

pub loop-front-init : goal.loop-front-init
loop-front-init g c = record { so_far = λ line stands. (line, stands, so_far_none _ _ _ _ _ stands.unended, omega arith); work = refl }

pub give-requires-clause-at : goal.give-requires-clause-at
give-requires-clause-at g c =
    let here = c.loop-front.invariant.so_far c.requires.0 c.requires.1 in
    (here.0, here.1, omega (arith, here.3, c.requires.2, ap length c.in-Some.ensures.some.0, length-append c.in-Some.front.now (10 ∷ c.in-Some.back.now)))

pub returns-in_err-give-clause-err : goal.returns-in_err-give-clause-err
returns-in_err-give-clause-err g c =
    let p = err_from_is_err_and c.from_residual.result c.from_residual.ensures.1 in
    rw p.1 (λ line stands. rw c.give.ensures.rest.pending (so_far_halts _ _ _ _ _ _ _ _ _ (c.loop-front.invariant.so_far line stands).2))

pub end_line-requires : goal.end_line-requires
end_line-requires g c =
    let here = c.loop-front.invariant.so_far c.requires.0 c.requires.1 in (
      here.0 ++ c.in-Some.front.now,
      c.in_ok-give.ensures.ok here.0 here.1,
      omega (
        arith,
        here.3,
        c.requires.2,
        ap length c.in-Some.ensures.some.0,
        length-append c.in-Some.front.now
            (10 ∷ c.in-Some.back.now),
        length-append here.0 c.in-Some.front.now,
      ),
    )

pub returns-in_err-end_line-clause-err : goal.returns-in_err-end_line-clause-err
returns-in_err-end_line-clause-err g c =
    let p = err_from_is_err_and c.from_residual-in_err-end_line.result c.from_residual-in_err-end_line.ensures.1 in
    rw p.1 (λ line stands. rw (c.in_err-end_line.ensures.err, c.give.ensures.rest.pending)
    (so_far_halts _ _ _ _ _ _ _ _ _ (c.loop-front.invariant.so_far line stands).2))

pub loop-front-preserved : goal.loop-front-preserved
loop-front-preserved g c =
    let parts = c.in-Some.ensures.some in
    record {
      so_far = λ line stands.
          let here = c.loop-front.invariant.so_far line stands in
          let ended = rw (
            c.give.ensures.rest.work,
            c.give.ensures.rest.kept,
            c.give.ensures.rest.pending,
            c.give.ensures.rest.refused,
            c.loop-front.invariant.work,
          ) at c.in_ok-end_line.ensures.ok
          (here.0 ++ c.in-Some.front.now) (c.in_ok-give.ensures.ok here.0 here.1) in (
            [],
            c.in_ok-end_line.ensures.anew,
            so_far_line _ _ _ _ _ _ _ _ _ _ _ _ _ _ here.2 parts.0 parts.1 ended.1 ended.2,
            omega (arith, here.3, ap length parts.0, length-append c.in-Some.front.now (10 ∷ c.in-Some.back.now)),
          );
      work = c.end_line.ensures.work ∙ c.give.ensures.rest.work ∙ c.loop-front.invariant.work;
    }

pub give-requires-2-clause-at : goal.give-requires-2-clause-at
give-requires-2-clause-at g c =
    let here = c.loop-front.invariant.so_far c.requires.0 c.requires.1 in
    (here.0, here.1, omega (arith, here.3, c.requires.2))

pub returns-in_err-give-2-clause-err : goal.returns-in_err-give-2-clause-err
returns-in_err-give-2-clause-err g c =
    let p = err_from_is_err_and c.from_residual-in_err-give-2.result c.from_residual-in_err-give-2.ensures.1 in
    rw p.1 (λ line stands. rw c.give-2.ensures.rest.pending (so_far_halts _ _ _ _ _ _ _ _ _ (c.loop-front.invariant.so_far line stands).2))

pub returns-clause-ok : goal.returns-clause-ok
returns-clause-ok g c = λ line stands.
    let here = c.loop-front.invariant.so_far line stands in
    let rest = so_far_rest _ _ _ _ _ _ _ _ _ here.2 c.in_default.ensures.none in (
      here.0 ++ c.loop-front.rest.now,
      c.in_ok-give-2.ensures.ok here.0 here.1,
      rest.0,
      rw (c.give-2.ensures.rest.pending, c.give-2.ensures.rest.kept) rest.1,
      rw c.give-2.ensures.rest.refused rest.2,
      omega (arith, here.3, length-append here.0 c.loop-front.rest.now),
    )

pub returns-clause-work : goal.returns-clause-work
returns-clause-work g c = c.give-2.ensures.rest.work ∙ c.loop-front.invariant.work
