use Rattle.std.proofs.lemmas.Result.{on_ok_weaker}
use Rattle.csn_lines.proofs.ProgressLemmas.{OnErr-from, pass_all, pass_halts, stop_unpassed}
use Rattle.csn_lines.proofs.lines.Lines.pass_piece.Goals as goal

pub returns-in-Ok-clause-ok : goal.returns-in-Ok-clause-ok
returns-in-Ok-clause-ok g c =
    let took = c.pass_on.ensures.took in
    on_ok_weaker c.pass_on.result (λ none line stands.
    let passed = c.in-Ok.ensures.ok line stands in
    (passed.0, passed.1, pass_all _ _ _ _ _ _ _ _ _ _ _ _ c.requires.pending passed.3 took.2 none took.3 passed.4, passed.5)) took.4

pub returns-in-Ok-clause-err : goal.returns-in-Ok-clause-err
returns-in-Ok-clause-err g c =
    let took = c.pass_on.ensures.took in
    OnErr-from c.pass_on.result (λ line stands.
    let passed = c.in-Ok.ensures.ok line stands in
    pass_halts _ _ _ _ _ _ _ _ _ _ _ c.requires.pending passed.3 took.2 took.3 c.pass_on.ensures.emptied)

pub returns-in-Err-clause-err : goal.returns-in-Err-clause-err
returns-in-Err-clause-err g c = λ line stands. stop_unpassed _ _ _ _ _ c.requires.pending (c.in-Err.ensures.err line stands)
