use Rattle.std.proofs.Common.{refl, arith}
use Rattle.std.proofs.lemmas.Bool.{false_from_ne_true}
use Rattle.csn_replay.proofs.Watching.{stays, stays_on, ends}
use Rattle.csn_replay.proofs.telling.show.Goals as goal

pub returns-in-Stay-clause-showed : goal.returns-in-Stay-clause-showed
returns-in-Stay-clause-showed g c before others here is =
    stays _ c.args.seen.now _ c.args.at c.index_mut.result.now _ before others c.index_mut.ensures.value c.in-Stay.ensures.counted
    (false_from_ne_true _ (λ is_true. stays_on (c.in-Stay.ensures.done.1 is_true))) here (omega (arith, c.requires)) is

pub returns-in-Done-clause-showed : goal.returns-in-Done-clause-showed
returns-in-Done-clause-showed g c before others here is =
    ends _ c.args.seen.now _ _ c.args.at c.index_mut.result.now _ c.remove.result before others c.index_mut.ensures.value c.in-Done.ensures.counted
    (c.in-Done.ensures.done.0 refl) c.remove.ensures.value c.remove.ensures.items here (omega (arith, c.requires)) is
