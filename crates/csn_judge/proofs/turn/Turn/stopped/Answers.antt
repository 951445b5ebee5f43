use Rattle.csn_judge.proofs.Clashes.{true_and_false}
use Rattle.csn_judge.proofs.SourceFacts.{first_bit}
use Rattle.csn_judge.proofs.turn.Turn.stopped.Goals as goal

pub returns-else-is_empty : goal.returns-else-is_empty
returns-else-is_empty c =
    let some = first_bit c.args.source.now.bits (λ none. true_and_false (c.is_empty.ensures.1 none) c.if-is_empty.false) in
    (some.0, some.1, some.2, c.place-place.ensures.place, c.place-place.ensures.inside)
