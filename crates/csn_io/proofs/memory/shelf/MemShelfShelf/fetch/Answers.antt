use Rattle.std.proofs.Common.{ap, sym, ◌∙◌}
use Rattle.std.specs.Option.{option_copied, option_map}
use Rattle.csn_io.proofs.Planned.{held_there, never_due, fails_due}
use Rattle.csn_io.proofs.memory.shelf.MemShelfShelf.fetch.Goals as goal

pub returns-in_default-clause-missing : goal.returns-in_default-clause-missing
returns-in_default-clause-missing c =
    ap (option_map (λ file. file.items)) (sym c.get.ensures.value ∙ ap option_copied c.in_default.is)

pub returns-in_default-clause-gives : goal.returns-in_default-clause-gives
returns-in_default-clause-gives c =
    record { held = tt; due = tt; in_range = tt; not_due = tt; at_most = tt; counted = c.next_fails-fails.ensures.counted }

pub returns-then-fails-clause-failed_not_missing : goal.returns-then-fails-clause-failed_not_missing
returns-then-fails-clause-failed_not_missing c = held_there (λ file. file.items) _ _ (sym c.get.ensures.value ∙ ap option_copied c.in-Some.is)

pub returns-then-fails-clause-steady_count : goal.returns-then-fails-clause-steady_count
returns-then-fails-clause-steady_count c = λ none. absurd (never_due _ _ (c.next_fails-fails.ensures.due.0 c.if-fails.true) none)

pub returns-then-fails-clause-steady_not_failed : goal.returns-then-fails-clause-steady_not_failed
returns-then-fails-clause-steady_not_failed c = λ none. never_due _ _ (c.next_fails-fails.ensures.due.0 c.if-fails.true) none

pub returns-then-fails-clause-gives : goal.returns-then-fails-clause-gives
returns-then-fails-clause-gives c =
    fails_due _ _ _ _ (held_there (λ file. file.items) _ _ (sym c.get.ensures.value ∙ ap option_copied c.in-Some.is)) c.next_fails-fails.ensures.counted
    (c.next_fails-fails.ensures.due.0 c.if-fails.true) (c.next_fails-fails.ensures.in_range c.if-fails.true)
