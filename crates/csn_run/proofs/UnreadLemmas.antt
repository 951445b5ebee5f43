-- A run that comes to no job: its words are no row of the command table, or there was no memory to read them.
use Rattle.std.proofs.Common.{◌≡◌, ◌≢◌, ◌↔◌, ◌⊎◌, inl, inr, ℕ, List, sym, ◌∙◌, subst}
use Rattle.csn_plan.specs.declared.ended.Ended.{Ended}
use Rattle.csn_plan.specs.declared.ended.Ended.TheVariants.{Done, SomeRefused, Usage, NoMemory}
use Rattle.csn_command.specs.Command.{IsCommand}
use Rattle.csn_run.specs.Job.{EndsUnread, ends_usage, ends_wanting}
use Rattle.csn_run.specs.Result.{IsFinished}

-- the ends of such a run
abbrev pub IsUnread : Ended → Type 0
IsUnread Usage = Unit {0}
IsUnread NoMemory = Unit {0}
IsUnread ended = ⊥

pub unread_as : {words : List (List ℕ)} {ended end : Ended} → EndsUnread words ended → ended ≡ end → IsUnread end
unread_as (ends_usage is none) e = subst IsUnread (sym is ∙ e) tt
unread_as (ends_wanting is row) e = subst IsUnread (sym is ∙ e) tt

pub unread_answered : {words : List (List ℕ)} {ended : Ended} → EndsUnread words ended → (ended ≡ Done) ⊎ (ended ≡ SomeRefused) → ⊥
unread_answered unread (inl e) = unread_as unread e
unread_answered unread (inr e) = unread_as unread e

pub unread_finished : {words : List (List ℕ)} {ended : Ended} → EndsUnread words ended → IsFinished ended → ⊥
unread_finished (ends_usage is none) finished = subst IsFinished is finished
unread_finished (ends_wanting is row) finished = subst IsFinished is finished

-- which of the two it is
pub unread_usage : {words : List (List ℕ)} {ended : Ended} → EndsUnread words ended → (ended ≡ Usage) ↔ (IsCommand words → ⊥)
unread_usage (ends_usage is none) = (λ e. none, λ never. is)
unread_usage (ends_wanting is row) = ((λ e. absurd (cc)), (λ never. absurd (never row)))

pub unread_row : {words : List (List ℕ)} {ended : Ended} → EndsUnread words ended → ended ≢ Usage → IsCommand words
unread_row (ends_usage is none) used = absurd (used is)
unread_row (ends_wanting is row) used = row

pub unread_wanting : {words : List (List ℕ)} {ended : Ended} → EndsUnread words ended → IsCommand words → ended ≡ NoMemory
unread_wanting (ends_usage is none) row = absurd (none row)
unread_wanting (ends_wanting is row') row = is
