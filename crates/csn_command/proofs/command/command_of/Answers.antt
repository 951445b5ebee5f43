use Rattle.std.proofs.Common.{[], ◌∷◌, ◌∙◌, refl, sym, true≢false}
use Rattle.csn_catalogue.specs.declared.entry.Entry.TheVariants.{Downlink}
use Rattle.csn_catalogue.specs.Entries.{all_entries}
use Rattle.csn_desc.specs.declared.reading.Reading.TheVariants.{Sent}
use Rattle.csn_command.specs.Command.{rule_row, entries_row, migrate_row, compat_row, verify_row, over_downlink, over_all, over_soaked}
use Rattle.csn_command.proofs.command.command_of.Goals as goal

pub returns-in-Some-clause-row : goal.returns-in-Some-clause-row
returns-in-Some-clause-row g c = (λ _. entries_row (Downlink ∷ []) c.in-Some.reading (over_downlink c.in-Some.ensures.names refl), λ _. refl)

pub returns-in-Some-reading_words-clause-row : goal.returns-in-Some-reading_words-clause-row
returns-in-Some-reading_words-clause-row g c = (
  λ _. entries_row all_entries c.in-Some-reading_words.reading
      (over_all c.in-Some-reading_words.ensures.names refl),
  λ _. refl,
)

pub returns-in-Some-soak_words-clause-row : goal.returns-in-Some-soak_words-clause-row
returns-in-Some-soak_words-clause-row g c = (
  λ _. entries_row (c.in-Some-soak_words.entry ∷ []) Sent
      (over_soaked c.in-Some-soak_words.entry c.in-Some-soak_words.blocks c.in-Some-soak_words.ensures.names refl refl),
  λ _. refl,
)

pub returns-in-Some-pair_words-clause-row : goal.returns-in-Some-pair_words-clause-row
returns-in-Some-pair_words-clause-row g c = (λ _. compat_row _ _ _ _ c.in-Some-pair_words.ensures.names, λ _. refl)

pub returns-in-Some-verify_words-clause-row : goal.returns-in-Some-verify_words-clause-row
returns-in-Some-verify_words-clause-row g c = (λ _. verify_row _ _ _ _ c.in-Some-verify_words.ensures.names, λ _. refl)

pub returns-then-is_migrate-clause-row : goal.returns-then-is_migrate-clause-row
returns-then-is_migrate-clause-row g c = (λ _. migrate_row (c.is_migrate.ensures.0 c.if-is_migrate.true), λ _. refl)

pub returns-then-is_migrate-clause-names : goal.returns-then-is_migrate-clause-names
returns-then-is_migrate-clause-names g c = c.is_migrate.ensures.0 c.if-is_migrate.true

pub returns-clause-row : goal.returns-clause-row
returns-clause-row g c = (
  c.rule_command.ensures.row,
  λ row. elim row [
    | rule_row file name reading over ↦ c.rule_command.ensures.none file name reading over
    | entries_row entries reading over ↦ elim over [
      | over_downlink row is ↦ absurd (true≢false (sym (c.in_default.ensures.none reading row)))
      | over_soaked entry n row is sent ↦ absurd (true≢false (sym (c.in_default-soak_words.ensures.none entry n row)))
      | over_all row is ↦ absurd (true≢false (sym (c.in_default-reading_words.ensures.none reading row)))
    ]
    | migrate_row row ↦ absurd (true≢false (sym (c.is_migrate.ensures.1 row) ∙ c.if-is_migrate.false))
    | compat_row before after name reading row ↦ absurd (true≢false (sym (c.in_default-pair_words.ensures.none before after name reading row)))
    | verify_row file name reading certificate row ↦ absurd (true≢false (sym (c.in_default-verify_words.ensures.none file name reading certificate row)))
  ],
)

pub returns-clause-names : goal.returns-clause-names
returns-clause-names g c = c.rule_command.ensures.names

pub returns-in-Some-clause-names : goal.returns-in-Some-clause-names
returns-in-Some-clause-names g c = c.in-Some.ensures.names

pub returns-in-Some-reading_words-clause-names : goal.returns-in-Some-reading_words-clause-names
returns-in-Some-reading_words-clause-names g c = c.in-Some-reading_words.ensures.names

pub returns-in-Some-soak_words-clause-names : goal.returns-in-Some-soak_words-clause-names
returns-in-Some-soak_words-clause-names g c = c.in-Some-soak_words.ensures.names

pub returns-in-Some-pair_words-clause-names : goal.returns-in-Some-pair_words-clause-names
returns-in-Some-pair_words-clause-names g c = c.in-Some-pair_words.ensures.names

pub returns-in-Some-verify_words-clause-names : goal.returns-in-Some-verify_words-clause-names
returns-in-Some-verify_words-clause-names g c = c.in-Some-verify_words.ensures.names
