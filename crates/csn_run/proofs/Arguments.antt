-- The words of each row of the command table can be arguments.
use Rattle.std.proofs.Common.{◌<◌, inl, inr, ℕ, List, [], ◌∷◌, length, get_or, arith, sym, subst}
use Rattle.std.specs.List.{AllByRecursion}
use Rattle.std.proofs.lemmas.Fmt.{first_decimal}
use Rattle.csn_catalogue.specs.declared.entry.Entry.{Entry}
use Rattle.csn_catalogue.specs.declared.entry.Entry.TheVariants.{Uplink, Downlink, Si1, Si3, Si4, Si13, Ia}
use Rattle.csn_catalogue.specs.Entries.{entry_word}
use Rattle.csn_desc.specs.declared.reading.Reading.{Reading}
use Rattle.csn_desc.specs.declared.reading.Reading.TheVariants.{Received, Sent}
use Rattle.csn_command.specs.declared.command.RuleCommand.{RuleCommand}
use Rattle.csn_command.specs.declared.command.RuleCommand.TheVariants.{Show, Write}
use Rattle.csn_json.specs.declared.form.TreeForm.TheVariants.{Text, Json}
use Rattle.csn_command.specs.declared.command.RuleReport.{RuleReport}
use Rattle.csn_command.specs.declared.command.RuleReport.TheVariants.{Check, Certificate}
use Rattle.csn_command.specs.Command.{IsArgument, IsCommand, NamesRule, NamesReading, IsSoak, IsCompat, IsVerify}
use Rattle.csn_command.specs.Command.{command_word, report_word, word_of, rule_row, entries_row, migrate_row}
use Rattle.csn_command.specs.Command.{compat_row, verify_row, over_downlink, over_soaked, over_all}

-- there are words, and each can be an argument
abbrev pub AreArguments : List (List ℕ) → Type 0
AreArguments words = (0 < length words) × AllByRecursion IsArgument words

reading_fits : (reading : Reading) → IsArgument (word_of reading)
reading_fits Received = λ e. absurd (omega (arith, e))
reading_fits Sent = λ e. absurd (omega (arith, e))

entry_fits : (entry : Entry) → IsArgument (entry_word entry)
entry_fits Uplink = λ e. absurd (omega (arith, e))
entry_fits Downlink = λ e. absurd (omega (arith, e))
entry_fits Si1 = λ e. absurd (omega (arith, e))
entry_fits Si3 = λ e. absurd (omega (arith, e))
entry_fits Si4 = λ e. absurd (omega (arith, e))
entry_fits Si13 = λ e. absurd (omega (arith, e))
entry_fits Ia = λ e. absurd (omega (arith, e))

command_fits : (command : RuleCommand) → IsArgument (command_word command)
command_fits (Show Text) = λ e. absurd (omega (arith, e))
command_fits (Show Json) = λ e. absurd (omega (arith, e))
command_fits (Write Text) = λ e. absurd (omega (arith, e))
command_fits (Write Json) = λ e. absurd (omega (arith, e))

report_fits : (report : RuleReport) → IsArgument (report_word report)
report_fits Check = λ e. absurd (omega (arith, e))
report_fits Certificate = λ e. absurd (omega (arith, e))

-- a word whose first character is a digit but 0
digit_fits : (word : List ℕ) → 48 < get_or word 0 0 → IsArgument word
digit_fits [] first = absurd (omega (arith, first))
digit_fits (c ∷ cs) first = λ e. absurd (omega (arith, e, first))

rule_fits : {command : List ℕ} {words : List (List ℕ)} {file name : List ℕ} {reading : Reading}
    → IsArgument command → NamesRule command words file name reading → AreArguments words
rule_fits {command} {words} {file} {name} {reading} fits row =
    subst AreArguments (sym row.words_are) (omega arith, (fits, (row.file_fits, (row.name_fits, (reading_fits reading, tt)))))

reading_row_fits : {command : List ℕ} {words : List (List ℕ)} (reading : Reading)
    → IsArgument command → NamesReading command words reading → AreArguments words
reading_row_fits {command} {words} reading fits row = subst AreArguments (sym row) (omega arith, (fits, (reading_fits reading, tt)))

soak_fits : {words : List (List ℕ)} {entry : Entry} {n : ℕ} → IsSoak words entry n → AreArguments words
soak_fits {words} {entry} {n} row =
    subst AreArguments (sym row.words_are) (
      omega arith,
      (
        (λ e. absurd (omega (arith, e))),
        (entry_fits entry, (digit_fits _ (first_decimal n row.some (omega (arith, row.few))), tt)),
      ),
    )

compat_fits : {words : List (List ℕ)} {before after name : List ℕ} {reading : Reading} → IsCompat words before after name reading → AreArguments words
compat_fits {words} {reading = reading} row =
    subst AreArguments (sym row.words_are) (
      omega arith,
      (
        (λ e. absurd (omega (arith, e))),
        (row.before_fits, (row.after_fits, (row.name_fits, (reading_fits reading, tt)))),
      ),
    )

verify_fits : {words : List (List ℕ)} {file name certificate : List ℕ} {reading : Reading} → IsVerify words file name reading certificate → AreArguments words
verify_fits {words} {reading = reading} row =
    subst AreArguments (sym row.words_are) (
      omega arith,
      (
        (λ e. absurd (omega (arith, e))),
        (row.file_fits, (row.name_fits, (reading_fits reading, (row.certificate_fits, tt)))),
      ),
    )

-- the words of a row
pub are_arguments : {words : List (List ℕ)} → IsCommand words → AreArguments words
are_arguments (rule_row file name reading (inl report)) = rule_fits (report_fits report.0) report.1
are_arguments (rule_row file name reading (inr answer)) = rule_fits (command_fits answer.0) answer.1
are_arguments (entries_row entries reading (over_downlink row is)) = reading_row_fits reading (λ e. absurd (omega (arith, e))) row
are_arguments (entries_row entries reading (over_soaked entry n row is sent)) = soak_fits row
are_arguments (entries_row entries reading (over_all row is)) = reading_row_fits reading (λ e. absurd (omega (arith, e))) row
are_arguments (compat_row before after name reading row) = compat_fits row
are_arguments (verify_row file name reading certificate row) = verify_fits row
are_arguments (migrate_row is) = subst AreArguments (sym is) (omega arith, ((λ e. absurd (omega (arith, e))), tt))
