-- A run has one result.
use Rattle.std.proofs.Common.{◌≡◌, ℕ, ◌≤◌, inl, inr, List, [], ◌∷◌, ◌++◌, length, map, codes, Option, Some, refl, sym, ◌∙◌, ap, subst, arith}
use Rattle.std.specs.List.{AllByRecursion}
use Rattle.std.specs.Prelude.{if◌then◌else◌, nat_eq, slice_index}
use Rattle.csn_catalogue.specs.declared.entry.Entry.{Entry}
use Rattle.csn_catalogue.specs.declared.entry.Entry.TheVariants.{Downlink}
use Rattle.csn_catalogue.specs.Entries.{entry_root, all_entries}
use Rattle.csn_catalogue.specs.Text.{catalogue_text}
use Rattle.csn_desc.specs.declared.reading.Reading.{Reading}
use Rattle.csn_desc.specs.declared.reading.Reading.TheVariants.{Received, Sent}
use Rattle.csn_desc.specs.Nodes.{DescV}
use Rattle.csn_cert.specs.CertificateV.{NodeV}
use Rattle.csn_good.specs.Good.{Good, FirstFault}
use Rattle.csn_grammar.specs.RulesV.{RulesV}
use Rattle.csn_grammar.specs.Place.{HasRules}
use Rattle.csn_replay.specs.Watched.{Watched}
use Rattle.csn_resolve.specs.Why.{number_of}
use Rattle.csn_resolve.specs.Resolved.{IsResolved, IsRefused}
use Rattle.csn_look.specs.declared.word.TheConstants.{MOST_WORD}
use Rattle.csn_certify.specs.declared.conflict.Conflict.{Conflict}
use Rattle.csn_certify.specs.Conflicts.{IsFirstConflict}
use Rattle.csn_command.specs.declared.command.RuleCommand.{RuleCommand}
use Rattle.csn_command.specs.declared.command.RuleCommand.TheVariants.{Show, Write}
use Rattle.csn_command.specs.declared.command.RuleReport.{RuleReport}
use Rattle.csn_command.specs.declared.command.RuleReport.TheVariants.{Check, Certificate}
use Rattle.csn_json.specs.declared.form.TreeForm.TheVariants.{Text, Json}
use Rattle.csn_plan.specs.declared.ended.Ended.{Ended}
use Rattle.csn_plan.specs.declared.ended.Ended.TheVariants.{NotCertified}
use Rattle.csn_plan.specs.declared.compiling.TheConstants.{MOST_DESCRIPTION}
use Rattle.csn_run.specs.Known.{KnownOfTexts}
use Rattle.csn_command.specs.Command.{word_of, command_word, report_word, NamesRule, NamesReading, IsReport, IsAnswer}
use Rattle.csn_command.specs.Command.{IsMigrate, IsSegments, IsReplay, IsSoak, IsCompat, IsVerify, IsOverRule}
use Rattle.csn_command.specs.Command.{IsOverEntries, over_downlink, over_all, over_soaked}
use Rattle.csn_plan.specs.Compiled.{RuleOf, rule_of_entry, line_of, conflict_line, AreCompiled, IsCompiled, HasNoPlan, no_rules, rules_refused, not_certified}
use Rattle.csn_run.specs.Told.{soaked_line, Compares, compares_ok, compares_no, Verifies, verifies_good, verifies_fault, verifies_none}
use Rattle.csn_lines.specs.Jobs.{LineJob, by_rule, segmenting, replaying}
use Rattle.csn_run.specs.Result.{AsksFor, asks_by_rule, asks_migrate, asks_segments, asks_replay, AnswersInput}
use Rattle.csn_run.specs.Result.{Compiles, of_file, of_catalogue, of_pair, HasNoJob, long_text, no_plan, Reports}
use Rattle.csn_run.specs.Result.{EndsPair, long_before, long_after, compared, IsDescribed, EndsVerify, no_description}
use Rattle.csn_run.specs.Result.{long_certificate, verified, EndsBefore, no_job, reported, soaked, of_two}
use Rattle.csn_run.specs.Result.{of_certificate, no_line, lines}
use Rattle.csn_plan.specs.Compiled.{HasJob}
use Rattle.csn_run.specs.Laws.{LinesHaveOneAnswer, RunsHaveOneResult}
use Rattle.csn_soak.specs.Soaking.{IsSoaked}
use Rattle.csn_plan.proofs.EntryPlans.{all_have_jobs}
use Rattle.csn_run.proofs.OneInput.{Written, one_input}
use Rattle.csn_run.proofs.SoakedBlocks.{one_soak, one_soaked}

-- ---- what the words name

one_reading_word : (r s : Reading) → word_of r ≡ word_of s → r ≡ s
one_reading_word Received Received e = refl
one_reading_word Received Sent e = cc
one_reading_word Sent Received e = cc
one_reading_word Sent Sent e = refl

-- two readings of words name one file, one rule, one reading and one more word: the command or a further file
pub record OneRow (word word' file file' name name' : List ℕ) (reading reading' : Reading) : Type 0 where
  pub word_is : word ≡ word'
  pub file_is : file ≡ file'
  pub name_is : name ≡ name'
  pub reading_is : reading ≡ reading'

-- what holds of one reading holds of the other
pub same_row :
    {word word' file file' name name' : List ℕ} {reading reading' : Reading} → OneRow word word' file file' name name' reading reading'
    → (P : (word file name : List ℕ) → Reading → Type 0) → P word file name reading → P word' file' name' reading'
same_row {word} {word'} {file} {file'} {name} {name'} {reading} {reading'} same P h =
    let here = subst (λ f. P word f name reading) same.file_is h in
    let named = subst (λ n. P word file' n reading) same.name_is here in
    subst (λ w. P w file' name' reading') same.word_is (subst (P word file' name') same.reading_is named)

pub one_rule :
    {words : List (List ℕ)} {command other file file' name name' : List ℕ} {reading reading' : Reading}
    → NamesRule command words file name reading → NamesRule other words file' name' reading'
    → OneRow command other file file' name name' reading reading'
one_rule {words} {command} {other} {file} {file'} {name} {name'} {reading} {reading'} row row' =
    let all : command ∷ file ∷ name ∷ word_of reading ∷ [] ≡ other ∷ file' ∷ name' ∷ word_of reading' ∷ [] = sym row.words_are ∙ row'.words_are in
    let read : word_of reading ≡ word_of reading' = cc in
    record { word_is = cc; file_is = cc; name_is = cc; reading_is = one_reading_word reading reading' read }

-- a command over a rule
pub record OverRule (words : List (List ℕ)) (file name : List ℕ) (reading : Reading) : Type 0 where
  pub command : List ℕ
  pub row : NamesRule command words file name reading

pub over : {words : List (List ℕ)} {file name : List ℕ} {reading : Reading} → IsOverRule words file name reading → OverRule words file name reading
over (inl report) = record { command = report_word report.0; row = report.1 }
over (inr answer) = record { command = command_word answer.0; row = answer.1 }

-- a command that answers lines by a rule
pub answers : {words : List (List ℕ)} {file name : List ℕ} {reading : Reading} (command : RuleCommand)
    → IsAnswer command words file name reading → OverRule words file name reading
answers command row = record { command = command_word command; row = row }

-- the command whose word begins with a letter
abbrev command_of : ℕ → RuleCommand
command_of letter = if nat_eq letter 115 then Show Text else if nat_eq letter 106 then Show Json else if nat_eq letter 119 then Write Text else Write Json

by_letter : (command : RuleCommand) → command_of (slice_index (command_word command) 0) ≡ command
by_letter (Show Text) = refl
by_letter (Show Json) = refl
by_letter (Write Text) = refl
by_letter (Write Json) = refl

one_command : (command other : RuleCommand) → command_word command ≡ command_word other → command ≡ other
one_command command other e = sym (by_letter command) ∙ ap (λ w. command_of (slice_index w 0)) e ∙ by_letter other

one_report : (report other : RuleReport) → report_word report ≡ report_word other → report ≡ other
one_report Check Check e = refl
one_report Check Certificate e = absurd (let second : 104 ≡ 101 = ap (λ w. slice_index w 1) e in omega (arith, second))
one_report Certificate Check e = absurd (let second : 101 ≡ 104 = ap (λ w. slice_index w 1) e in omega (arith, second))
one_report Certificate Certificate e = refl

reports_begin : (report : RuleReport) → slice_index (report_word report) 0 ≡ 99
reports_begin Check = refl
reports_begin Certificate = refl

no_report : (command : RuleCommand) → slice_index (command_word command) 0 ≡ 99 → ⊥
no_report (Show Text) first = omega (arith, first)
no_report (Show Json) first = omega (arith, first)
no_report (Write Text) first = omega (arith, first)
no_report (Write Json) first = omega (arith, first)

pub not_both : {words : List (List ℕ)} {file name file' name' : List ℕ} {reading reading' : Reading}
    (report : RuleReport) (command : RuleCommand) → IsReport report words file name reading
    → IsAnswer command words file' name' reading' → ⊥
not_both report command row row' = no_report command (ap (λ w. slice_index w 0) (sym (one_rule row row').word_is) ∙ reports_begin report)

pub not_migrate : {words : List (List ℕ)} {file name : List ℕ} {reading : Reading} → OverRule words file name reading → IsMigrate words → ⊥
not_migrate {words} {file} {name} {reading} rule is =
    let all : rule.command ∷ file ∷ name ∷ word_of reading ∷ [] ≡ codes "migrate" ∷ [] = sym rule.row.words_are ∙ is in cc

-- words of four are none of two
pub not_two : {words : List (List ℕ)} {file name first second : List ℕ} {reading : Reading}
    → OverRule words file name reading → words ≡ first ∷ second ∷ [] → ⊥
not_two {words} {file} {name} {first} {second} {reading} rule is =
    let all : rule.command ∷ file ∷ name ∷ word_of reading ∷ [] ≡ first ∷ second ∷ [] = sym rule.row.words_are ∙ is in cc

-- nor of three
pub not_three : {words : List (List ℕ)} {file name first second third : List ℕ} {reading : Reading}
    → OverRule words file name reading → words ≡ first ∷ second ∷ third ∷ [] → ⊥
not_three {words} {file} {name} {first} {second} {third} {reading} rule is =
    let all : rule.command ∷ file ∷ name ∷ word_of reading ∷ [] ≡ first ∷ second ∷ third ∷ [] = sym rule.row.words_are ∙ is in cc

-- nor of five
pub not_five : {words : List (List ℕ)} {file name first second third fourth fifth : List ℕ} {reading : Reading}
    → OverRule words file name reading → words ≡ first ∷ second ∷ third ∷ fourth ∷ fifth ∷ [] → ⊥
not_five rule is = omega (arith, ap length rule.row.words_are, ap length is)

pub two_not_three : {words : List (List ℕ)} {one other first second third : List ℕ} → words ≡ one ∷ other ∷ [] → words ≡ first ∷ second ∷ third ∷ [] → ⊥
two_not_three {words} {one} {other} {first} {second} {third} is has =
    let all : one ∷ other ∷ [] ≡ first ∷ second ∷ third ∷ [] = sym is ∙ has in cc

pub migrate_not_three : {words : List (List ℕ)} {first second third : List ℕ} → IsMigrate words → words ≡ first ∷ second ∷ third ∷ [] → ⊥
migrate_not_three {words} {first} {second} {third} row is =
    let all : codes "migrate" ∷ [] ≡ first ∷ second ∷ third ∷ [] = sym row ∙ is in cc

pub migrate_alone : {words : List (List ℕ)} {first second : List ℕ} → IsMigrate words → words ≡ first ∷ second ∷ [] → ⊥
migrate_alone {words} {first} {second} row is =
    let all : codes "migrate" ∷ [] ≡ first ∷ second ∷ [] = sym row ∙ is in cc

-- words of `compat` name one pair of files, one rule and one reading
pub one_pair :
    {words : List (List ℕ)} {before before' after after' name name' : List ℕ} {reading reading' : Reading}
    → IsCompat words before after name reading → IsCompat words before' after' name' reading'
    → OneRow after after' before before' name name' reading reading'
one_pair {words} {before} {before'} {after} {after'} {name} {name'} {reading} {reading'} row row' =
    let all : codes "compat" ∷ before ∷ after ∷ name ∷ word_of reading ∷ [] ≡ codes "compat" ∷ before' ∷ after'
    ∷ name' ∷ word_of reading' ∷ [] = sym row.words_are ∙ row'.words_are in
    let read : word_of reading ≡ word_of reading' = cc in
    record { word_is = cc; file_is = cc; name_is = cc; reading_is = one_reading_word reading reading' read }

-- words of `verify` name one file, one rule, one reading and one certificate
pub one_verify :
    {words : List (List ℕ)} {file file' name name' certificate certificate' : List ℕ} {reading reading' : Reading}
    → IsVerify words file name reading certificate → IsVerify words file' name' reading' certificate'
    → OneRow certificate certificate' file file' name name' reading reading'
one_verify {words} {file} {file'} {name} {name'} {certificate} {certificate'} {reading} {reading'} row row' =
    let all : codes "verify" ∷ file ∷ name ∷ word_of reading ∷ certificate ∷ [] ≡ codes "verify" ∷ file' ∷ name'
    ∷ word_of reading' ∷ certificate' ∷ [] = sym row.words_are ∙ row'.words_are in
    let read : word_of reading ≡ word_of reading' = cc in
    record { file_is = cc; name_is = cc; reading_is = one_reading_word reading reading' read; word_is = cc }

-- they are none of `compat`
pub not_compat : {words : List (List ℕ)} {before after name file name' certificate : List ℕ}
    {reading reading' : Reading} → IsCompat words before after name reading
    → IsVerify words file name' reading' certificate → ⊥
not_compat {words} {before} {after} {name} {file} {name'} {certificate} {reading} {reading'} row row' =
    let all : codes "compat" ∷ before ∷ after ∷ name ∷ word_of reading ∷ [] ≡ codes "verify" ∷ file ∷ name' ∷ word_of
    reading' ∷ certificate ∷ [] = sym row.words_are ∙ row'.words_are in
    let same : codes "compat" ≡ codes "verify" = cc in
    let first : 99 ≡ 118 = ap (λ w. slice_index w 0) same in
    omega (arith, first)

-- words of two name one reading
pub same_reading : {words : List (List ℕ)} {command other : List ℕ} {reading reading' : Reading}
    → NamesReading command words reading → NamesReading other words reading' → reading ≡ reading'
same_reading {words} {command} {other} {reading} {reading'} is is' =
    let all : command ∷ word_of reading ∷ [] ≡ other ∷ word_of reading' ∷ [] = sym is ∙ is' in
    let read : word_of reading ≡ word_of reading' = cc in one_reading_word reading reading' read

not_segments_and_replay : {words : List (List ℕ)} (reading reading' : Reading) → IsSegments words reading → IsReplay words reading' → ⊥
not_segments_and_replay {words} reading reading' is is' =
    let all : codes "segments" ∷ word_of reading ∷ [] ≡ codes "replay" ∷ word_of reading' ∷ [] = sym is ∙ is' in
    let same : codes "segments" ≡ codes "replay" = cc in
    let first : 115 ≡ 114 = ap (λ w. slice_index w 0) same in
    omega (arith, first)

-- ---- what is compiled

abbrev pub rule_of : List ℕ → List ℕ → Reading → RuleOf
rule_of text name reading = record { text = text; name = name; reading = reading }

same_rule : {text text' name name' : List ℕ} {reading reading' : Reading}
    → text ≡ text' → name ≡ name' → reading ≡ reading' → rule_of text name reading ≡ rule_of text' name' reading'
same_rule {text} {text'} {name} {name'} {reading} {reading'} texts names readings =
    ap (λ t. rule_of t name reading) texts ∙ ap (λ n. rule_of text' n reading) names ∙ ap (λ r. rule_of text' name' r) readings

-- a file has one text
pub one_held : {held : Option (List ℕ)} {text other : List ℕ} → held ≡ Some text → held ≡ Some other → text ≡ other
one_held {held} {text} {other} is has = let there : Some text ≡ Some other = sym is ∙ has in cc

pub first_of : {rule other : RuleOf} {rest others : List RuleOf} → rule ∷ rest ≡ other ∷ others → rule ≡ other
first_of e = cc

rest_of : {rule other : RuleOf} {rest others : List RuleOf} → rule ∷ rest ≡ other ∷ others → rest ≡ others
rest_of e = cc

-- a command over a rule is none over entries
not_entries : {words : List (List ℕ)} {file name : List ℕ} {reading reading' : Reading} {entries : List Entry}
    → OverRule words file name reading → IsOverEntries words entries reading' → ⊥
not_entries rule (over_downlink row is) = not_two rule row
not_entries rule (over_all row is) = not_two rule row
not_entries rule (over_soaked entry n row is sent) = not_three rule row.words_are

-- words over entries are three at most
pub entries_short : {words : List (List ℕ)} {reading : Reading} {entries : List Entry} → IsOverEntries words entries reading → length words ≤ 3
entries_short (over_downlink row is) = omega (arith, ap length row)
entries_short (over_all row is) = omega (arith, ap length row)
entries_short (over_soaked entry n row is sent) = omega (arith, ap length row.words_are)

migrate_no_entries : {words : List (List ℕ)} {reading : Reading} {entries : List Entry} → IsMigrate words → IsOverEntries words entries reading → ⊥
migrate_no_entries row (over_downlink row' is) = migrate_alone row row'
migrate_no_entries row (over_all row' is) = migrate_alone row row'
migrate_no_entries row (over_soaked entry n row' is sent) = migrate_not_three row row'.words_are

-- words name one list of entries
one_entries :
    {words : List (List ℕ)} {entries others : List Entry} {reading reading' : Reading}
    → IsOverEntries words entries reading → IsOverEntries words others reading' → (entries ≡ others) × (reading ≡ reading')
one_entries (over_downlink row is) (over_downlink row' is') = (is ∙ sym is', same_reading row row')
one_entries {reading = reading} {reading'} (over_downlink row is) (over_all row' is') = absurd (not_segments_and_replay reading reading' row row')
one_entries (over_downlink row is) (over_soaked entry n row' is' sent) = absurd (two_not_three row row'.words_are)
one_entries {reading = reading} {reading'} (over_all row is) (over_downlink row' is') = absurd (not_segments_and_replay reading' reading row' row)
one_entries (over_all row is) (over_all row' is') = (is ∙ sym is', same_reading row row')
one_entries (over_all row is) (over_soaked entry n row' is' sent) = absurd (two_not_three row row'.words_are)
one_entries (over_soaked entry n row is sent) (over_downlink row' is') = absurd (two_not_three row' row.words_are)
one_entries (over_soaked entry n row is sent) (over_all row' is') = absurd (two_not_three row' row.words_are)
one_entries (over_soaked entry n row is sent) (over_soaked entry' n' row' is' sent') =
    (is ∙ ap (λ e. e ∷ []) (one_soak row row').0 ∙ sym is', sent ∙ sym sent')

-- a run of the words compiles one list of rules
pub one_list_compiles : (words : List (List ℕ)) (files : List ℕ → Option (List ℕ)) (all others : List RuleOf)
    → Compiles words files all → Compiles words files others → all ≡ others
one_list_compiles words files all others (of_file file name text reading row held is) (of_file file' name' text' reading' row' held' is') =
    let same = one_rule (over row).row (over row').row in
    let there : Some text ≡ Some text' = sym held ∙ ap files same.file_is ∙ held' in
    let texts : text ≡ text' = cc in
    let rules : rule_of text name reading ≡ rule_of text' name' reading' =
    ap (λ t. rule_of t name reading) texts ∙ ap (λ n. rule_of text' n reading) same.name_is ∙ ap (λ r. rule_of text' name' r) same.reading_is in
    is ∙ ap (λ r. r ∷ []) rules ∙ sym is'
one_list_compiles words files all others (of_file file name text reading row held is)
    (of_catalogue entries reading' row' is') = absurd (not_entries (over row) row')
one_list_compiles words files all others (of_catalogue entries reading row is)
    (of_file file' name' text' reading' row' held' is') = absurd (not_entries (over row') row)
one_list_compiles words files all others (of_catalogue entries reading row is) (of_catalogue entries' reading' row' is') =
    let same = one_entries row row' in
    is ∙ ap (λ r. map (rule_of_entry r) entries) same.1 ∙ ap (map (rule_of_entry reading')) same.0 ∙ sym is'
one_list_compiles words files all others (of_file file name text reading row held is)
    (of_pair before after name' was now reading' row' held' has' fits fits' is') =
    absurd (not_five (over row) row'.words_are)
one_list_compiles words files all others (of_pair before after name' was now reading' row' held' has' fits fits' is')
    (of_file file name text reading row held is) = absurd (not_five (over row) row'.words_are)
one_list_compiles words files all others (of_catalogue entries reading row is)
    (of_pair before after name' was now reading' row' held' has' fits fits' is') =
    absurd (omega (arith, entries_short row, ap length row'.words_are))
one_list_compiles words files all others (of_pair before after name' was now reading' row' held' has' fits fits' is')
    (of_catalogue entries reading row is) = absurd (omega (arith, entries_short row, ap length row'.words_are))
one_list_compiles words files all others (of_pair before after name was now reading row held has few small is)
    (of_pair before' after' name' was' now' reading' row' held' has' few' small' is') =
    let same = one_pair row row' in
    let old = same_rule (one_held held (ap files same.file_is ∙ held')) same.name_is same.reading_is in
    let new = same_rule (one_held has (ap files same.word_is ∙ has')) same.name_is same.reading_is in
    is ∙ ap (λ r. r ∷ rule_of now name reading ∷ []) old ∙ ap (λ r. rule_of was' name' reading' ∷ r ∷ []) new ∙ sym is'

-- where all rules have a job, each has one
pub holds_at : (front : List RuleOf) (rule : RuleOf) (behind : List RuleOf) → AllByRecursion HasJob (front ++ rule ∷ behind) → HasJob rule
holds_at [] rule behind h = h.0
holds_at (first ∷ front) rule behind h = holds_at front rule behind h.1

-- rules that give all entries descriptions are those of the catalogue
pub rules_compiled : (reading : Reading) (rules : RulesV) (plans : List DescV) → AreCompiled rules reading all_entries plans → HasRules catalogue_text rules
rules_compiled reading rules [] compiled = absurd compiled
rules_compiled reading rules (d ∷ ds) compiled = compiled.0.has_rules

module _ (known : KnownOfTexts) where
  -- ---- a text without a plan

  rules_along : (text : List ℕ) (rules others : RulesV) → HasRules text rules → HasRules text others → (P : RulesV → Type 0) → P rules → P others
  rules_along text rules others has have P p = subst P (known.one_list text rules others has have) p

  one_desc : {rules : RulesV} {name : List ℕ} {reading : Reading} {d other : DescV} → IsResolved rules name reading d
      → IsResolved rules name reading other → d ≡ other
  one_desc {rules} {name} {reading} {d} {other} is has = known.resolved_once rules reading name d other is has

  one_conflict :
      {rules : RulesV} {name : List ℕ} {reading : Reading} {d other : DescV} {c e : Conflict}
      → IsResolved rules name reading d → IsResolved rules name reading other → IsFirstConflict d MOST_WORD c → IsFirstConflict other MOST_WORD e → c ≡ e
  one_conflict {d = d} {other} {c} {e} is has first another =
      let P : DescV → Type 0 = λ x. IsFirstConflict x MOST_WORD c in
      known.first_is_one other MOST_WORD c e (subst P (one_desc is has) first) another

  one_no_plan :
      (text name : List ℕ) (reading : Reading) (line other : List ℕ) (ended end : Ended)
      → HasNoPlan text name reading line ended → HasNoPlan text name reading other end → Written line ended other end
  one_no_plan text name reading line other ended end (no_rules place at is e) (no_rules place' at' is' e') =
      let same : place ≡ place' = known.one_place text place place' at at' in
      (is ∙ ap (λ p. line_of (codes "syntax") (p ∷ [])) same ∙ sym is', e ∙ sym e')
  one_no_plan text name reading line other ended end (no_rules place at is e)
      (rules_refused rules why place' has why_not is' e') = absurd (known.apart text _ _ has at)
  one_no_plan text name reading line other ended end (no_rules place at is e)
      (not_certified rules d c has resolved first is' e') = absurd (known.apart text _ _ has at)
  one_no_plan text name reading line other ended end (rules_refused rules why place' has why_not is' e')
      (no_rules place at is e) = absurd (known.apart text _ _ has at)
  one_no_plan text name reading line other ended end (rules_refused rules why place has why_not is e) (rules_refused rules' why' place' has' why_not' is' e') =
      let P : RulesV → Type 0 = λ r. IsRefused r name reading why place in
      let same = known.refused_once rules' reading name why why' place place' (rules_along text rules rules' has has' P why_not) why_not' in (
        is ∙ ap (λ w. line_of (codes "description") (number_of w ∷ place ∷ [])) same.0 ∙ ap
            (λ p. line_of (codes "description") (number_of why' ∷ p ∷ [])) same.1 ∙ sym is',
        e ∙ sym e',
      )
  one_no_plan text name reading line other ended end (rules_refused rules why place has why_not is e) (not_certified rules' d c has' resolved first is' e') =
      let P : RulesV → Type 0 = λ r. IsRefused r name reading why place in
      absurd (known.refused_or_resolved rules' reading name why place d (rules_along text rules rules' has has' P why_not) resolved)
  one_no_plan text name reading line other ended end (not_certified rules d c has resolved first is' e')
      (no_rules place at is e) = absurd (known.apart text _ _ has at)
  one_no_plan text name reading line other ended end (not_certified rules' d c has' resolved first is' e') (rules_refused rules why place has why_not is e) =
      let P : RulesV → Type 0 = λ r. IsRefused r name reading why place in
      absurd (known.refused_or_resolved rules' reading name why place d (rules_along text rules rules' has has' P why_not) resolved)
  one_no_plan text name reading line other ended end (not_certified rules d c has resolved first is e)
      (not_certified rules' d' c' has' resolved' first' is' e') =
      let P : RulesV → Type 0 = λ r. IsResolved r name reading d in
      (is ∙ ap conflict_line (one_conflict (rules_along text rules rules' has has' P resolved) resolved' first first') ∙ sym is', e ∙ sym e')

  -- a text has no plan for a rule, or one
  no_plan_or_one :
      {text name : List ℕ} {reading : Reading} {line : List ℕ} {ended : Ended} {rules : RulesV} {d : DescV}
      → HasNoPlan text name reading line ended → IsCompiled text name reading rules d → ⊥
  no_plan_or_one {text} (no_rules place at is e) compiled = known.apart text _ _ compiled.has_rules at
  no_plan_or_one {text} {name} {reading} {rules = rules} {d} (rules_refused others why place has why_not is e) compiled =
      let P : RulesV → Type 0 = λ r. IsRefused r name reading why place in
      known.refused_or_resolved rules reading name why place d (rules_along text others rules has compiled.has_rules P why_not) compiled.resolved
  no_plan_or_one {text} {name} {reading} {rules = rules} {d} (not_certified others other c has resolved first is e) compiled =
      let P : RulesV → Type 0 = λ r. IsResolved r name reading other in
      let same = one_desc (rules_along text others rules has compiled.has_rules P resolved) compiled.resolved in
      let Q : DescV → Type 0 = λ x. IsFirstConflict x MOST_WORD c in
      known.no_conflict d MOST_WORD c (subst Q same first) compiled.certified

  one_compiled :
      {text name : List ℕ} {reading : Reading} {rules others : RulesV} {d other : DescV}
      → IsCompiled text name reading rules d → IsCompiled text name reading others other → d ≡ other
  one_compiled {text} {name} {reading} {rules} {others} {d} is has =
      let P : RulesV → Type 0 = λ r. IsResolved r name reading d in
      one_desc (rules_along text rules others is.has_rules has.has_rules P is.resolved) has.resolved

  one_no_job :
      (text name : List ℕ) (reading : Reading) (w v : List ℕ) (e f : Ended)
      → HasNoJob text name reading w e → HasNoJob text name reading v f → Written w e v f
  one_no_job text name reading w v e f (long_text long is end) (long_text long' is' end') = (is ∙ sym is', end ∙ sym end')
  one_no_job text name reading w v e f (long_text long is end) (no_plan line fits none is') = absurd (omega (arith, long, fits))
  one_no_job text name reading w v e f (no_plan line fits none is') (long_text long is end) = absurd (omega (arith, long, fits))
  one_no_job text name reading w v e f (no_plan line fits none is) (no_plan line' fits' none' is') =
      let same = one_no_plan text name reading line line' e f none none' in
      (is ∙ ap (λ l. l ++ 10 ∷ []) same.0 ∙ sym is', same.1)

  no_job_or_one :
      {text name : List ℕ} {reading : Reading} {w : List ℕ} {e : Ended} {rules : RulesV} {d : DescV}
      → HasNoJob text name reading w e → length text ≤ MOST_DESCRIPTION → IsCompiled text name reading rules d → ⊥
  no_job_or_one (long_text long is end) fits compiled = omega (arith, long, fits)
  no_job_or_one (no_plan line fits' none is) fits compiled = no_plan_or_one none compiled

  -- a rule of a text has a description, or none
  pub none_or_described :
      {text name : List ℕ} {reading : Reading} {w : List ℕ} {e : Ended} {rules : RulesV} {d : DescV} → HasNoJob text name reading w e → (e ≡ NotCertified → ⊥)
      → length text ≤ MOST_DESCRIPTION → HasRules text rules → IsResolved rules name reading d → ⊥
  none_or_described (long_text long is end) other fits has resolved = omega (arith, long, fits)
  none_or_described {text} (no_plan line fits' (no_rules place at is e) is') other fits has resolved = known.apart text _ _ has at
  none_or_described {text} {name} {reading} {rules = rules} {d}
      (no_plan line fits' (rules_refused others why place has' why_not is e) is') other fits has resolved =
      let P : RulesV → Type 0 = λ r. IsRefused r name reading why place in
      known.refused_or_resolved rules reading name why place d (rules_along text others rules has' has P why_not) resolved
  none_or_described (no_plan line fits' (not_certified others c conflict has' resolved' first is e) is') other fits has resolved = other e

  -- a rule has a job, or none
  job_or_none : (rule : RuleOf) {w : List ℕ} {e : Ended} → HasJob rule → HasNoJob rule.text rule.name rule.reading w e → ⊥
  job_or_none rule has none = no_job_or_one none has.0 has.3

  -- the first rule that has no job is one
  one_first :
      (front front' : List RuleOf) (rule rule' : RuleOf) (behind behind' : List RuleOf) (w v : List ℕ) (e f : Ended)
      → front ++ rule ∷ behind ≡ front' ++ rule' ∷ behind' → AllByRecursion HasJob front → AllByRecursion HasJob front'
      → HasNoJob rule.text rule.name rule.reading w e → HasNoJob rule'.text rule'.name rule'.reading v f → rule ≡ rule'
  one_first [] [] rule rule' behind behind' w v e f same has has' none none' = first_of same
  one_first [] (first ∷ front') rule rule' behind behind' w v e f same has has' none none' =
      absurd (job_or_none first has'.0 (subst (λ (r : RuleOf). HasNoJob r.text r.name r.reading w e) (first_of same) none))
  one_first (first ∷ front) [] rule rule' behind behind' w v e f same has has' none none' =
      absurd (job_or_none first has.0 (subst (λ (r : RuleOf). HasNoJob r.text r.name r.reading v f) (sym (first_of same)) none'))
  one_first (first ∷ front) (first' ∷ front') rule rule' behind behind' w v e f same has has' none none' =
      one_first front front' rule rule' behind behind' w v e f (rest_of same) has.1 has'.1 none none'

  -- a report tells one thing of a description
  one_told :
      {text name : List ℕ} {reading : Reading} {rules : RulesV} {d : DescV} {w v : List ℕ} (report : RuleReport)
      → IsCompiled text name reading rules d → Reports report d w → Reports report d v → w ≡ v
  one_told Check compiled is is' = is ∙ sym is'
  one_told {text} {name} {reading} {rules} {d} {w} {v} Certificate compiled is is' =
      known.one_certificate d w v (known.descriptions rules reading name d (known.shaped text rules compiled.has_rules) compiled.resolved) is is'

  -- ---- runs that come to no line

  module _ (words : List (List ℕ)) (files : List ℕ → Option (List ℕ)) where
    -- one rule that is compiled, where all that are have a job
    all_or_none : (front : List RuleOf) (rule : RuleOf) (behind all : List RuleOf) {w : List ℕ} {e : Ended}
        → Compiles words files (front ++ rule ∷ behind) → Compiles words files all → AllByRecursion HasJob all
        → HasNoJob rule.text rule.name rule.reading w e → ⊥
    all_or_none front rule behind all compiles others has none =
        job_or_none rule (holds_at front rule behind (subst (λ (l : List RuleOf). AllByRecursion HasJob l)
        (one_list_compiles words files all (front ++ rule ∷ behind) others compiles) has)) none

    -- the rule that a report is on has a job
    pub checked_compiles :
        {file name text : List ℕ} {reading : Reading} {rules : RulesV} {d : DescV} → IsOverRule words file name reading → files file ≡ Some text
        → length text ≤ MOST_DESCRIPTION → IsCompiled text name reading rules d
        → Compiles words files (rule_of text name reading ∷ []) × AllByRecursion HasJob (rule_of text name reading ∷ [])
    checked_compiles {file} {name} {text} {reading} {rules} {d} row held fits compiled =
        (of_file file name text reading row held refl, ((fits, rules, d, compiled), tt))

    -- and that of `soak` has one
    pub soaked_compiles :
        {entry : Entry} {n : ℕ} {rules : RulesV} {d : DescV} → IsSoak words entry n → length catalogue_text ≤ MOST_DESCRIPTION
        → IsCompiled catalogue_text (entry_root entry) Sent rules d
        → Compiles words files (rule_of_entry Sent entry ∷ []) × AllByRecursion HasJob (rule_of_entry Sent entry ∷ [])
    soaked_compiles {entry} {n} {rules} {d} row fits compiled =
        (of_catalogue (entry ∷ []) Sent (over_soaked entry n row refl refl) refl, ((fits, rules, d, compiled), tt))

    -- and both that `compat` compiles
    pub pair_compiles :
        {before after name was now : List ℕ} {reading : Reading} {rules others : RulesV} {d e : DescV} → IsCompat words before after name reading
        → files before ≡ Some was → files after ≡ Some now → length was ≤ MOST_DESCRIPTION → length now ≤ MOST_DESCRIPTION
        → IsCompiled was name reading rules d → IsCompiled now name reading others e
        → Compiles words files (rule_of was name reading ∷ rule_of now name reading ∷ [])
        × AllByRecursion HasJob (rule_of was name reading ∷ rule_of now name reading ∷ [])
    pair_compiles {before} {after} {name} {was} {now} {reading} {rules} {others} {d} {e} row held has few small is js =
        (of_pair before after name was now reading row held has few small refl, ((few, rules, d, is), ((small, others, e, js), tt)))

    -- both texts that `compat` compiles fit
    record BothFit (before after : List ℕ) : Type 0 where
      was : List ℕ
      now : List ℕ
      held : files before ≡ Some was
      has : files after ≡ Some now
      few : length was ≤ MOST_DESCRIPTION
      small : length now ≤ MOST_DESCRIPTION

    both_fit : {before after name : List ℕ} {reading : Reading} {all : List RuleOf}
        → IsCompat words before after name reading → Compiles words files all → BothFit before after
    both_fit row (of_file file name' text reading' row' held' is) = absurd (not_five (over row') row.words_are)
    both_fit row (of_catalogue entries reading' row' is) = absurd (omega (arith, entries_short row', ap length row.words_are))
    both_fit row (of_pair before' after' name' was now reading' row' held has few small is) =
        let same = one_pair row row' in
        record { was = was; now = now; held = ap files same.file_is ∙ held; has = ap files same.word_is ∙ has; few = few; small = small }

    -- a pair of files that is told has no rule without a job
    pair_or_none :
        {before after name : List ℕ} {reading : Reading} (front : List RuleOf) (rule : RuleOf) (behind : List RuleOf)
        {w v : List ℕ} {e f : Ended} → IsCompat words before after name reading
        → Compiles words files (front ++ rule ∷ behind) → HasNoJob rule.text rule.name rule.reading w e → EndsPair files before after name reading v f → ⊥
    pair_or_none front rule behind row compiles none (long_before was held long is end) =
        let fit = both_fit row compiles in omega (arith, long, fit.few, ap length (one_held held fit.held))
    pair_or_none front rule behind row compiles none (long_after was now held few has long is end) =
        let fit = both_fit row compiles in omega (arith, long, fit.small, ap length (one_held has fit.has))
    pair_or_none front rule behind row compiles none (compared was now line rules others d e held has few small compiled compiled' compares is) =
        let all = pair_compiles row held has few small compiled compiled' in all_or_none front rule behind _ compiles all.0 all.1 none

    one_compares : {d e : DescV} {w v : List ℕ} {x y : Ended} → Compares d e w x → Compares d e v y → Written w x v y
    one_compares (compares_ok takes is end) (compares_ok takes' is' end') = (is ∙ sym is', end ∙ sym end')
    one_compares (compares_ok takes is end) (compares_no not is' end') = absurd (not takes)
    one_compares (compares_no not is end) (compares_ok takes is' end') = absurd (not takes)
    one_compares (compares_no not is end) (compares_no not' is' end') = (is ∙ sym is', end ∙ sym end')

    one_pair_ends : {before after name : List ℕ} {reading : Reading} (w v : List ℕ) (e f : Ended)
        → EndsPair files before after name reading w e → EndsPair files before after name reading v f
        → Written w e v f
    one_pair_ends w v e f (long_before was held long is end) (long_before was' held' long' is' end') = (is ∙ sym is', end ∙ sym end')
    one_pair_ends w v e f (long_before was held long is end) (long_after was' now' held' few' has' long' is' end') =
        absurd (omega (arith, long, few', ap length (one_held held held')))
    one_pair_ends w v e f (long_before was held long is end)
        (compared was' now' line' rules' others' d' e' held' has' few' small' a' b' compares' is') =
        absurd (omega (arith, long, few', ap length (one_held held held')))
    one_pair_ends w v e f (long_after was now held few has long is end) (long_before was' held' long' is' end') =
        absurd (omega (arith, long', few, ap length (one_held held held')))
    one_pair_ends w v e f (long_after was now held few has long is end) (long_after was' now' held' few' has' long' is' end') = (is ∙ sym is', end ∙ sym end')
    one_pair_ends w v e f (long_after was now held few has long is end)
        (compared was' now' line' rules' others' d' e' held' has' few' small' a' b' compares' is') =
        absurd (omega (arith, long, small', ap length (one_held has has')))
    one_pair_ends w v e f (compared was now line rules others d e' held has few small a b compares is)
        (long_before was' held' long' is' end') = absurd (omega (arith, long', few, ap length (one_held held held')))
    one_pair_ends w v e f (compared was now line rules others d e' held has few small a b compares is)
        (long_after was' now' held' few' has' long' is' end') =
        absurd (omega (arith, long', small, ap length (one_held has has')))
    one_pair_ends {name = name} {reading} w v e f
        (compared was now line rules others d x held has few small a b compares is)
        (compared was' now' line' rules' others' d' x' held' has' few' small' a' b' compares' is') =
        let P : List ℕ → Type 0 = λ t. IsCompiled t name reading rules d in
        let Q : List ℕ → Type 0 = λ t. IsCompiled t name reading others x in
        let old = one_compiled (subst P (one_held held held') a) a' in
        let new = one_compiled (subst Q (one_held has has') b) b' in
        let R : DescV → Type 0 = λ y. Compares y x line e in
        let S : DescV → Type 0 = λ y. Compares d' y line e in
        let same = one_compares (subst S new (subst R old compares)) compares' in
        (is ∙ ap (λ l. l ++ 10 ∷ []) same.0 ∙ sym is', same.1)

    -- ---- certificates

    -- `verify` compiles nothing
    pub verify_compiles : {file name certificate : List ℕ} {reading : Reading} {all : List RuleOf}
        → IsVerify words file name reading certificate → Compiles words files all → ⊥
    verify_compiles row (of_file file' name' text reading' row' held' is) = not_five (over row') row.words_are
    verify_compiles row (of_catalogue entries reading' row' is) = omega (arith, entries_short row', ap length row.words_are)
    verify_compiles row (of_pair before after name' was now reading' row' held has few small is) = not_compat row' row

    one_verifies : {d : DescV} {text w v : List ℕ} {x y : Ended} → Verifies d text w x → Verifies d text v y → Written w x v y
    one_verifies (verifies_good c spells good is end) (verifies_good c' spells' good' is' end') = (is ∙ sym is', end ∙ sym end')
    one_verifies {d} {text} (verifies_good c spells good is end) (verifies_fault c' rule node spells' fault is' end') =
        let P : List NodeV → Type 0 = λ x. Good d x in
        absurd (known.no_fault d c' rule node (subst P (known.of_one_certificate c c' text spells spells') good) fault)
    one_verifies (verifies_good c spells good is end) (verifies_none none is' end') = absurd (none c spells)
    one_verifies {d} {text} (verifies_fault c' rule node spells' fault is' end') (verifies_good c spells good is end) =
        let P : List NodeV → Type 0 = λ x. Good d x in
        absurd (known.no_fault d c' rule node (subst P (known.of_one_certificate c c' text spells spells') good) fault)
    one_verifies {d} {text} (verifies_fault c rule node spells fault is end) (verifies_fault c' rule' node' spells' fault' is' end') =
        let P : List NodeV → Type 0 = λ x. FirstFault d x rule node in
        let same = known.one_fault d c' rule rule' node node' (subst P (known.of_one_certificate c c' text spells spells') fault) fault' in (
          is ∙ ap (λ r. line_of (codes "unproved") (r ∷ node ∷ [])) same.0 ∙ ap
              (λ n. line_of (codes "unproved") (rule' ∷ n ∷ [])) same.1 ∙ sym is',
          end ∙ sym end',
        )
    one_verifies (verifies_fault c rule node spells fault is end) (verifies_none none is' end') = absurd (none c spells)
    one_verifies (verifies_none none is' end') (verifies_good c spells good is end) = absurd (none c spells)
    one_verifies (verifies_none none is' end') (verifies_fault c rule node spells fault is end) = absurd (none c spells)
    one_verifies (verifies_none none is end) (verifies_none none' is' end') = (is ∙ sym is', end ∙ sym end')

    -- a rule has one description
    described_once :
        {file name text text' : List ℕ} {reading : Reading} {rules others : RulesV} {d other : DescV}
        → IsDescribed files file name text reading rules d
        → IsDescribed files file name text' reading others other
        → d ≡ other
    described_once {file} {name} {text} {text'} {reading} {rules} {others} {d} {other} is has =
        let P : List ℕ → Type 0 = λ t. HasRules t rules in
        let Q : RulesV → Type 0 = λ r. IsResolved r name reading d in
        one_desc (rules_along text' rules others (subst P (one_held is.held has.held) is.has_rules) has.has_rules Q is.resolved) has.resolved

    -- it has a description, or a line that says why not
    described_or_none :
        {file name text text' : List ℕ} {reading : Reading} {rules : RulesV} {d : DescV} {w : List ℕ} {e : Ended}
        → files file ≡ Some text → HasNoJob text name reading w e → (e ≡ NotCertified → ⊥)
        → IsDescribed files file name text' reading rules d → ⊥
    described_or_none {file} {name} {text} {text'} {reading} {rules} {d} {w} {e} held none other is =
        let P : List ℕ → Type 0 = λ t. HasNoJob t name reading w e in
        none_or_described (subst P (one_held held is.held) none) other is.fits is.has_rules is.resolved

    one_verify_ends : {file name certificate : List ℕ} {reading : Reading} (w v : List ℕ) (e f : Ended)
        → EndsVerify files file name reading certificate w e → EndsVerify files file name reading certificate v f
        → Written w e v f
    one_verify_ends {file} {name} {certificate} {reading} w v e f (no_description text held none other) (no_description text' held' none' other') =
        let P : List ℕ → Type 0 = λ t. HasNoJob t name reading w e in one_no_job text' name reading w v e f (subst P (one_held held held') none) none'
    one_verify_ends w v e f (no_description text held none other)
        (long_certificate text' bytes' rules' d' is' held' long' empty' end') =
        absurd (described_or_none held none other is')
    one_verify_ends w v e f (no_description text held none other)
        (verified text' bytes' line' rules' d' is' held' few' told' all') =
        absurd (described_or_none held none other is')
    one_verify_ends w v e f (long_certificate text' bytes' rules' d' is' held' long' empty' end')
        (no_description text held none other) = absurd (described_or_none held none other is')
    one_verify_ends w v e f (long_certificate text bytes rules d is held long empty end)
        (long_certificate text' bytes' rules' d' is' held' long' empty' end') = (empty ∙ sym empty', end ∙ sym end')
    one_verify_ends w v e f (long_certificate text bytes rules d is held long empty end)
        (verified text' bytes' line' rules' d' is' held' few' told' all') =
        absurd (omega (arith, long, few', ap length (one_held held held')))
    one_verify_ends w v e f (verified text' bytes' line' rules' d' is' held' few' told' all')
        (no_description text held none other) = absurd (described_or_none held none other is')
    one_verify_ends w v e f (verified text' bytes' line' rules' d' is' held' few' told' all')
        (long_certificate text bytes rules d is held long empty end) =
        absurd (omega (arith, long, few', ap length (one_held held held')))
    one_verify_ends w v e f (verified text bytes line rules d is held few told all) (verified text' bytes' line' rules' d' is' held' few' told' all') =
        let P : List ℕ → Type 0 = λ t. Verifies d t line e in
        let Q : DescV → Type 0 = λ x. Verifies x bytes' line e in
        let same = one_verifies (subst Q (described_once is is') (subst P (one_held held held') told)) told' in
        (all ∙ ap (λ l. l ++ 10 ∷ []) same.0 ∙ sym all', same.1)

    one_before : (w v : List ℕ) (e f : Ended) → EndsBefore words files w e → EndsBefore words files v f → Written w e v f
    one_before w v e f (no_job front rule behind compiles has none) (no_job front' rule' behind' compiles' has' none') =
        let same = one_first front front' rule rule' behind behind' w v e f (one_list_compiles words files _ _ compiles compiles') has has' none none' in
        one_no_job rule'.text rule'.name rule'.reading w v e f (subst (λ (r : RuleOf). HasNoJob r.text r.name r.reading w e) same none) none'
    one_before w v e f (no_job front rule behind compiles has none) (reported report file' name' text' reading' rules d row' held' fits compiled is end) =
        let all = checked_compiles (inl (report, row')) held' fits compiled in absurd (all_or_none front rule behind _ compiles all.0 all.1 none)
    one_before w v e f (reported report file' name' text' reading' rules d row' held' fits compiled is end) (no_job front rule behind compiles has none) =
        let all = checked_compiles (inl (report, row')) held' fits compiled in absurd (all_or_none front rule behind _ compiles all.0 all.1 none)
    one_before w v e f (reported report file name text reading rules d row held fits compiled is end)
        (reported report' file' name' text' reading' rules' d' row' held' fits' compiled' is' end') =
        let same = first_of
        (one_list_compiles words files _ _ (checked_compiles (inl (report, row)) held fits compiled).0
        (checked_compiles (inl (report', row')) held' fits' compiled').0) in
        let P : RuleOf → Type 0 = λ r. IsCompiled r.text r.name r.reading rules d in
        let one = one_compiled (subst P same compiled) compiled' in
        let kind = one_report report report' (one_rule row row').word_is in
        let Q : RuleReport → Type 0 = λ r. Reports r d w in
        let R : DescV → Type 0 = λ x. Reports report' x w in
        (one_told report' compiled' (subst R one (subst Q kind is)) is', end ∙ sym end')
    one_before w v e f (no_job front rule behind compiles has none) (soaked entry n rules d counts row fits compiled from is end) =
        let all = soaked_compiles row fits compiled in absurd (all_or_none front rule behind _ compiles all.0 all.1 none)
    one_before w v e f (soaked entry n rules d counts row fits compiled from is end) (no_job front rule behind compiles has none) =
        let all = soaked_compiles row fits compiled in absurd (all_or_none front rule behind _ compiles all.0 all.1 none)
    one_before w v e f (reported report file name text reading rules d row held fits compiled is end)
        (soaked entry n rules' d' counts row' fits' compiled' from is' end') =
        absurd (not_three (over (inl (report, row))) row'.words_are)
    one_before w v e f (soaked entry n rules' d' counts row' fits' compiled' from is' end')
        (reported report file name text reading rules d row held fits compiled is end) =
        absurd (not_three (over (inl (report, row))) row'.words_are)
    one_before w v e f (soaked entry n rules d counts row fits compiled from is end) (soaked entry' n' rules' d' counts' row' fits' compiled' from' is' end') =
        let same = one_soak row row' in
        let P : Entry → Type 0 = λ x. IsCompiled catalogue_text (entry_root x) Sent rules d in
        let one = one_compiled (subst P same.0 compiled) compiled' in
        let Q : Entry → Type 0 = λ x. IsSoaked d x n counts in
        let R : ℕ → Type 0 = λ m. IsSoaked d entry' m counts in
        let S : DescV → Type 0 = λ x. IsSoaked x entry' n' counts in
        let all = one_soaked (subst S one (subst R same.1 (subst Q same.0 from))) from' in
        (is ∙ ap (λ m. soaked_line m counts ++ 10 ∷ []) same.1 ∙ ap (λ s. soaked_line n' s ++ 10 ∷ []) all ∙ sym is', end ∙ sym end')
    one_before w v e f (no_job front rule behind compiles has none) (of_two before after name reading row ends) =
        absurd (pair_or_none front rule behind row compiles none ends)
    one_before w v e f (of_two before after name reading row ends) (no_job front rule behind compiles has none) =
        absurd (pair_or_none front rule behind row compiles none ends)
    one_before w v e f (reported report file name text reading rules d row held fits compiled is end)
        (of_two before' after' name' reading' row' ends) = absurd (not_five (over (inl (report, row))) row'.words_are)
    one_before w v e f (of_two before' after' name' reading' row' ends)
        (reported report file name text reading rules d row held fits compiled is end) =
        absurd (not_five (over (inl (report, row))) row'.words_are)
    one_before w v e f (soaked entry n rules d counts row fits compiled from is end)
        (of_two before' after' name' reading' row' ends) =
        absurd (omega (arith, ap length row.words_are, ap length row'.words_are))
    one_before w v e f (of_two before' after' name' reading' row' ends)
        (soaked entry n rules d counts row fits compiled from is end) =
        absurd (omega (arith, ap length row.words_are, ap length row'.words_are))
    one_before w v e f (of_two before after name reading row ends) (of_two before' after' name' reading' row' ends') =
        one_pair_ends w v e f (same_row (one_pair row row') (λ a b n r. EndsPair files b a n r w e) ends) ends'
    one_before w v e f (no_job front rule behind compiles has none)
        (of_certificate file name reading certificate row ends) = absurd (verify_compiles row compiles)
    one_before w v e f (of_certificate file name reading certificate row ends)
        (no_job front rule behind compiles has none) = absurd (verify_compiles row compiles)
    one_before w v e f (reported report file name text reading rules d row held fits compiled is end)
        (of_certificate file' name' reading' certificate row' ends) =
        absurd (not_five (over (inl (report, row))) row'.words_are)
    one_before w v e f (of_certificate file' name' reading' certificate row' ends)
        (reported report file name text reading rules d row held fits compiled is end) =
        absurd (not_five (over (inl (report, row))) row'.words_are)
    one_before w v e f (soaked entry n rules d counts row fits compiled from is end)
        (of_certificate file' name' reading' certificate row' ends) =
        absurd (omega (arith, ap length row.words_are, ap length row'.words_are))
    one_before w v e f (of_certificate file' name' reading' certificate row' ends)
        (soaked entry n rules d counts row fits compiled from is end) =
        absurd (omega (arith, ap length row.words_are, ap length row'.words_are))
    one_before w v e f (of_two before after name reading row ends) (of_certificate file' name' reading' certificate row' ends') = absurd (not_compat row row')
    one_before w v e f (of_certificate file' name' reading' certificate row' ends') (of_two before after name reading row ends) = absurd (not_compat row row')
    one_before w v e f (of_certificate file name reading certificate row ends) (of_certificate file' name' reading' certificate' row' ends') =
        one_verify_ends w v e f (same_row (one_verify row row') (λ c d n r. EndsVerify files d n r c w e) ends) ends'

    -- ---- which job the words ask for

    one_job : (watchers : List Watched) (job other : LineJob) → AsksFor words files watchers job → AsksFor words files watchers other → job ≡ other
    one_job watchers job other (asks_by_rule command file name text reading rules d row held fits compiled is)
        (asks_by_rule command' file' name' text' reading' rules' d' row' held' fits' compiled' is') =
        let here = first_of
        (one_list_compiles words files _ _ (checked_compiles (inr (command, row)) held fits compiled).0
        (checked_compiles (inr (command', row')) held' fits' compiled').0) in
        let P : RuleOf → Type 0 = λ r. HasRules r.text rules in
        let all : rules ≡ rules' = known.one_list text' rules rules' (subst P here compiled.has_rules) compiled'.has_rules in
        let same = one_rule row row' in
        is ∙ ap (λ c. by_rule c rules name reading) (one_command command command' same.word_is)
        ∙ ap (λ r. by_rule command' r name reading) all ∙ ap (λ n. by_rule command' rules' n reading) same.name_is
        ∙ ap (λ r. by_rule command' rules' name' r) same.reading_is ∙ sym is'
    one_job watchers job other (asks_by_rule command file name text reading rules d row held fits compiled is)
        (asks_migrate row' is') = absurd (not_migrate (answers command row) row')
    one_job watchers job other (asks_by_rule command file name text reading rules d row held fits compiled is)
        (asks_segments reading' rules' d' row' fits' compiled' is') = absurd (not_two (answers command row) row')
    one_job watchers job other (asks_migrate row' is')
        (asks_by_rule command file name text reading rules d row held fits compiled is) =
        absurd (not_migrate (answers command row) row')
    one_job watchers job other (asks_migrate row is) (asks_migrate row' is') = is ∙ sym is'
    one_job watchers job other (asks_migrate row is) (asks_segments reading' rules' d' row' fits' compiled' is') = absurd (migrate_alone row row')
    one_job watchers job other (asks_segments reading' rules' d' row' fits' compiled' is')
        (asks_by_rule command file name text reading rules d row held fits compiled is) =
        absurd (not_two (answers command row) row')
    one_job watchers job other (asks_segments reading' rules' d' row' fits' compiled' is') (asks_migrate row is) = absurd (migrate_alone row row')
    one_job watchers job other (asks_segments reading rules d row fits compiled is) (asks_segments reading' rules' d' row' fits' compiled' is') =
        let all : rules ≡ rules' = known.one_list catalogue_text rules rules' compiled.has_rules compiled'.has_rules in
        is ∙ ap (λ r. segmenting r reading) all ∙ ap (λ r. segmenting rules' r) (same_reading row row') ∙ sym is'
    one_job watchers job other (asks_by_rule command file name text reading rules d row held fits compiled is)
        (asks_replay reading' rules' plans' row' fits' compiled' is') = absurd (not_two (answers command row) row')
    one_job watchers job other (asks_migrate row is) (asks_replay reading' rules' plans' row' fits' compiled' is') = absurd (migrate_alone row row')
    one_job watchers job other (asks_segments reading rules d row fits compiled is)
        (asks_replay reading' rules' plans' row' fits' compiled' is') =
        absurd (not_segments_and_replay reading reading' row row')
    one_job watchers job other (asks_replay reading' rules' plans' row' fits' compiled' is')
        (asks_by_rule command file name text reading rules d row held fits compiled is) =
        absurd (not_two (answers command row) row')
    one_job watchers job other (asks_replay reading' rules' plans' row' fits' compiled' is') (asks_migrate row is) = absurd (migrate_alone row row')
    one_job watchers job other (asks_replay reading' rules' plans' row' fits' compiled' is')
        (asks_segments reading rules d row fits compiled is) =
        absurd (not_segments_and_replay reading reading' row row')
    one_job watchers job other (asks_replay reading rules plans row fits compiled is) (asks_replay reading' rules' plans' row' fits' compiled' is') =
        let all : rules ≡ rules' = known.one_list catalogue_text rules rules'
        (rules_compiled reading rules plans compiled) (rules_compiled reading' rules' plans' compiled') in
        is ∙ ap (λ r. replaying r reading watchers) all ∙ ap (λ r. replaying rules' r watchers) (same_reading row row') ∙ sym is'

    -- a run that has a job over lines has one for each rule that it compiles
    pub jobs_compile : {watchers : List Watched} (job : LineJob) (all : List RuleOf)
        → AsksFor words files watchers job → Compiles words files all → AllByRecursion HasJob all
    jobs_compile job all (asks_by_rule command file name text reading rules d row held fits compiled is) compiles =
        let here = checked_compiles (inr (command, row)) held fits compiled in
        subst (λ (l : List RuleOf). AllByRecursion HasJob l) (one_list_compiles words files _ all here.0 compiles) here.1
    jobs_compile job all (asks_migrate row is) (of_file file name text reading row' held is') = absurd (not_migrate (over row') row)
    jobs_compile job all (asks_migrate row is) (of_catalogue entries reading row' is') = absurd (migrate_no_entries row row')
    jobs_compile job all (asks_migrate row is) (of_pair before after name was now reading row' held has few small is')
        = absurd (omega (arith, ap length row, ap length row'.words_are))
    jobs_compile job all (asks_segments reading rules d row fits compiled is) compiles =
        let here : AllByRecursion HasJob (rule_of_entry reading Downlink ∷ []) = ((fits, rules, d, compiled), tt) in
        subst (λ (l : List RuleOf). AllByRecursion HasJob l)
        (one_list_compiles words files (rule_of_entry reading Downlink ∷ []) all
        (of_catalogue (Downlink ∷ []) reading (over_downlink row refl) refl) compiles) here
    jobs_compile job all (asks_replay reading rules plans row fits compiled is) compiles =
        subst (λ (l : List RuleOf). AllByRecursion HasJob l)
        (one_list_compiles words files (map (rule_of_entry reading) all_entries) all
        (of_catalogue all_entries reading (over_all row refl) refl) compiles)
        (all_have_jobs fits reading rules all_entries plans compiled)

    -- `compat` has no job over lines
    pub pair_no_job : {watchers : List Watched} {job : LineJob} {before after name : List ℕ} {reading : Reading}
        → IsCompat words before after name reading → AsksFor words files watchers job → ⊥
    pair_no_job row (asks_by_rule command file' name' text' reading' rules' d' row' held' fits' compiled' is') = not_five (answers command row') row.words_are
    pair_no_job row (asks_migrate row' is') = omega (arith, ap length row', ap length row.words_are)
    pair_no_job row (asks_segments reading' rules' d' row' fits' compiled' is') = omega (arith, ap length row', ap length row.words_are)
    pair_no_job row (asks_replay reading' rules' plans' row' fits' compiled' is') = omega (arith, ap length row', ap length row.words_are)

    -- nor has `verify`
    pub verify_no_job : {watchers : List Watched} {job : LineJob} {file name certificate : List ℕ} {reading : Reading}
        → IsVerify words file name reading certificate → AsksFor words files watchers job → ⊥
    verify_no_job row (asks_by_rule command file' name' text' reading' rules' d' row' held' fits' compiled' is') =
        not_five (answers command row') row.words_are
    verify_no_job row (asks_migrate row' is') = omega (arith, ap length row', ap length row.words_are)
    verify_no_job row (asks_segments reading' rules' d' row' fits' compiled' is') = omega (arith, ap length row', ap length row.words_are)
    verify_no_job row (asks_replay reading' rules' plans' row' fits' compiled' is') = omega (arith, ap length row', ap length row.words_are)

    -- a run that comes to no line has no job over lines
    pub before_or_job : {w : List ℕ} {e : Ended} {watchers : List Watched} (job : LineJob) → EndsBefore words files w e → AsksFor words files watchers job → ⊥
    before_or_job job (no_job front rule behind compiles has none) asked =
        job_or_none rule (holds_at front rule behind (jobs_compile job _ asked compiles)) none
    before_or_job job (reported report file name text reading rules d row held fits compiled is end)
        (asks_by_rule command file' name' text' reading' rules' d' row' held' fits' compiled' is') =
        not_both report command row row'
    before_or_job job (reported report file name text reading rules d row held fits compiled is end)
        (asks_migrate row' is') = not_migrate (over (inl (report, row))) row'
    before_or_job job (reported report file name text reading rules d row held fits compiled is end)
        (asks_segments reading' rules' d' row' fits' compiled' is') = not_two (over (inl (report, row))) row'
    before_or_job job (reported report file name text reading rules d row held fits compiled is end)
        (asks_replay reading' rules' plans' row' fits' compiled' is') = not_two (over (inl (report, row))) row'
    before_or_job job (soaked entry n rules d counts row fits compiled from is end)
        (asks_by_rule command file' name' text' reading' rules' d' row' held' fits' compiled' is') =
        not_three (answers command row') row.words_are
    before_or_job job (soaked entry n rules d counts row fits compiled from is end) (asks_migrate row' is') = migrate_not_three row' row.words_are
    before_or_job job (soaked entry n rules d counts row fits compiled from is end)
        (asks_segments reading' rules' d' row' fits' compiled' is') = two_not_three row' row.words_are
    before_or_job job (soaked entry n rules d counts row fits compiled from is end)
        (asks_replay reading' rules' plans' row' fits' compiled' is') = two_not_three row' row.words_are
    before_or_job job (of_two before after name reading row ends) asked = pair_no_job row asked
    before_or_job job (of_certificate file name reading certificate row ends) asked = verify_no_job row asked

pub one_result : KnownOfTexts → LinesHaveOneAnswer → RunsHaveOneResult
one_result known one_in_job words files watchers input w v e f (no_line before) (no_line before') = one_before known words files w v e f before before'
one_result known one_in_job words files watchers input w v e f (no_line before) (lines job asked a) = absurd (before_or_job known words files job before asked)
one_result known one_in_job words files watchers input w v e f (lines job asked a) (no_line before) = absurd (before_or_job known words files job before asked)
one_result known one_in_job words files watchers input w v e f (lines job asked a) (lines job' asked' b) =
    let same : job ≡ job' = one_job known words files watchers job job' asked asked' in
    one_input job' (one_in_job words files watchers job' asked') input w v e f (subst (λ (j : LineJob). AnswersInput j input w e) same a) b
