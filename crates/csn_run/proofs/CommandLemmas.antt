-- Words, and the rows of the command table.
use Rattle.std.proofs.Common.{◌≡◌, ◌↔◌, ◌≤◌, inl, ℕ, List, [], ◌∷◌, ◌++◌, length, Option, Some, None, IsSome, is_some}
use Rattle.std.proofs.Common.{false, true≢false, refl, sym, ◌∙◌, ap, subst, arith, map, Bor}
use Rattle.csn_desc.specs.declared.reading.Reading.{Reading}
use Rattle.csn_command.specs.declared.command.RuleCommand.{RuleCommand}
use Rattle.csn_command.specs.Command.{IsCommand, IsRowOf, IsOverRule, IsAnswer, IsMigrate, IsCompat, IsVerify}
use Rattle.csn_command.specs.Command.{NamesFile, NamesFiles, names_one, names_pair, names_certificate, rule_row}
use Rattle.csn_command.specs.Command.{compat_row, verify_row, ReadsLines, leaves_report, leaves_soak, leaves_compat}
use Rattle.csn_command.specs.Command.{leaves_verify}
use Rattle.csn_command.specs.declared.command.Command.{Command}
use Rattle.csn_run.specs.Job.{ComesTo}
use Rattle.csn_run.specs.Outside.{NamesSome}
use Rattle.csn_run.specs.Ran.{LacksOne}
use Rattle.csn_run.specs.Result.{comes_first, comes_second, comes_certificate}
use Rattle.csn_run.proofs.OneResult.{one_rule, one_pair, one_verify, not_compat, over, answers, not_both, not_migrate}
use Rattle.csn_run.proofs.OneResult.{migrate_not_three, not_two, not_three, not_five, two_not_three}

-- words that no command stands for are no row
pub no_row : (words : List (List ℕ)) (command : Option Command) → (IsSome command ↔ IsCommand words) → is_some command ≡ false → IsCommand words → ⊥
no_row words command row none is = true≢false (sym (row.1 is) ∙ none)

-- the words of a row as they were read: they are the row of the command that they stand for, and the words of a row
pub row_read :
    {given read : List (Bor (List ℕ))} {words : List (List ℕ)} (command : Command)
    → given ≡ read → map (λ w. w.now) read ≡ words → IsRowOf (map (λ w. w.now) given) command
    → IsRowOf words command
row_read {given} {read} {words} command is back row = subst (λ ws. IsRowOf ws command) (ap (map (λ w. w.now)) is ∙ back) row

pub command_read : {given read : List (Bor (List ℕ))} {words : List (List ℕ)}
    → given ≡ read → map (λ w. w.now) read ≡ words → IsCommand words → IsCommand (map (λ w. w.now) given)
command_read {given} {read} {words} is back row = subst IsCommand (sym (ap (map (λ w. w.now)) is ∙ back)) row

-- words that name a rule name its file alone
pub one_file : {words : List (List ℕ)} {file name : List ℕ} {reading : Reading} {files : List (List ℕ)}
    → IsOverRule words file name reading → NamesFiles words files → files ≡ file ∷ []
one_file row (names_one other name reading row' is) = is ∙ ap (λ f. f ∷ []) (sym (one_rule (over row).row (over row').row).file_is)
one_file row (names_pair before after name reading row' is) = absurd (not_five (over row) row'.words_are)
one_file row (names_certificate file name reading certificate row' is) = absurd (not_five (over row) row'.words_are)

-- and those of `compat` name both files
pub two_files : {words : List (List ℕ)} {before after name : List ℕ} {reading : Reading} {files : List (List ℕ)}
    → IsCompat words before after name reading → NamesFiles words files → files ≡ before ∷ after ∷ []
two_files row (names_one file name reading row' is) = absurd (not_five (over row') row.words_are)
two_files {before = before} {after} row (names_pair before' after' name reading row' is) =
    let same = one_pair row row' in is ∙ ap (λ b. b ∷ after' ∷ []) (sym same.file_is) ∙ ap (λ a. before ∷ a ∷ []) (sym same.word_is)
two_files row (names_certificate file name reading certificate row' is) = absurd (not_compat row row')

-- those of `verify` name the description and the certificate
pub verify_files : {words : List (List ℕ)} {file name certificate : List ℕ} {reading : Reading}
    {files : List (List ℕ)} → IsVerify words file name reading certificate → NamesFiles words files
    → files ≡ file ∷ certificate ∷ []
verify_files row (names_one file name reading row' is) = absurd (not_five (over row') row.words_are)
verify_files row (names_pair before after name reading row' is) = absurd (not_compat row' row)
verify_files {file = file} {certificate = certificate} row (names_certificate file' name' reading' certificate' row' is) =
    let same = one_verify row row' in is ∙ ap (λ f. f ∷ certificate' ∷ []) (sym same.file_is) ∙ ap (λ c. file ∷ c ∷ []) (sym same.word_is)

-- words that name files are four or more, and are a row
names_long : {words : List (List ℕ)} {files : List (List ℕ)} → NamesFiles words files → 4 ≤ length words
names_long (names_one file name reading row is) = omega (arith, ap length (over row).row.words_are)
names_long (names_pair before after name reading row is) = omega (arith, ap length row.words_are)
names_long (names_certificate file name reading certificate row is) = omega (arith, ap length row.words_are)

pub no_files : {words : List (List ℕ)} {files : List (List ℕ)} → length words ≤ 3 → NamesFiles words files → ⊥
no_files few names = omega (arith, few, names_long names)

pub row_named : {words : List (List ℕ)} {files : List (List ℕ)} → NamesFiles words files → IsCommand words
row_named (names_one file name reading row is) = rule_row file name reading row
row_named (names_pair before after name reading row is) = compat_row before after name reading row
row_named (names_certificate file name reading certificate row is) = verify_row file name reading certificate row

-- the words of `compat` and of `verify` name files
pub pair_named : {words : List (List ℕ)} {before after name : List ℕ} {reading : Reading} → IsCompat words before after name reading → NamesFile words before
pair_named {before = before} {after} {name} {reading} row = ([], after ∷ [], names_pair before after name reading row refl)

pub verify_named : {words : List (List ℕ)} {file name certificate : List ℕ} {reading : Reading}
    → IsVerify words file name reading certificate → NamesFile words file
verify_named {file = file} {name} {certificate} {reading} row = ([], certificate ∷ [], names_certificate file name reading certificate row refl)

-- words that name a file are a row
pub row_some : {words : List (List ℕ)} → NamesSome words → IsCommand words
row_some (file, named) = row_named named.2

-- a file that the run comes to is one that the words name
pub comes_named : {words : List (List ℕ)} {file : List ℕ} (files : Option (List ℕ → Option (List ℕ))) → ComesTo words files file → NamesFile words file
comes_named None named = named
comes_named (Some files) (comes_first behind names) = ([], behind, names)
comes_named (Some files) (comes_second before name text reading row held fits) = (before ∷ [], [], names_pair before _ name reading row refl)
comes_named (Some files) (comes_certificate description name text reading rules d row described) =
    (description ∷ [], [], names_certificate description name reading _ row refl)

-- words that come to a file that is not held are a row
pub row_lacks : {words : List (List ℕ)} (told : Option (List ℕ → Option (List ℕ))) → LacksOne words told → IsCommand words
row_lacks told (file, comes, lacks) = row_named (comes_named told comes).2

-- the one file that words name is what the run comes to
pub one_comes : {words : List (List ℕ)} {file name other : List ℕ} {reading : Reading}
    (files : Option (List ℕ → Option (List ℕ))) → IsOverRule words file name reading → ComesTo words files other
    → other ≡ file
one_comes {file = file} {other = other} files row comes = let named = comes_named files comes in go named.0 named.1 (one_file row named.2)
  where
    go : (front behind : List (List ℕ)) → front ++ other ∷ behind ≡ file ∷ [] → other ≡ file
    go [] behind e = cc
    go (x ∷ []) behind e = cc
    go (x ∷ y ∷ front) behind e = cc

-- and the run comes to it
pub comes_to_one : {words : List (List ℕ)} {file name : List ℕ} {reading : Reading}
    (files : Option (List ℕ → Option (List ℕ))) → IsOverRule words file name reading → ComesTo words files file
comes_to_one {file = file} {name} {reading} None row = ([], [], names_one file name reading row refl)
comes_to_one {file = file} {name} {reading} (Some files) row = comes_first [] (names_one file name reading row refl)

pub answer_reads : {words : List (List ℕ)} {file name : List ℕ} {reading : Reading} (command : RuleCommand)
    → IsAnswer command words file name reading → ReadsLines words
answer_reads command row (leaves_report report file name reading reports) = not_both report command reports row
answer_reads command row (leaves_soak entry n soak) = not_three (answers command row) soak.words_are
answer_reads command row (leaves_compat before after name reading compat) = not_five (answers command row) compat.words_are
answer_reads command row (leaves_verify file name reading certificate verify) = not_five (answers command row) verify.words_are

pub migrate_reads : {words : List (List ℕ)} → IsMigrate words → ReadsLines words
migrate_reads is (leaves_report report file name reading reports) = not_migrate (over (inl (report, reports))) is
migrate_reads is (leaves_soak entry n soak) = migrate_not_three is soak.words_are
migrate_reads is (leaves_compat before after name reading compat) = omega (arith, ap length is, ap length compat.words_are)
migrate_reads is (leaves_verify file name reading certificate verify) = omega (arith, ap length is, ap length verify.words_are)

-- words of two read lines
pub two_read : {words : List (List ℕ)} {first second : List ℕ} → words ≡ first ∷ second ∷ [] → ReadsLines words
two_read is (leaves_report report file name reading reports) = not_two (over (inl (report, reports))) is
two_read is (leaves_soak entry n soak) = two_not_three is soak.words_are
two_read is (leaves_compat before after name reading compat) = omega (arith, ap length is, ap length compat.words_are)
two_read is (leaves_verify file name reading certificate verify) = omega (arith, ap length is, ap length verify.words_are)

-- words of three or fewer come to no file
pub comes_to_none : (words : List (List ℕ)) (file : List ℕ) (files : Option (List ℕ → Option (List ℕ))) → length words ≤ 3 → ComesTo words files file → ⊥
comes_to_none words file files few comes = no_files few (comes_named files comes).2
