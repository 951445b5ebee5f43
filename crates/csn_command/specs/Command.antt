-- The command table. It is this project's own choice.
use Rattle.std.specs.Prelude.{◌≡◌, ◌≢◌, ◌<◌, ◌≤◌, ◌⊎◌, ℕ, List, [], ◌∷◌, ◌++◌, codes}
use Rattle.std.specs.Fmt.{decimal}
use Rattle.csn_catalogue.specs.declared.entry.Entry.{Entry}
use Rattle.csn_catalogue.specs.declared.entry.Entry.TheVariants.{Downlink}
use Rattle.csn_catalogue.specs.Entries.{entry_word, all_entries}
use Rattle.csn_desc.specs.declared.reading.Reading.{Reading}
use Rattle.csn_desc.specs.declared.reading.Reading.TheVariants.{Received, Sent}
use Rattle.csn_soak.specs.declared.soaking.TheConstants.{MOST_BLOCKS}
use Rattle.csn_command.specs.declared.command.RuleWords.{RuleWords}
use Rattle.csn_json.specs.declared.form.TreeForm.TheVariants.{Text, Json}
use Rattle.csn_command.specs.declared.command.RuleCommand.{RuleCommand}
use Rattle.csn_command.specs.declared.command.RuleCommand.TheVariants.{Show, Write}
use Rattle.csn_command.specs.declared.command.RuleReport.{RuleReport}
use Rattle.csn_command.specs.declared.command.RuleReport.TheVariants.{Check, Certificate}
use Rattle.csn_command.specs.declared.command.Command.{Command}
use Rattle.csn_command.specs.declared.command.Command.TheVariants.{Report, Answer, Migrate, Segments, Soak, Replay, Compat, Verify}

-- a word that can be an argument: it is not empty, and does not begin with `-`
abbrev pub IsArgument : List ℕ → Type 0
IsArgument [] = ⊥
IsArgument (c ∷ _) = c ≢ 45

-- the word that names a reading
abbrev pub word_of : Reading → List ℕ
word_of Received = codes "received"
word_of Sent = codes "sent"

-- the words are `COMMAND FILE NAME READING`
pub record NamesRule (command : List ℕ) (words : List (List ℕ)) (file name : List ℕ) (reading : Reading) : Type 0 where
  pub words_are : words ≡ command ∷ file ∷ name ∷ word_of reading ∷ []
  pub file_fits : IsArgument file
  pub name_fits : IsArgument name

-- the word of a command that reports on a rule
abbrev pub report_word : RuleReport → List ℕ
report_word Check = codes "check"
report_word Certificate = codes "certificate"

-- `check FILE NAME READING`, and `certificate` with the same words behind it
abbrev pub IsReport : RuleReport → List (List ℕ) → List ℕ → List ℕ → Reading → Type 0
IsReport report = NamesRule (report_word report)

-- the word of a command that answers lines by a rule
abbrev pub command_word : RuleCommand → List ℕ
command_word (Show Text) = codes "show"
command_word (Show Json) = codes "json"
command_word (Write Text) = codes "write"
command_word (Write Json) = codes "unjson"

-- `show FILE NAME READING`, and `json`, `write` and `unjson` with the same words behind them
abbrev pub IsAnswer : RuleCommand → List (List ℕ) → List ℕ → List ℕ → Reading → Type 0
IsAnswer command = NamesRule (command_word command)

-- `migrate`
abbrev pub IsMigrate : List (List ℕ) → Type 0
IsMigrate words = words ≡ codes "migrate" ∷ []

-- the words are `COMMAND READING`
abbrev pub NamesReading : List ℕ → List (List ℕ) → Reading → Type 0
NamesReading command words reading = words ≡ command ∷ word_of reading ∷ []

-- `segments READING`
abbrev pub IsSegments : List (List ℕ) → Reading → Type 0
IsSegments = NamesReading (codes "segments")

-- `replay READING`
abbrev pub IsReplay : List (List ℕ) → Reading → Type 0
IsReplay = NamesReading (codes "replay")

-- `soak ENTRY N`
pub record IsSoak (words : List (List ℕ)) (entry : Entry) (n : ℕ) : Type 0 where
  pub words_are : words ≡ codes "soak" ∷ entry_word entry ∷ decimal n ∷ []
  pub some : 0 < n
  pub few : n ≤ MOST_BLOCKS

-- `compat OLD NEW NAME READING`
pub record IsCompat (words : List (List ℕ)) (before after name : List ℕ) (reading : Reading) : Type 0 where
  pub words_are : words ≡ codes "compat" ∷ before ∷ after ∷ name ∷ word_of reading ∷ []
  pub before_fits : IsArgument before
  pub after_fits : IsArgument after
  pub name_fits : IsArgument name

-- `verify FILE NAME READING CERT`
pub record IsVerify (words : List (List ℕ)) (file name : List ℕ) (reading : Reading) (certificate : List ℕ) : Type 0 where
  pub words_are : words ≡ codes "verify" ∷ file ∷ name ∷ word_of reading ∷ certificate ∷ []
  pub file_fits : IsArgument file
  pub name_fits : IsArgument name
  pub certificate_fits : IsArgument certificate

-- the words are a command over this rule of the description in this file
abbrev pub IsOverRule : List (List ℕ) → List ℕ → List ℕ → Reading → Type 0
IsOverRule words file name reading =
    ((report : RuleReport) × IsReport report words file name reading)
    ⊎ ((command : RuleCommand) × IsAnswer command words file name reading)

-- the words are a command over the rules of these entries of the catalogue, in their order
pub data IsOverEntries (words : List (List ℕ)) (entries : List Entry) (reading : Reading) : Type 0 where
  over_downlink : IsSegments words reading → entries ≡ Downlink ∷ [] → IsOverEntries words entries reading
  over_soaked : (entry : Entry) (n : ℕ) → IsSoak words entry n → entries ≡ entry ∷ [] → reading ≡ Sent → IsOverEntries words entries reading
  over_all : IsReplay words reading → entries ≡ all_entries → IsOverEntries words entries reading

-- the words are a row of the command table
pub data IsCommand (words : List (List ℕ)) : Type 0 where
  rule_row : (file name : List ℕ) (reading : Reading) → IsOverRule words file name reading → IsCommand words
  entries_row : (entries : List Entry) (reading : Reading) → IsOverEntries words entries reading → IsCommand words
  migrate_row : IsMigrate words → IsCommand words
  compat_row : (before after name : List ℕ) (reading : Reading) → IsCompat words before after name reading → IsCommand words
  verify_row : (file name : List ℕ) (reading : Reading) (certificate : List ℕ) → IsVerify words file name reading certificate → IsCommand words

-- the words are a command that leaves the input alone
pub data LeavesInput (words : List (List ℕ)) : Type 0 where
  leaves_report : (report : RuleReport) (file name : List ℕ) (reading : Reading) → IsReport report words file name reading
      → LeavesInput words
  leaves_soak : (entry : Entry) (n : ℕ) → IsSoak words entry n → LeavesInput words
  leaves_compat : (before after name : List ℕ) (reading : Reading) → IsCompat words before after name reading → LeavesInput words
  leaves_verify : (file name : List ℕ) (reading : Reading) (certificate : List ℕ) → IsVerify words file name reading certificate → LeavesInput words

-- all other commands read its lines
abbrev pub ReadsLines : List (List ℕ) → Type 0
ReadsLines words = ¬ LeavesInput words

-- the words name these files, which a run asks for in this order
pub data NamesFiles (words : List (List ℕ)) (files : List (List ℕ)) : Type 0 where
  names_one : (file name : List ℕ) (reading : Reading) → IsOverRule words file name reading → files ≡ file ∷ []
      → NamesFiles words files
  names_pair : (before after name : List ℕ) (reading : Reading) → IsCompat words before after name reading
      → files ≡ before ∷ after ∷ [] → NamesFiles words files
  names_certificate : (file name : List ℕ) (reading : Reading) (certificate : List ℕ) → IsVerify words file name reading certificate
      → files ≡ file ∷ certificate ∷ [] → NamesFiles words files

-- the words name a file
abbrev pub NamesFile : List (List ℕ) → List ℕ → Type 0
NamesFile words file = (front : List (List ℕ)) × (behind : List (List ℕ)) × NamesFiles words (front ++ file ∷ behind)

-- the words are `COMMAND` and those that name this rule
abbrev pub AreRuleWords : List ℕ → List (List ℕ) → RuleWords → Type 0
AreRuleWords command words rule = NamesRule command words rule.file.now rule.name.now rule.reading

-- the words are the row of the command table that this command stands for
abbrev pub IsRowOf : List (List ℕ) → Command → Type 0
IsRowOf words (Report report rule) = AreRuleWords (report_word report) words rule
IsRowOf words (Answer command rule) = AreRuleWords (command_word command) words rule
IsRowOf words Migrate = IsMigrate words
IsRowOf words (Segments reading) = IsSegments words reading
IsRowOf words (Replay reading) = IsReplay words reading
IsRowOf words (Soak entry blocks) = IsSoak words entry blocks
IsRowOf words (Compat pair) = IsCompat words pair.before.now pair.after.now pair.name.now pair.reading
IsRowOf words (Verify rule certificate) = IsVerify words rule.file.now rule.name.now rule.reading certificate.now
