-- Rows of the command table that have the words of a rule in them, by a function that gives the bytes of each word.
use Rattle.std.proofs.Common.{◌≡◌, ◌⊎◌, ℕ, List, [], ◌∷◌, ◌++◌, length, map, codes, inl, inr, sym, ◌∙◌, ap, ap₂, subst}
use Rattle.std.proofs.lemmas.List.{map-append}
use Rattle.csn_desc.specs.declared.reading.Reading.{Reading}
use Rattle.csn_command.specs.declared.command.RuleCommand.{RuleCommand}
use Rattle.csn_command.specs.declared.command.RuleReport.{RuleReport}
use Rattle.csn_command.specs.Command.{IsArgument, IsCompat, IsOverRule, IsVerify, NamesRule, command_word, report_word, word_of}
use Rattle.csn_command.proofs.Words.{last_apart}

-- the words of a rule, and one more behind them
pub verify_row_of :
    {A : Type 0} {words : List A} {file name word : List ℕ} {reading : Reading} (text : A → List ℕ) (front : List A)
    (last : A) → words ≡ front ++ last ∷ [] → word ≡ text last
    → NamesRule (codes "verify") (map text front) file name reading → IsArgument word → IsVerify (map text words) file name reading word
verify_row_of {file = file} {name} {reading = reading} text front last is same rule fits = record {
  words_are = ap (map text) is ∙ map-append text front (last ∷ []) ∙ ap (λ l. l ++ text last ∷ []) rule.words_are
      ∙ ap (λ w. codes "verify" ∷ file ∷ name ∷ word_of reading ∷ w ∷ []) (sym same);
  file_fits = rule.file_fits;
  name_fits = rule.name_fits;
  certificate_fits = fits;
}

pub front_of_verify :
    {A : Type 0} {words : List A} {file name word : List ℕ} {reading : Reading} (text : A → List ℕ) (front : List A) (last : A) → words ≡ front ++ last ∷ []
    → IsVerify (map text words) file name reading word → NamesRule (codes "verify") (map text front) file name reading × (word ≡ text last)
front_of_verify {file = file} {name} {word} {reading} text front last is row =
    let all : map text front ++ text last ∷ [] ≡ (codes "verify" ∷ file ∷ name ∷ word_of reading ∷ []) ++ word ∷ [] =
    sym (ap (map text) is ∙ map-append text front (last ∷ [])) ∙ row.words_are in
    let both = last_apart (map text front) (codes "verify" ∷ file ∷ name ∷ word_of reading ∷ []) (text last) word all in
    (record { words_are = both.0; file_fits = row.file_fits; name_fits = row.name_fits }, sym both.1)

-- a word, and behind it the words of a rule, with a file in place of a command
pub compat_row_of :
    {A : Type 0} {words behind : List A} {first : A} {before after name : List ℕ} {reading : Reading}
    (text : A → List ℕ) → words ≡ first ∷ behind → text first ≡ codes "compat"
    → NamesRule before (map text behind) after name reading → IsArgument before → IsCompat (map text words) before after name reading
compat_row_of text is named rule fits = record {
  words_are = ap (map text) is ∙ ap₂ (λ w ws. w ∷ ws) named rule.words_are;
  before_fits = fits;
  after_fits = rule.file_fits;
  name_fits = rule.name_fits;
}

pub behind_compat :
    {A : Type 0} {words behind rest : List A} {first second : A} {word before after name : List ℕ} {reading : Reading} (text : A → List ℕ)
    → words ≡ first ∷ behind → behind ≡ second ∷ rest → word ≡ text second → IsCompat (map text words) before after name reading
    → (text first ≡ codes "compat") × (word ≡ before) × NamesRule word (map text behind) after name reading
behind_compat {rest = rest} {first} {second} {word} {before} {after} {name} {reading} text is next same row =
    let all : text first ∷ text second ∷ map text rest ≡ codes "compat" ∷ before ∷ after ∷ name ∷ word_of reading
    ∷ [] = sym (ap (map text) (is ∙ ap (λ l. first ∷ l) next)) ∙ row.words_are in
    let behind : text second ∷ map text rest ≡ word ∷ after ∷ name ∷ word_of reading ∷ [] = cc (all, same) in
    (cc (all), cc (all, same), record { words_are = ap (map text) next ∙ behind; file_fits = row.after_fits; name_fits = row.name_fits })

-- words over a rule are four, and are those of the command that is their first word
pub four_words : {words : List (List ℕ)} {file name : List ℕ} {reading : Reading} → IsOverRule words file name reading → length words ≡ 4
four_words (inl (report, row)) = ap length row.words_are
four_words (inr (command, row)) = ap length row.words_are

first_is :
    {A : Type 0} {words rest : List A} {first : A} {word command file name : List ℕ} {reading : Reading} (text : A → List ℕ)
    → words ≡ first ∷ rest → word ≡ text first → NamesRule command (map text words) file name reading → command ≡ word
first_is {rest = rest} {first} {word} {command} {file} {name} {reading} text is same row =
    let all : text first ∷ map text rest ≡ command ∷ file ∷ name ∷ word_of reading ∷ [] = sym (ap (map text) is) ∙ row.words_are in
    cc (all, same)

pub by_first :
    {A : Type 0} {words rest : List A} {first : A} {word file name : List ℕ} {reading : Reading} (text : A → List ℕ)
    → words ≡ first ∷ rest → word ≡ text first → IsOverRule (map text words) file name reading
    → NamesRule word (map text words) file name reading × (((report : RuleReport) × (word ≡ report_word report))
    ⊎ ((command : RuleCommand) × (word ≡ command_word command)))
by_first {words = words} {file = file} {name} {reading} text is same (inl (report, row)) =
    let command = first_is text is same row in
    (subst (λ (w : List ℕ). NamesRule w (map text words) file name reading) command row, inl (report, sym command))
by_first {words = words} {file = file} {name} {reading} text is same (inr (answer, row)) =
    let command = first_is text is same row in
    (subst (λ (w : List ℕ). NamesRule w (map text words) file name reading) command row, inr (answer, sym command))
