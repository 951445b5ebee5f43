use Rattle.std.proofs.Common.{rules, true, ◌≡◌, ◌∙◌, ◌++◌, List, ℕ, map, ap, ap₂, codes, arith, refl, Bor}
use Rattle.std.proofs.lemmas.List.{length-map, map-append}
use Rattle.std.specs.String.{string_bytes}
use Rattle.clap.specs.Words.{App, app_of, takes, is_simple, rows_of, found_of, matches_of}
use Rattle.csn_command.specs.CommandLine.{command_line}
use Rattle.clap.proofs.WalkLemmas.{raw_values-rows}
use Rattle.clap.proofs.TakesLemmas.{passed_up}
use Rattle.csn_command.proofs.ReadWords.{words_back, all_taken, texts_of}
use Rattle.csn_command.proofs.command_line.read_words.Goals as goal

pub returns-in_err-matches-clause-err : goal.returns-in_err-matches-clause-err
returns-in_err-matches-clause-err c =
    let long = length-map c.args.words.now string_bytes in
    let all = all_taken (map string_bytes c.args.words.now) c.requires.arguments
    (omega (arith, long, c.requires.some))
    (omega (arith, long, c.in_ok-read.ensures.capacity, c.in_ok-read.read.small)) in
    let taken : takes (app_of c.in_ok-line_of.field-0) (map string_bytes c.args.words.now) ≡ true =
    ap (λ (a : App). takes a (map string_bytes c.args.words.now)) c.in_ok-line_of.ensures ∙ all in
    passed_up _ c.in_err-matches.field-0.0 _ c.from_residual-in_err-matches.ensures.1 (c.in_err-matches.ensures.passes taken)

pub returns-clause-ok : goal.returns-clause-ok
returns-clause-ok c =
    let long = length-map c.args.words.now string_bytes in
    let found : rows_of (found_of c.in_ok-matches.matches) ≡ matches_of command_line
    (map string_bytes c.args.words.now) =
    (c.in_ok-matches.ensures.matches (ap is_simple c.in_ok-line_of.ensures)).0
    ∙ ap (λ a. matches_of a (map string_bytes c.args.words.now)) c.in_ok-line_of.ensures in
    let back = words_back _ c.requires.arguments (omega (arith, long, c.requires.some)) _ found in
    let first = c.get_strs.ensures ∙ raw_values-rows (found_of c.in_ok-matches.matches) (codes "command") in
    let more = c.get_strs-2.ensures ∙ raw_values-rows (found_of c.in_ok-matches.matches) (codes "arguments") in
    let items : c.extend_from_slice-2.new.self.items ≡ c.unwrap_or.result.now ++ c.unwrap_or-2.result.now = search rules in
    ap (map (λ w. w.now)) items ∙ map-append (λ w. w.now) c.unwrap_or.result.now c.unwrap_or-2.result.now ∙ ap₂ (λ a b. a ++ b)
    (ap (λ (s : Bor (List (Bor (List ℕ)))). map (λ w. w.now) s.now) c.unwrap_or.ensures ∙ texts_of (λ w. w.now) _ _ _ refl first)
    (ap (λ (s : Bor (List (Bor (List ℕ)))). map (λ w. w.now) s.now) c.unwrap_or-2.ensures ∙ texts_of (λ w. w.now) _ _ _ refl more)
    ∙ back
