use Rattle.std.proofs.Common.{◌≡◌, true, map, ap, ◌∙◌, subst, refl}
use Rattle.std.specs.String.{string_bytes}
use Rattle.clap.specs.Words.{App, is_simple, subcommand_of, subcommand_rows_of}
use Rattle.clap.proofs.OnLiterals.{clap_on_literals}
use Rattle.csn_explain.specs.Words.{AsksFor, program}
use Rattle.csn_explain.proofs.words.read_words.Goals as goal

program_is_simple : is_simple program ≡ true
unfolding clap_on_literals
program_is_simple = refl

pub returns-in-Some : goal.returns-in-Some
returns-in-Some c =
    let texts = map string_bytes c.args.words.now in
    let is = c.in_ok-program.ensures in
    let found : subcommand_rows_of c.in_ok-matches.matches ≡ subcommand_of program texts =
    (c.in_ok-matches.ensures.ok.2 (ap is_simple is ∙ program_is_simple)).1 ∙ ap (λ (a : App). subcommand_of a texts) is in
    record { asked = subst (λ read. AsksFor read c.in-Some.asked) found c.in-Some.ensures }
