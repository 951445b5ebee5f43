-- The command line, as `clap` is told it.
use Rattle.std.specs.Prelude.{Some, true, codes}
use Rattle.clap.specs.Lexer.{usize_max}
use Rattle.clap.specs.Words.{App, Rule, new_app, new_rule, with_rule}
use Rattle.clap.specs.Simple.{on_top}

-- the word of a command, which must be there
abbrev pub command_rule : Rule
command_rule = record (new_rule (codes "command")) { required = true }

-- its arguments, of which there may be any number, or none
abbrev pub arguments_rule : Rule
arguments_rule = record (new_rule (codes "arguments")) { range = Some (record { start_inclusive = 0; end_inclusive = usize_max }) }

-- these two, and no name of the program in front of them
abbrev pub command_line : App
command_line = with_rule (with_rule (on_top (λ s. record s { no_binary_name = true }) (new_app (codes "csn_cli"))) command_rule) arguments_rule
