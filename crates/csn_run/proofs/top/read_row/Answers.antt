use Rattle.std.proofs.Common.{refl, arith}
use Rattle.std.proofs.lemmas.List.{length-map}
use Rattle.std.specs.String.{string_bytes}
use Rattle.csn_run.specs.Job.{ends_usage, ends_wanting}
use Rattle.csn_run.proofs.Arguments.{are_arguments}
use Rattle.csn_run.proofs.CommandLemmas.{no_row}
use Rattle.csn_run.proofs.top.read_row.Goals as goal

pub returns-then-is_none-clause-unread : goal.returns-then-is_none-clause-unread
returns-then-is_none-clause-unread c = ends_usage refl (λ row. no_row _ c.command_of.result c.command_of.ensures.row c.if-is_none.ensures row)

pub read_words-requires : goal.read_words-requires
read_words-requires c =
    record {
      some = grind (
        arith,
        (are_arguments (c.command_of.ensures.row.0 c.if-is_none.ensures)).0,
        length-map c.args.words.now string_bytes,
      );
      arguments =
          (are_arguments (c.command_of.ensures.row.0 c.if-is_none.ensures)).1;
    }

pub returns-in_default-clause-unread : goal.returns-in_default-clause-unread
returns-in_default-clause-unread c = ends_wanting refl (c.command_of.ensures.row.0 c.if-is_none.ensures)

pub returns : goal.returns
returns c = record { row = c.command_of.ensures.row.0 c.if-is_none.ensures; words = c.in-Ok.ensures.ok; unread = tt }
