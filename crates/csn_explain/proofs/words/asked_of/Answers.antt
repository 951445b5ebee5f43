use Rattle.std.proofs.Common.{Some, sym, ap, ◌∙◌, codes}
use Rattle.clap.specs.Words.{found_of}
use Rattle.clap.proofs.WalkLemmas.{first_value-rows}
use Rattle.csn_explain.proofs.words.asked_of.Goals as goal

pub returns : goal.returns
returns c =
    let found = found_of c.args.arguments.now in (
      c.in_ok-job_by.ensures,
      sym (c.in_ok-get_str.ensures ∙ first_value-rows found (codes "FILE")),
      sym (c.in_ok-get_str-2.ensures ∙ first_value-rows found (codes "NAME")),
      sym (c.in_ok-get_str-3.ensures ∙ first_value-rows found (codes "READING")) ∙ ap Some c.in_ok-reading_of.ensures.named,
    )
