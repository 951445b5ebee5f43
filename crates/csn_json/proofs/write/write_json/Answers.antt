use Rattle.std.proofs.Common.{◌≡◌, Some, ap, ◌∙◌, refl, arith}
use Rattle.serde_json.specs.Data.{depth}
use Rattle.serde_json.specs.Written.{has_float, compact_text}
use Rattle.csn_json.specs.JsonTree.{json_of}
use Rattle.csn_json.proofs.Writing.{is_shallow, no_float}
use Rattle.csn_json.proofs.write.write_json.Goals as goal

pub returns-clause-text : goal.returns-clause-text
returns-clause-text c =
    let same = c.in_ok-value.ensures.value in
    record {
      fits = c.requires;
      parts = c.in_ok-value.ensures.parts;
      spelled = c.in_ok-to_vec.ensures.text (ap has_float same ∙ no_float c.args.tree.now) ∙ ap compact_text same;
    }

pub returns-clause-shows : goal.returns-clause-shows
returns-clause-shows c =
    let same = c.in_ok-value.ensures.value in (
      json_of c.args.tree.now,
      record {
        utf8 = c.in_ok-to_vec.ensures.utf8;
        reads = c.in_ok-to_vec.ensures.reads_back (omega (arith, ap depth same, is_shallow c.args.tree.now c.requires)) ∙ ap Some same;
      },
      record { fits = c.requires; parts = c.in_ok-value.ensures.parts; shown = refl },
    )
