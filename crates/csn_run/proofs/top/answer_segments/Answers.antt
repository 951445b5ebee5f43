use Rattle.std.proofs.Common.{[], refl}
use Rattle.csn_catalogue.specs.declared.entry.Entry.TheVariants.{Downlink}
use Rattle.csn_plan.specs.Compiled.{rule_of_entry}
use Rattle.csn_lines.specs.Jobs.{segmenting}
use Rattle.csn_run.proofs.JobLemmas.{segments_compile, asked_segments, reason_ends, lines_end}
use Rattle.csn_run.proofs.JobParts.{streams_alone, streams_of_lines, text_no_read, text_no_write}
use Rattle.csn_run.proofs.top.answer_segments.Goals as goal

pub refuse-requires : goal.refuse-requires
refuse-requires g c = c.requires.ready.pending

pub returns-in-Err : goal.returns-in-Err
returns-in-Err g c = record {
  ends = λ words files watchers row. reason_ends words files watchers [] (rule_of_entry c.args.reading Downlink)
      [] _ _ _ c.in-Err.reason _ (λ told e. segments_compile words told c.args.reading row)
      tt c.plan_of_entry.ensures.fits c.in-Err.ensures.none c.refuse.ensures;
  read = λ e. absurd (text_no_read c.in-Err.reason c.refuse.new.pending.items c.refuse.result c.refuse.ensures e);
  streams = streams_alone (text_no_write c.in-Err.reason c.refuse.new.pending.items c.refuse.result c.refuse.ensures);
}

pub answer_lines-requires-clause-ready : goal.answer_lines-requires-clause-ready
answer_lines-requires-clause-ready g c = c.requires.ready

pub returns-clause-ends : goal.returns-clause-ends
returns-clause-ends g c = λ words files watchers row.
    let is = c.in-Ok.ensures.plan in
    let ended = rw c.new-command.ensures.command at c.answer_lines.ensures.ok in
    let stopped = rw c.new-command.ensures.command at c.answer_lines.ensures.err in
    lines_end words files watchers (segmenting is.0 c.args.reading)
    _ _ _ _ _ _ _ (asked_segments words files watchers c.args.reading is.0 c.in-Ok.plan row
    c.plan_of_entry.ensures.fits is.1)
    ended c.answer_lines.ensures.end stopped
    (record { does = (c.in-Ok.plan, is.1, refl); begins = record { bodies = c.new.ensures; watchers = refl } })

pub returns-clause-read : goal.returns-clause-read
returns-clause-read g c = c.answer_lines.ensures.blames.read

pub returns-clause-streams : goal.returns-clause-streams
returns-clause-streams g c =
    let is = c.in-Ok.ensures.plan in
    streams_of_lines
    (λ words files watchers row. (
      segmenting is.0 c.args.reading,
      asked_segments words files watchers c.args.reading is.0 c.in-Ok.plan row
          c.plan_of_entry.ensures.fits is.1,
    )) _ c.answer_lines.ensures.end c.answer_lines.ensures.blames
