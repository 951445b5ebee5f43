use Rattle.std.proofs.Common.{map, length, refl, ap, ◌∙◌, inr}
use Rattle.csn_plan.specs.Compiled.{rule_of_entry}
use Rattle.csn_run.specs.Job.{unread}
use Rattle.csn_lines.specs.Language.{of_plans}
use Rattle.csn_lines.specs.Work.{watching}
use Rattle.csn_lines.specs.Jobs.{replaying}
use Rattle.csn_run.proofs.JobLemmas.{replay_compiles, asked_replay, reason_ends, lines_end}
use Rattle.csn_run.proofs.JobParts.{streams_alone, streams_of_lines, text_no_read, text_no_write}
use Rattle.csn_run.proofs.Apart.{memory_alone}
use Rattle.csn_run.proofs.top.answer_replay.Goals as goal

pub refuse-requires : goal.refuse-requires
refuse-requires g c = c.requires.ready.pending

pub returns-in-Err : goal.returns-in-Err
returns-in-Err g c =
    let none = c.in-Err.ensures.none in
    let rule = rule_of_entry c.args.reading in
    record {
      ends = λ words files row. reason_ends words files _ (map rule none.0) (rule none.1) (map rule none.2)
          _ _ _ c.in-Err.reason _ (λ told e. replay_compiles words told c.args.reading none.0 none.1 none.2 row
          none.3) none.4 c.plans_of_entries.ensures.fits none.5 c.refuse.ensures;
      read = λ e. absurd (text_no_read c.in-Err.reason c.refuse.new.pending.items c.refuse.result c.refuse.ensures e);
      streams = streams_alone (text_no_write c.in-Err.reason c.refuse.new.pending.items c.refuse.result c.refuse.ensures);
    }

pub new-requires : goal.new-requires
new-requires g c = ap length c.deref.ensures.value ∙ c.in-Ok.ensures.count

pub returns-in_default : goal.returns-in_default
returns-in_default g c = record {
  ends = λ words files row. unread refl refl c.requires.ready.pending (inr refl);
  read = λ e. absurd (memory_alone e tt);
  streams = streams_alone (λ e. memory_alone e tt);
}

pub answer_captures-requires : goal.answer_captures-requires
answer_captures-requires g c = record { begin = c.in-Ok-new.ensures.reads; ready = c.requires.ready; unfailed = c.requires.unfailed }

pub returns-clause-ends : goal.returns-clause-ends
returns-clause-ends g c = λ words files row.
    let is = c.in-Ok.ensures.plans in
    let watched = map (λ b. (goal.Watcher-dyn g (b.vtable, b.value)).watched b.value) c.args.watchers.items in
    lines_end words files watched (replaying is.0 c.args.reading watched)
    _ _ _ _ _ _ _ (asked_replay words files watched c.args.reading is.0 c.in-Ok.plans.items row c.plans_of_entries.ensures.fits is.1)
    c.answer_captures.ensures.ok c.answer_captures.ensures.end c.answer_captures.ensures.err
    (record {
      does = (c.in-Ok.plans.items, is.1, ap (λ plans. watching (of_plans plans)) (c.in-Ok-new.ensures.descs ∙ c.deref.ensures.value));
      begins = record { bodies = tt; watchers = refl };
    })

pub returns-clause-read : goal.returns-clause-read
returns-clause-read g c = c.answer_captures.ensures.blames.read

pub returns-clause-streams : goal.returns-clause-streams
returns-clause-streams g c =
    let is = c.in-Ok.ensures.plans in
    streams_of_lines
    (λ words files row. (
      replaying is.0 c.args.reading _,
      asked_replay words files _ c.args.reading is.0
          c.in-Ok.plans.items row c.plans_of_entries.ensures.fits is.1,
    )) _ c.answer_captures.ensures.end
    c.answer_captures.ensures.blames
