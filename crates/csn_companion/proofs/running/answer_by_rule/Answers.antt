use Rattle.std.proofs.Common.{ap, inl, inr, Err}
use Rattle.csn_lines.specs.declared.fault.Fault.TheVariants.{Read}
use Rattle.csn_lines.proofs.OutsideLemmas.{keeps_along, keeps_still}
use Rattle.csn_companion.proofs.running.answer_by_rule.Goals as goal

pub answer_by_plan-requires : goal.answer_by_plan-requires
answer_by_plan-requires g c = record { line = c.requires.line; unfailed = c.requires.unfailed }

pub returns-in-Ok : goal.returns-in-Ok
returns-in-Ok g c = record {
  finished = c.answer_by_plan.ensures.finished;
  read = λ e. inl (c.answer_by_plan.ensures.blames.read e);
  write = c.answer_by_plan.ensures.blames.write;
  shelf = keeps_along (λ e. cc) c.in-Ok.ensures.shelf;
  input = c.answer_by_plan.ensures.blames.input;
  out = c.answer_by_plan.ensures.blames.out;
}

pub returns-in-Err : goal.returns-in-Err
returns-in-Err g c = record {
  finished = c.refuse.ensures.finished;
  read = λ e. inr (c.in-Err.ensures.read (ap Err (c.refuse.ensures.read e)));
  write = λ e. absurd (c.in-Err.ensures.not_write (ap Err (c.refuse.ensures.write e)));
  shelf = keeps_along (λ e. c.refuse.ensures.file Read cc) c.in-Err.ensures.shelf;
  input = keeps_still;
  out = keeps_still;
}
