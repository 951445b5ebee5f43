use Rattle.std.proofs.Common.{◌≡◌, ℕ, ◌+◌, ◌-◌, ◌*◌, subst, arith}
use Rattle.csn_look.specs.KeySteps.{MarksStarts}
use Rattle.csn_look.proofs.Tables.StartsMade.{starts_none, starts_more}
use Rattle.csn_look.proofs.starts.mark_starts.Goals as goal

pub loop-at-init : goal.loop-at-init
loop-at-init c = record {
  some = omega arith;
  marked = starts_none c.args.marks.now;
}

pub loop-at-preserved : goal.loop-at-preserved
loop-at-preserved c =
    let at = c.loop-at.at - 1 in
    let P : ℕ → Type 0 = λ n. MarksStarts n c.args.marks.now c.loop-at.marks in
    let same : 64 * c.loop-at.at ≡ 64 * at + 64 = omega arith in
    record {
      some = omega arith;
      marked = starts_more c.args.marks.now c.loop-at.marks c.mark_start_words.new.marks (64 * at) (64 * at + 64) (omega arith) (omega arith) (omega arith)
          (subst P same c.loop-at.invariant.marked) c.mark_start_words.ensures;
    }

pub loop-place-init : goal.loop-place-init
loop-place-init c =
    let P : ℕ → Type 0 = λ n. MarksStarts n c.args.marks.now c.loop-at.marks in
    let some = c.loop-at.invariant.some in
    let same : 64 * c.loop-at.at ≡ 64 = omega arith in
    record {
      some = omega arith;
      marked = subst P same c.loop-at.invariant.marked;
    }

pub loop-place-preserved : goal.loop-place-preserved
loop-place-preserved c =
    let place = c.loop-place.place - 1 in
    let P : ℕ → Type 0 = λ n. MarksStarts n c.args.marks.now c.loop-place.marks in
    let same : c.loop-place.place ≡ place + 1 = omega arith in
    record {
      some = omega arith;
      marked = starts_more c.args.marks.now c.loop-place.marks c.mark_start.new.marks place (place + 1) (omega arith) (omega arith) (omega arith)
          (subst P same c.loop-place.invariant.marked) c.mark_start.ensures;
    }

pub returns : goal.returns
returns c =
    let P : ℕ → Type 0 = λ n. MarksStarts n c.args.marks.now c.loop-place.marks in
    let some = c.loop-place.invariant.some in
    let same : c.loop-place.place ≡ 1 = omega arith in
    subst P same c.loop-place.invariant.marked
