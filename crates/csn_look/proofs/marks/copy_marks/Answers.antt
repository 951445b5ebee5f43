use Rattle.std.proofs.Common.{◌≡◌, ℕ, subst, arith}
use Rattle.csn_look.specs.KeySteps.{Copies}
use Rattle.csn_look.proofs.Tables.MarksCopied.{copied_none, copied_more}
use Rattle.csn_look.proofs.marks.copy_marks.Goals as goal

pub loop-done-init : goal.loop-done-init
loop-done-init c = record {
  within = omega arith;
  copied = copied_none c.args.marks.now c.args.others.now c.args.to c.args.from;
}

pub loop-done-preserved : goal.loop-done-preserved
loop-done-preserved c =
    let before = c.loop-done.invariant in
    let few = c.copy_run-done.ensures.few in
    record {
      within = omega arith;
      copied = copied_more c.args.marks.now c.loop-done.marks c.copy_run-done.new.marks c.args.others.now c.args.to
          c.args.from c.loop-done.done c.copy_run-done.result before.copied c.copy_run-done.ensures.copied;
    }

pub returns : goal.returns
returns c =
    let within = c.loop-done.invariant.within in
    let all : c.loop-done.done ≡ c.args.count = omega (arith, c.loop-done-test.false) in
    let P : ℕ → Type 0 = λ count. Copies c.args.marks.now c.loop-done.marks c.args.others.now c.args.to c.args.from count in
    subst P all c.loop-done.invariant.copied
