use Rattle.std.proofs.Common.{◌||◌, nat_eq, arith, sym, ap, ◌∙◌}
use Rattle.csn_look.specs.KeyMarks.{is_marked, key_mark}
use Rattle.csn_look.proofs.Tables.KeyMarkFacts.{raised_first, raised_next, raised_last, raised_enough}
use Rattle.csn_look.proofs.key_marks.add_key.Goals as goal

pub loop-at-init : goal.loop-at-init
loop-at-init c =
    (omega (arith, c.requires.some), omega (arith, c.requires.small), λ word is here. raised_first c.set_mark.new.marks word c.args.place here)

pub loop-at-preserved : goal.loop-at-preserved
loop-at-preserved c = (
  omega arith,
  omega arith,
  λ word is here. raised_next c.set_mark.new.marks c.loop-at.marks c.set_mark-in-loop-at.new.marks word c.loop-at.at
      is c.loop-at-test.true c.set_mark-in-loop-at.ensures (c.loop-at.invariant.2 word is here),
)

pub returns-then-is_marked : goal.returns-then-is_marked
returns-then-is_marked c = λ word is here.
    raised_enough c.args.marks.now c.set_mark.new.marks c.loop-at.marks word c.loop-at.at c.args.whole is
    (λ n. c.set_mark.ensures n ∙ ap (λ m. nat_eq n m || is_marked c.args.marks.now n) (c.key_mark.ensures ∙ ap (λ p. key_mark p c.args.whole) (sym here)))
    (c.loop-at.invariant.2 word is here) c.loop-at-test.true (sym c.is_marked.ensures ∙ c.if-is_marked.true)

pub returns : goal.returns
returns c = λ word is here.
    raised_last c.args.marks.now c.set_mark.new.marks c.loop-at.marks word c.loop-at.at c.args.whole is
    (λ n. c.set_mark.ensures n ∙ ap (λ m. nat_eq n m || is_marked c.args.marks.now n) (c.key_mark.ensures ∙ ap (λ p. key_mark p c.args.whole) (sym here)))
    (c.loop-at.invariant.2 word is here) (omega arith)
