use Rattle.std.proofs.Common.{arith, refl, sym, ◌∙◌}
use Rattle.csn_look.proofs.Tables.KeyMarkFacts.{searched_next, found, searched_last}
use Rattle.csn_look.proofs.key_marks.begins_with_key.Goals as goal

pub loop-at-preserved : goal.loop-at-preserved
loop-at-preserved c = (
  omega arith,
  omega arith,
  λ word is here. searched_next c.args.marks.now word c.loop-at.at is c.loop-at-test.true
      (sym c.is_key.ensures ∙ c.if-is_key.false) (c.loop-at.invariant.2 word is here),
)

pub returns-then-is_key : goal.returns-then-is_key
returns-then-is_key c =
    λ word is here. (
      λ yes. found c.args.marks.now word c.loop-at.at (sym c.is_key.ensures ∙ c.if-is_key.true)
          (c.loop-at.invariant.2 word is here),
      λ h. refl,
    )

pub returns : goal.returns
returns c = λ word is here. searched_last c.args.marks.now word c.loop-at.at c.is_key-2.result is (omega arith)
    c.is_key-2.ensures (c.loop-at.invariant.2 word is here)
