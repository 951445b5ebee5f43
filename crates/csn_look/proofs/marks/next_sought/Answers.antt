use Rattle.std.proofs.Common.{◌≡◌, ◌<◌, ◌≤◌, ◌⊎◌, ◌+◌, ℕ, false, inl, inr, subst, arith}
use Rattle.csn_look.specs.Full.{is_sought}
use Rattle.csn_look.proofs.Tables.FullFacts.{rest_unsought, this_unsought, this_sought}
use Rattle.csn_look.proofs.marks.next_sought.Goals as goal

lower_or : (k at : ℕ) → (k < at) ⊎ (at ≤ k)
lower_or k at = grind arith

same_or : (k at : ℕ) → at ≤ k → k < at + 1 → at ≡ k
same_or k at low high = omega arith

pub loop-at-preserved-then-left-eq0 : goal.loop-at-preserved-then-left-eq0
loop-at-preserved-then-left-eq0 c = (
  omega (arith, c.loop-at.invariant.0),
  λ k from high. elim (lower_or k c.loop-at.at) [
    | inl below ↦ c.loop-at.invariant.1 k from below
    | inr past ↦ rest_unsought (is_sought c.args.sought c.args.table.now) c.sought_in.result c.loop-at.at c.sought_in.ensures c.if-left-eq0.true k past high
  ],
)

pub loop-at-preserved : goal.loop-at-preserved
loop-at-preserved c = (
  omega (arith, c.loop-at.invariant.0),
  λ k from high. elim (lower_or k c.loop-at.at) [
    | inl below ↦ c.loop-at.invariant.1 k from below
    | inr past ↦
        subst (λ (n : ℕ). is_sought c.args.sought c.args.table.now n ≡ false) (same_or k c.loop-at.at past high)
        (this_unsought (is_sought c.args.sought c.args.table.now) c.sought_in.result c.loop-at.at c.sought_in.ensures c.if-left-eq1.false)
  ],
)

pub returns-then-left-eq1-clause-here : goal.returns-then-left-eq1-clause-here
returns-then-left-eq1-clause-here c = λ low. this_sought (is_sought c.args.sought c.args.table.now)
    c.sought_in.result c.loop-at.at c.sought_in.ensures c.if-left-eq1.true
