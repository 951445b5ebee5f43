use Rattle.std.proofs.Common.{◌≤◌, ℕ, inl, inr, sym, subst, arith, IsTrue}
use Rattle.std.proofs.lemmas.Bool.Decides.{eqb_tells}
use Rattle.csn_good.specs.ClaimedSets.{claims_of}
use Rattle.csn_good.specs.Signs.{sign_of}
use Rattle.csn_good.specs.Wanted.{MayEnd, Wants}
use Rattle.csn_good.proofs.EndsTold.{denied, never, always}
use Rattle.csn_good.proofs.following.has_wanted.Goals as goal
use Rattle.csn_good.proofs.following.has_wanted.Goals.{else-may_end-via-then-may_end+else-not-has_wanted_at, else-may_end-via-else-may_end}

pub loop-octet-preserved : goal.loop-octet-preserved
loop-octet-preserved c = λ o s less low may wants.
    let k = c.loop-octet.octet in
    let Q : ℕ → Type 0 = λ p. (sign : ℕ) → sign ≤ 2 → MayEnd (claims_of c.args.c.now) c.args.part p
    → Wants (claims_of c.args.c.now) c.args.k c.args.part c.args.around.now p sign
    → IsTrue ((claims_of c.args.c.now).follow c.args.part p (sign_of sign)) in
    elim (eqb_tells o k) [
      | inl same ↦ subst Q (sym same.1) (λ sign small ends wanted. elim c.else-may_end.branch [
        | else-may_end-via-then-may_end+else-not-has_wanted_at w ↦ w.has_wanted_at.ensures.0 w.if-not-has_wanted_at.false sign small wanted
        | else-may_end-via-else-may_end w ↦ (absurd (denied c.may_end.ensures w.if-may_end.false ends))
      ]) s low may wants
      | inr apart ↦ (let differ = apart.1 in c.loop-octet.invariant o s (omega arith) low may wants)
    ]

pub loop-octet-init : goal.loop-octet-init
loop-octet-init c = λ o s less. absurd (omega (arith, less))

pub may_end-requires-clause-end : goal.may_end-requires-clause-end
may_end-requires-clause-end c = omega (arith, c.loop-octet-test.true)

pub has_wanted_at-requires-clause-octet : goal.has_wanted_at-requires-clause-octet
has_wanted_at-requires-clause-octet c = omega (arith, c.loop-octet-test.true)

pub returns-then-not-has_wanted_at : goal.returns-then-not-has_wanted_at
returns-then-not-has_wanted_at c =
    never (λ has. denied c.has_wanted_at.ensures c.if-not-has_wanted_at.true
    (λ s small wants. has c.loop-octet.octet s (omega (arith, c.loop-octet-test.true)) small
    (c.may_end.ensures.0 c.if-may_end.true) wants))

pub returns : goal.returns
returns c = always (λ o s low small may wants. c.loop-octet.invariant o s (omega (arith, low, c.loop-octet-test.false)) small may wants)
