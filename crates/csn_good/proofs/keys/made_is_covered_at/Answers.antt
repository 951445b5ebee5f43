use Rattle.std.proofs.Common.{IsTrue, refl, sym, ◌∙◌}
use Rattle.std.specs.Prelude.{is_some}
use Rattle.csn_cert.specs.Growing.{claimed}
use Rattle.csn_good.proofs.Covered.{in_set}
use Rattle.csn_good.proofs.keys.made_is_covered_at.Goals as goal

pub returns-then-not-has : goal.returns-then-not-has
returns-then-not-has c = (
  (λ h p reached at.
      let there : IsTrue (is_some (claimed c.args.c.now c.args.i c.args.octet)) = reached in
      let told = c.has.ensures in
      let wrong = c.if-not-has.true in
      absurd (cc)),
  (λ h. refl),
)

pub returns : goal.returns
returns c = (
  (λ h p reached at. c.in_ok-covered.ensures.0 h p (in_set c.args.made.now.at.items c.args.octet c.set_at.result.now p c.set_at.ensures at)),
  (λ h. c.in_ok-covered.ensures.1 (λ p there. h p (sym c.has.ensures ∙ c.if-not-has.false)
      (record { patterns = c.set_at.result.now; at = c.set_at.ensures; is_made = there }))),
)
