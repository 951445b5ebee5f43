use Rattle.std.proofs.Common.{ℕ, ◌≡◌, ◌↔◌, IsTrue, true, refl, sym, inl, inr, ap, subst, arith, slice_get}
use Rattle.std.proofs.lemmas.Bool.Decides.{eqb_tells}
use Rattle.std.proofs.lemmas.Option.{slice_get_within}
use Rattle.csn_good.specs.Apart.{AreApart, IsApart}
use Rattle.csn_good.proofs.apart.alternative_is_apart.Goals as goal
use Rattle.csn_good.proofs.apart.alternative_is_apart.Goals.{else-not-is_null-via-then-not-is_null+else-not-is_firm, else-not-is_null-via-else-not-is_null}

pub loop-later-preserved : goal.loop-later-preserved
loop-later-preserved c = λ k other above less at.
    elim (eqb_tells k c.loop-later.later) [
      | inl same ↦
          let here = ap (λ p. slice_get c.args.parts.now p) same.1 in
          let got = c.get.ensures in
          let part : other ≡ c.get.result = cc in
          subst (λ q. AreApart c.args.desc.now c.args.c.now c.args.i c.get-alternative.result q) (sym part) (c.in_ok-are_apart.ensures.0 c.if-not-branch.false)
      | inr apart ↦ (let differ = apart.1 in c.loop-later.invariant k other above (omega arith) at)
    ]

pub returns : goal.returns
returns c = λ part at.
    let got = c.get-alternative.ensures in
    let same : c.get-alternative.result ≡ part = cc in
    let P : ℕ → Type 0 = λ p. IsTrue true ↔ IsApart c.args.desc.now c.args.c.now c.args.i c.args.parts.now c.args.place p in
    subst P same (
      (λ h. record {
        firm = λ not_null. elim c.else-not-is_null.branch [
          | else-not-is_null-via-then-not-is_null+else-not-is_firm w ↦ w.is_firm.ensures.0 w.if-not-is_firm.false
          | else-not-is_null-via-else-not-is_null w ↦ absurd (not_null (c.is_null.ensures.0 w.if-not-is_null.false))
        ];
        later = λ k other above at_k. c.loop-later.invariant k other above (let inside =
            slice_get_within c.args.parts.now k other at_k in let long = c.len-count.ensures.len in let over =
            c.loop-later-test.false in omega arith) at_k;
      }),
      (λ h. refl),
    )
