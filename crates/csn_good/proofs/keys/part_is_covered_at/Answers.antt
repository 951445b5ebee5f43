use Rattle.std.proofs.Common.{refl, sym, ◌∙◌, inl, inr, subst, arith}
use Rattle.std.proofs.lemmas.Bool.Decides.{eqb_tells}
use Rattle.csn_cert.specs.Growing.{claimed}
use Rattle.csn_good.specs.ClaimedSets.{patterns_at}
use Rattle.csn_good.specs.Patterns.{IsCovered}
use Rattle.csn_good.proofs.Conflicting.{no_pattern, one_item, at_contained, contained_at}
use Rattle.csn_good.proofs.Making.{claimed_pattern, claimed_count}
use Rattle.csn_good.proofs.keys.part_is_covered_at.Goals as goal

pub returns-then-not-has : goal.returns-then-not-has
returns-then-not-has c = (
  (λ h p at. absurd (no_pattern c.args.c.now c.args.part c.args.octet p c.has.result c.has.ensures c.if-not-has.true at)),
  (λ h. refl),
)

pub returns-then-not-is_covered : goal.returns-then-not-is_covered
returns-then-not-is_covered c = (
  (λ h. absurd (cc)),
  (λ h.
      let there = sym c.has.ensures ∙ c.if-not-has.false in
      let at = claimed_pattern (claimed c.args.c.now c.args.part c.args.octet) c.loop-k.k c.pattern_at.result there c.pattern_at.ensures in
      let right = c.is_covered.ensures.1
      (h c.pattern_at.result (at_contained (patterns_at c.args.c.now c.args.part c.args.octet)
      c.loop-k.k c.pattern_at.result at)) in
      let wrong = c.if-not-is_covered.true in
      absurd (cc)),
)

pub loop-k-preserved : goal.loop-k-preserved
loop-k-preserved c = λ n p less at_n.
    elim (eqb_tells n c.loop-k.k) [
      | inl same ↦
          let there = sym c.has.ensures ∙ c.if-not-has.false in
          let at = claimed_pattern (claimed c.args.c.now c.args.part c.args.octet) c.loop-k.k c.pattern_at.result there c.pattern_at.ensures in
          let is = one_item (patterns_at c.args.c.now c.args.part c.args.octet) same.1 at_n at in
          subst (λ q. IsCovered c.args.c.now c.args.i c.args.octet q) (sym is) (c.is_covered.ensures.0 c.if-not-is_covered.false)
      | inr apart ↦ (let differ = apart.1 in c.loop-k.invariant n p (omega arith) at_n)
    ]

pub returns : goal.returns
returns c = (
  (λ h p at.
      let there = sym c.has.ensures ∙ c.if-not-has.false in
      let count = claimed_count (claimed c.args.c.now c.args.part c.args.octet) c.patterns-k-end.result there c.patterns-k-end.ensures in
      let inside = at.1 in
      let over = c.loop-k-test.false in
      c.loop-k.invariant at.0 p (omega arith) (contained_at (patterns_at c.args.c.now c.args.part c.args.octet) p at)),
  (λ h. refl),
)
