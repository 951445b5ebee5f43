use Rattle.std.proofs.Common.{refl, sym, ◌∙◌, inl, inr, subst, arith}
use Rattle.std.proofs.lemmas.Bool.Decides.{eqb_tells}
use Rattle.csn_cert.specs.Growing.{claimed}
use Rattle.csn_good.specs.ClaimedSets.{patterns_at}
use Rattle.csn_good.specs.Patterns.{Covers}
use Rattle.csn_good.proofs.Conflicting.{no_pattern, one_item, at_contained, contained_at}
use Rattle.csn_good.proofs.Making.{claimed_pattern, claimed_count}
use Rattle.csn_good.proofs.keys.is_covered.Goals as goal

pub returns-then-not-has : goal.returns-then-not-has
returns-then-not-has c = (
  (λ h. absurd (cc)),
  (λ h. absurd (no_pattern c.args.c.now c.args.i c.args.octet h.wide c.has.result c.has.ensures c.if-not-has.true h.is_claimed)),
)

pub returns-then-covers : goal.returns-then-covers
returns-then-covers c = (
  (λ h.
      let there = sym c.has.ensures ∙ c.if-not-has.false in
      let at = claimed_pattern (claimed c.args.c.now c.args.i c.args.octet) c.loop-k.k c.pattern_at.result there c.pattern_at.ensures in
      record {
        wide = c.pattern_at.result;
        is_claimed = at_contained (patterns_at c.args.c.now c.args.i c.args.octet)
            c.loop-k.k c.pattern_at.result at;
        covers = c.covers.ensures.0 c.if-covers.true;
      }),
  (λ h. refl),
)

pub loop-k-preserved : goal.loop-k-preserved
loop-k-preserved c = λ n p less at_n covers.
    elim (eqb_tells n c.loop-k.k) [
      | inl same ↦
          let there = sym c.has.ensures ∙ c.if-not-has.false in
          let at = claimed_pattern (claimed c.args.c.now c.args.i c.args.octet) c.loop-k.k c.pattern_at.result there c.pattern_at.ensures in
          let is = one_item (patterns_at c.args.c.now c.args.i c.args.octet) same.1 at_n at in
          let right = c.covers.ensures.1 (subst (λ q. Covers q c.args.pattern) is covers) in
          let wrong = c.if-covers.false in
          absurd (cc)
      | inr apart ↦ (let differ = apart.1 in c.loop-k.invariant n p (omega arith) at_n covers)
    ]

pub returns : goal.returns
returns c = (
  (λ h. absurd (cc)),
  (λ h.
      let there = sym c.has.ensures ∙ c.if-not-has.false in
      let count = claimed_count (claimed c.args.c.now c.args.i c.args.octet) c.patterns-k-end.result there c.patterns-k-end.ensures in
      let inside = h.is_claimed.1 in
      let over = c.loop-k-test.false in
      absurd (c.loop-k.invariant h.is_claimed.0 h.wide (omega arith)
      (contained_at (patterns_at c.args.c.now c.args.i c.args.octet) h.wide h.is_claimed) h.covers)),
)
