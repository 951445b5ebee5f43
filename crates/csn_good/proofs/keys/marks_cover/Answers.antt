use Rattle.std.proofs.Common.{◌≡◌, ◌⊎◌, refl, sym, inl, inr, subst, arith}
use Rattle.std.proofs.lemmas.Bool.Decides.{eqb_tells}
use Rattle.std.proofs.lemmas.Option.{slice_get_within}
use Rattle.csn_cert.specs.declared.pattern.Mark.TheVariants.{Any}
use Rattle.csn_good.proofs.Conflicting.{one_item}
use Rattle.csn_good.proofs.Covered.{cover_from, cover_at}
use Rattle.csn_good.proofs.keys.marks_cover.Goals as goal

pub returns-then-not-mark_covers : goal.returns-then-not-mark_covers
returns-then-not-mark_covers c = (
  (λ h. absurd (cc)),
  (λ h.
      let right = c.mark_covers.ensures.1
      (cover_at c.args.wide.marks c.args.pattern.marks c.loop-at.at c.get-own.result c.get-other.result h
      c.get-own.ensures c.get-other.ensures) in
      let wrong = c.if-not-mark_covers.true in
      absurd (cc)),
)

pub loop-at-preserved : goal.loop-at-preserved
loop-at-preserved c = λ k a b less at_a at_b.
    elim (eqb_tells k c.loop-at.at) [
      | inl same ↦
          let is_a = one_item c.args.wide.marks same.1 at_a c.get-own.ensures in
          let is_b = one_item c.args.pattern.marks same.1 at_b c.get-other.ensures in
          subst (λ x. (x ≡ Any) ⊎ (x ≡ b)) (sym is_a) (subst (λ y. (c.get-own.result ≡ Any) ⊎ (c.get-own.result ≡ y))
          (sym is_b) (c.mark_covers.ensures.0 c.if-not-mark_covers.false))
      | inr apart ↦ (let differ = apart.1 in c.loop-at.invariant k a b (omega arith) at_a at_b)
    ]

pub returns : goal.returns
returns c = (
  (λ h. cover_from c.args.wide.marks c.args.pattern.marks c.requires (λ k a b at_a at_b.
      let inside = slice_get_within c.args.wide.marks k a at_a in
      let count = c.len-at-end.ensures.count in
      let over = c.loop-at-test.false in
      c.loop-at.invariant k a b (omega arith) at_a at_b)),
  (λ h. refl),
)
