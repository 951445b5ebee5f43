use Rattle.std.proofs.Common.{◌≡◌, ℕ, List, ◌∷◌, ◌++◌, [], arith, length, refl, sym, ap, ◌∙◌}
use Rattle.csn_bits.proofs.Packing.{length-packed, octet_more, packs_first, packs_later}
use Rattle.csn_bits.proofs.Refusals.{given_not_many, not_many, nothing_given, only_memory}
use Rattle.csn_bits.proofs.bits.Bits.push.Goals as goal
use Rattle.csn_bits.proofs.bits.Bits.push.Goals.{then-used-eq0+in_ok-push, else-used-eq0}

pub returns-then-self-eq-MOST_BITS-clause-full : goal.returns-then-self-eq-MOST_BITS-clause-full
returns-then-self-eq-MOST_BITS-clause-full c = (
  λ _. sym (ap length c.self.view_is) ∙ length-packed _ _ c.self.invariant ∙ c.if-self-eq-MOST_BITS.true,
  λ _. refl,
)

pub overflow_add-index_mut : goal.overflow_add-index_mut
overflow_add-index_mut c =
    let fits = octet_more _ _ _ _ c.self.invariant c.requires (omega arith) c.index_mut.ensures.value in
    omega arith

pub invariant_of-self-2 : goal.invariant_of-self-2
invariant_of-self-2 c =
    elim c.if-used-eq0.branch [
      | then-used-eq0+in_ok-push w ↦
          rw (w.self-inside-is, w.in_ok-push.ensures.items)
          (packs_first _ _ _ c.self.invariant (omega (arith, c.self.invariant.few)) c.requires w.if-used-eq0.true).0
      | else-used-eq0 w ↦
          rw w.self-inside-is
          (packs_later _ _ _ _ c.self.invariant (omega (arith, c.self.invariant.few)) c.requires (omega arith) w.index_mut.ensures.value).0
    ]

pub returns-clause-ok : goal.returns-clause-ok
returns-clause-ok c =
    let seen = ap (λ (l : List ℕ). l ++ c.args.bit ∷ []) c.self.view_is in
    elim c.if-used-eq0.branch [
      | then-used-eq0+in_ok-push w ↦
          rw (w.self-inside-is, w.in_ok-push.ensures.items)
          ((packs_first _ _ _ c.self.invariant (omega (arith, c.self.invariant.few)) c.requires w.if-used-eq0.true).1 ∙ seen)
      | else-used-eq0 w ↦
          rw w.self-inside-is
          ((packs_later _ _ _ _ c.self.invariant (omega (arith, c.self.invariant.few)) c.requires (omega arith) w.index_mut.ensures.value).1 ∙ seen)
    ]

pub returns-in_err-push-clause-ok : goal.returns-in_err-push-clause-ok
returns-in_err-push-clause-ok c = nothing_given _ c.from_residual.result c.from_residual.ensures.1

pub returns-in_err-push-clause-full : goal.returns-in_err-push-clause-full
returns-in_err-push-clause-full c =
    let long : length c.args.self.now ≡ c.self.inside.len = sym (ap length c.self.view_is) ∙ length-packed _ _ c.self.invariant in
    (λ many. absurd (not_many c.from_residual.result c.from_residual.ensures.1 many), λ full. absurd (omega (arith, long, full, c.if-self-eq-MOST_BITS.false)))

pub returns-in_err-push-clause-only : goal.returns-in_err-push-clause-only
returns-in_err-push-clause-only c = only_memory c.from_residual.result c.from_residual.ensures.1

pub index_mut-requires : goal.index_mut-requires
index_mut-requires c = omega (arith, c.self.invariant.within, c.if-used-eq0.false)

pub returns-clause-full : goal.returns-clause-full
returns-clause-full c =
    let long : length c.args.self.now ≡ c.self.inside.len = sym (ap length c.self.view_is) ∙ length-packed _ _ c.self.invariant in
    (λ many. absurd (given_not_many _ many), λ full. absurd (omega (arith, long, full, c.if-self-eq-MOST_BITS.false)))
