use Rattle.std.proofs.Common.{ℕ, IsTrue, Some, inl, inr, sym, subst, arith}
use Rattle.std.proofs.lemmas.Bool.Decides.{eqb_tells}
use Rattle.csn_good.specs.ClaimedSets.{claims_of}
use Rattle.csn_good.proofs.apart.something_follows.Goals as goal
use Rattle.csn_good.proofs.apart.something_follows.Goals.{else-may_end-via-then-may_end+else-bit_follows, else-may_end-via-else-may_end}

pub loop-octet-preserved : goal.loop-octet-preserved
loop-octet-preserved c = λ o from b less begin one ends follow.
    let k = c.loop-octet.octet in
    let Q : ℕ → Type 0 = λ p. IsTrue ((claims_of c.args.c.now).ends c.args.i from p) → IsTrue ((claims_of c.args.c.now).follow c.args.i p (Some b)) → ⊥ in
    elim (eqb_tells o k) [
      | inl same ↦ subst Q (sym same.1) (λ ends_here follow_here. elim c.else-may_end.branch [
        | else-may_end-via-then-may_end+else-bit_follows w ↦ (let right =
            w.bit_follows.ensures.1 (b, one, follow_here) in let wrong = w.if-bit_follows.false in absurd (cc))
        | else-may_end-via-else-may_end w ↦ (let right = c.may_end.ensures.1 (from, begin, ends_here) in let wrong = w.if-may_end.false in absurd (cc))
      ]) ends follow
      | inr apart ↦ (let differ = apart.1 in c.loop-octet.invariant o from b (omega arith) begin one ends follow)
    ]
