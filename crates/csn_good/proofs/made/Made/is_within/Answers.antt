use Rattle.std.proofs.Common.{ℕ, ◌≡◌, inl, inr, sym, subst, arith}
use Rattle.std.specs.Prelude.{Contains}
use Rattle.std.proofs.lemmas.Bool.Decides.{eqb_tells}
use Rattle.csn_good.specs.Made.{MadeAt}
use Rattle.csn_good.proofs.Making.{made_low}
use Rattle.csn_good.proofs.made.Made.is_within.Goals as goal

pub loop-octet-preserved : goal.loop-octet-preserved
loop-octet-preserved c = λ o p less h.
    let Q : ℕ → Type 0 = λ k. MadeAt c.args.self.now.at.items k p → MadeAt c.args.other.now.at.items k p in
    elim (eqb_tells o c.loop-octet.octet) [
      | inl same ↦ subst Q (sym same.1) (λ here.
          let found = here.at in
          let own = c.set_at-own.ensures in
          let list : here.patterns ≡ c.set_at-own.result.now = cc in
          record {
            patterns = c.set_at-others.result.now;
            at = c.set_at-others.ensures;
            is_made =
                c.in_ok-within.ensures c.if-not-within.false p (subst (λ l. Contains l p) list here.is_made);
          }) h
      | inr apart ↦ (let differ = apart.1 in c.loop-octet.invariant o p (omega arith) h)
    ]

pub returns : goal.returns
returns c = λ holds o p h.
    let low = made_low c.args.self.now.at.items o p c.requires.made h in
    let over = c.loop-octet-test.false in
    c.loop-octet.invariant o p (omega arith) h
