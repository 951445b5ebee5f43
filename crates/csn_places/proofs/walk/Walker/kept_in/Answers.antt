use Rattle.std.proofs.Common.{◌≡◌, drop, sym, ◌∙◌, ap, arith}
use Rattle.std.proofs.lemmas.List.{drop_all}
use Rattle.csn_grammar.specs.ExprV.{branches_of}
use Rattle.csn_places.specs.Origins.{is_kept, one_if, kept_in}
use Rattle.csn_places.proofs.WalkFacts.{kept-next}
use Rattle.csn_places.proofs.walk.Walker.kept_in.Goals as goal

pub overflow_add-kept : goal.overflow_add-kept
overflow_add-kept c = omega (arith, c.loop-at.invariant.few, c.loop-at-test.true, c.len-at-end.ensures.bound, c.len-at-end.ensures.len)

pub loop-at-preserved-then-not-is_kept : goal.loop-at-preserved-then-not-is_kept
loop-at-preserved-then-not-is_kept c = record {
  few = omega (arith, c.loop-at.invariant.few);
  number = λ void told.
      let next = kept-next void c.args.branches.now c.loop-at.at c.get.result.now c.get.ensures in
      let none : one_if (is_kept void c.get.result.now) ≡ 0 = ap one_if (sym (c.is_kept.ensures void told) ∙ c.if-not-is_kept.true) in
      let before = c.loop-at.invariant.number void told in
      omega (arith, next, none, before);
}

pub loop-at-preserved : goal.loop-at-preserved
loop-at-preserved c = record {
  few = omega (arith, c.loop-at.invariant.few);
  number = λ void told.
      let next = kept-next void c.args.branches.now c.loop-at.at c.get.result.now c.get.ensures in
      let one : one_if (is_kept void c.get.result.now) ≡ 1 = ap one_if (sym (c.is_kept.ensures void told) ∙ c.if-not-is_kept.false) in
      let before = c.loop-at.invariant.number void told in
      omega (arith, next, one, before);
}

pub returns : goal.returns
returns c = λ void told.
    let none : kept_in void (branches_of (drop c.loop-at.at c.args.branches.now)) ≡ 0 =
    ap (λ l. kept_in void (branches_of l)) (drop_all c.loop-at.at c.args.branches.now (omega (arith, c.len-at-end.ensures.len, c.loop-at-test.false))) in
    let before = c.loop-at.invariant.number void told in
    omega (arith, none, before)
