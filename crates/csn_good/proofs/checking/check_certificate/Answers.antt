use Rattle.std.proofs.Common.{ℕ, ◌≡◌, ◌<◌, length, refl, inl, inr, sym, subst, arith, Some, slice_get}
use Rattle.std.specs.Prelude.{IfSome, IfNone}
use Rattle.std.proofs.lemmas.Bool.Decides.{eqb_tells}
use Rattle.std.proofs.lemmas.Option.{slice_get_within}
use Rattle.csn_desc.proofs.Numbering.{parts_later}
use Rattle.csn_good.specs.Good.{KeepsRules, Good, FirstFault}
use Rattle.csn_good.specs.Faults.{FaultAt}
use Rattle.csn_good.proofs.Arms.{node_within}
use Rattle.csn_good.proofs.Holding.{unbroken}
use Rattle.csn_good.proofs.Faulting.{first_fault, number_fault}
use Rattle.csn_good.proofs.checking.check_certificate.Goals as goal

pub broken_rule-requires-clause-parts : goal.broken_rule-requires-clause-parts
broken_rule-requires-clause-parts c =
    node_within c.node-this.result.now
    (parts_later c.args.desc.now c.loop-node.node c.node-this.result.now (λ j. j < length c.args.c.now) c.len-count.ensures.description c.node-this.ensures
    (λ j later inside. let claimed = c.len-claimed.ensures.count in let count = c.len-count.ensures.len in omega arith))

pub returns-then-claimed-count-clause-unproved : goal.returns-then-claimed-count-clause-unproved
returns-then-claimed-count-clause-unproved c = λ rule node same.
    let claimed = c.len-claimed.ensures.count in
    let count = c.len-count.ensures.len in
    let wrong = c.if-claimed-count.true in
    let is_rule : 1 ≡ rule = cc in
    let is_node : 0 ≡ node = cc in
    let first = number_fault c.args.desc.now c.args.c.now (λ number. absurd (omega arith)) in
    subst (λ r. FirstFault c.args.desc.now c.args.c.now r node) is_rule (subst (λ k. FirstFault c.args.desc.now c.args.c.now 1 k) is_node first)

pub returns-in-Some-clause-proved : goal.returns-in-Some-clause-proved
returns-in-Some-clause-proved c = (
  (λ same. absurd (cc)),
  (λ good.
      let fault = subst (λ r. IfSome r (FaultAt c.args.desc.now c.args.c.now c.loop-node.node)) c.in-Some.is c.in_ok-rule.ensures.some in
      absurd (unbroken c.args.desc.now c.args.c.now good c.in-Some.rule c.loop-node.node fault.breaks)),
)

pub returns-in-Some-clause-unproved : goal.returns-in-Some-clause-unproved
returns-in-Some-clause-unproved c = λ rule node same.
    let claimed = c.len-claimed.ensures.count in
    let count = c.len-count.ensures.len in
    let agree = c.if-claimed-count.false in
    let fault = subst (λ r. IfSome r (FaultAt c.args.desc.now c.args.c.now c.loop-node.node)) c.in-Some.is c.in_ok-rule.ensures.some in
    let is_rule : c.in-Some.rule ≡ rule = cc in
    let is_node : c.loop-node.node ≡ node = cc in
    let first = first_fault c.args.desc.now c.args.c.now (omega arith) c.in-Some.rule c.loop-node.node c.loop-node.invariant fault in
    subst (λ r. FirstFault c.args.desc.now c.args.c.now r node) is_rule (subst (λ k. FirstFault c.args.desc.now c.args.c.now c.in-Some.rule k) is_node first)

pub loop-node-preserved : goal.loop-node-preserved
loop-node-preserved c = λ i n less at.
    let Q : ℕ → Type 0 = λ k. slice_get c.args.desc.now.nodes k ≡ Some n → KeepsRules c.args.desc.now c.args.c.now k n in
    let kept = subst (λ r. IfNone r (KeepsRules c.args.desc.now c.args.c.now c.loop-node.node c.node-this.result.now))
    c.in-None.is c.in_ok-rule.ensures.none in
    elim (eqb_tells i c.loop-node.node) [
      | inl same ↦ subst Q (sym same.1) (λ here.
          let got = c.node-this.ensures in
          let is : n ≡ c.node-this.result.now = cc in
          subst (λ m. KeepsRules c.args.desc.now c.args.c.now c.loop-node.node m) (sym is) kept) at
      | inr apart ↦ (let differ = apart.1 in c.loop-node.invariant i n (omega arith) at)
    ]

pub returns-clause-proved : goal.returns-clause-proved
returns-clause-proved c = (
  (λ same.
      let claimed = c.len-claimed.ensures.count in
      let count = c.len-count.ensures.len in
      let agree = c.if-claimed-count.false in
      let over = c.loop-node-test.false in
      record {
        number = omega arith;
        rules = λ i n at. c.loop-node.invariant i n (let inside =
            slice_get_within c.args.desc.now.nodes i n at in omega arith) at;
      }),
  (λ good. refl),
)

pub returns-clause-one_tree : goal.returns-clause-one_tree
returns-clause-one_tree c = λ same b t u left right.
    let claimed = c.len-claimed.ensures.count in
    let count = c.len-count.ensures.len in
    let agree = c.if-claimed-count.false in
    let over = c.loop-node-test.false in
    let good : Good c.args.desc.now c.args.c.now =
    record {
      number = omega arith;
      rules = λ i n at. c.loop-node.invariant i n (let inside =
          slice_get_within c.args.desc.now.nodes i n at in omega arith) at;
    } in
    c.good_leaves_one_tree.ensures c.args.desc.now c.args.c.now b t u c.len-count.ensures.description good left right
