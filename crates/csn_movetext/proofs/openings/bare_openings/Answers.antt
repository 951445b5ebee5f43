use Rattle.std.proofs.Common.{◌≡◌, ℕ, ◌<◌, length, arith, ◌∙◌, sym, subst, ap, Some, get_or, ◌++◌, ◌∷◌, []}
use Rattle.std.specs.Prelude.{slice_get}
use Rattle.std.proofs.lemmas.Option.{slice_get-get_or}
use Rattle.csn_json.specs.declared.form.TreeForm.{TreeForm}
use Rattle.csn_movetext.specs.Openings.{OpeningsV, opening_of}
use Rattle.csn_movetext.proofs.PoolFacts.{AreBegun, begun_next, are_opened}
use Rattle.csn_movetext.proofs.openings.bare_openings.Goals as goal

pub loop-i-preserved : goal.loop-i-preserved
loop-i-preserved g c =
    let small : c.loop-i.i < length c.in_ok-numbers.numbers.items = omega (arith, c.loop-i-test.true, c.len-i-end.ensures.len, c.in_ok-numbers.ensures.all) in
    let given : slice_get c.in_ok-numbers.numbers.items c.loop-i.i ≡ Some c.index.result.now =
    slice_get-get_or c.in_ok-numbers.numbers.items c.loop-i.i c.index.result.now small
    ∙ ap (λ k. Some (get_or c.in_ok-numbers.numbers.items k c.index.result.now)) (sym c.from.ensures) ∙ ap Some (sym c.index.ensures) in
    let form : c.add.new.self.form ≡ c.args.form = ap (λ (o : OpeningsV). o.form) c.in_ok-add.ensures.added ∙ c.loop-i.invariant.0 in (
      form,
      begun_next c.args.form c.args.plan.now c.in_ok-numbers.numbers.items c.loop-i.i c.index.result.now
          c.node-node.result.now c.loop-i.openings.texts c.add.new.self.texts
          given c.node-node.ensures.node c.in_ok-add.ensures.label (ap (λ (o : OpeningsV). o.texts) c.in_ok-add.ensures.added
          ∙ ap (λ f. c.loop-i.openings.texts ++ opening_of f c.index.result.now c.node-node.result.now ∷ []) c.loop-i.invariant.0) c.loop-i.invariant.1,
      ap (λ (o : OpeningsV). o.templates) c.in_ok-add.ensures.added ∙ c.loop-i.invariant.2,
    )

pub returns-clause-opened : goal.returns-clause-opened
returns-clause-opened g c =
    let all : c.loop-i.i ≡ length c.args.plan.now.nodes = omega (arith, c.loop-i-test.false, c.loop-i.auto.i-end, c.len-i-end.ensures.len) in
    let N : ℕ → Type 0 = λ n. AreBegun c.args.form c.args.plan.now c.in_ok-numbers.numbers.items n c.loop-i.openings.texts in
    let F : TreeForm → Type 0 = λ f. AreBegun f c.args.plan.now c.in_ok-numbers.numbers.items (length c.args.plan.now.nodes) c.loop-i.openings.texts in
    are_opened c.args.plan.now c.len-i-end.ensures.description c.in_ok-numbers.numbers.items c.in_ok-numbers.ensures c.loop-i.openings
    (subst F (sym c.loop-i.invariant.0) (subst N all c.loop-i.invariant.1))

pub returns-clause-form : goal.returns-clause-form
returns-clause-form g c = c.loop-i.invariant.0

pub returns-clause-templates : goal.returns-clause-templates
returns-clause-templates g c = c.loop-i.invariant.2
