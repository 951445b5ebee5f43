use Rattle.std.proofs.Common.{◌-◌, ◌<◌, ℕ, List, length, drop, Option, sym, subst, arith}
use Rattle.std.specs.Prelude.{IfSome}
use Rattle.csn_look.proofs.Sets.Telling.{last_none, last_all, last_more}
use Rattle.csn_certify.specs.declared.layouts.Layout.{Layout}
use Rattle.csn_certify.specs.Layouts.{HasLayout}
use Rattle.csn_certify.specs.LayoutParts.{HavePartsLayout}
use Rattle.csn_certify.proofs.LayoutNumbers.{short_of, layout_at}
use Rattle.csn_certify.proofs.layouts.sequence.Goals as goal

pub loop-at-init : goal.loop-at-init
loop-at-init c = (
  c.empty-behind.ensures.short,
  λ d are.
      let P : List ℕ → Type 0 = λ parts. HavePartsLayout d parts c.empty-behind.result in
      subst P (sym (last_none c.args.parts.now c.len-at.result c.len-at.ensures.len)) (c.empty-behind.ensures.parts d),
)

pub then-requires-clause-first : goal.then-requires-clause-first
then-requires-clause-first c =
    let d = c.requires.layouts.0 in
    let part = c.from.result in
    let node : c.get.result < length c.args.layouts.now = c.requires.nodes (c.loop-at.at - 1) c.get.result c.get.ensures in
    let P : Option Layout → Type 0 = λ layout. IfSome layout (HasLayout d part) in
    short_of (subst P c.in_ok-part.was (layout_at d c.args.layouts.now part c.requires.layouts.1 (omega (arith, node, c.from.ensures))))

pub loop-at-preserved : goal.loop-at-preserved
loop-at-preserved c = (
  c.in_ok-behind.ensures.short,
  λ d are.
      let part = c.from.result in
      let node : c.get.result < length c.args.layouts.now = c.requires.nodes (c.loop-at.at - 1) c.get.result c.get.ensures in
      let P : Option Layout → Type 0 = λ layout. IfSome layout (HasLayout d part) in
      let Q : ℕ → Type 0 = λ i. HasLayout d i c.in_ok-part.part in
      let R : List ℕ → Type 0 = λ parts. HavePartsLayout d parts c.in_ok-behind.behind in
      let first = subst P c.in_ok-part.was (layout_at d c.args.layouts.now part are (omega (arith, node, c.from.ensures))) in
      subst R (sym (last_more c.args.parts.now c.loop-at.at c.get.result c.loop-at-test.true c.get.ensures))
      (c.in_ok-behind.ensures.joined d c.get.result (drop c.loop-at.at c.args.parts.now) (subst Q c.from.ensures first) (c.loop-at.invariant.1 d are)),
)

pub returns : goal.returns
returns c = λ d are.
    let P : List ℕ → Type 0 = λ parts. HavePartsLayout d parts c.loop-at.behind in
    subst P (last_all c.args.parts.now c.loop-at.at c.loop-at-test.false) (c.loop-at.invariant.1 d are)
