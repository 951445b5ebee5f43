use Rattle.std.proofs.Common.{◌≡◌, ℕ, List, arith, sym, subst, ◌∙◌, ap, map, ◌++◌, [], append-nil, Some}
use Rattle.std.specs.Prelude.{option_copied, slice_get}
use Rattle.csn_movetext.specs.declared.openings.Place.{Place}
use Rattle.csn_movetext.specs.Pool.{text_at, IsWithin}
use Rattle.csn_movetext.specs.Openings.{OpeningsV, with_text, label_part}
use Rattle.csn_movetext.proofs.PoolFacts.{pushed, pushed_within, longer_within}
use Rattle.csn_movetext.proofs.openings.Openings.push.Goals as goal

pub returns : goal.returns
returns c =
    let form = c.self.inside.form in
    ap (λ l. record { form = form; texts = l; templates = c.self.inside.templates.items })
    (ap (λ l. map (text_at form c.extend_from_slice.new.self.items c.keep.new.labels.items) l) c.in_ok-push.ensures.items
    ∙ pushed form c.self.inside.pool.items c.args.text.now _ c.self.inside.labels.items c.keep.ensures.more.0 _
    c.self.inside.places.items _ (option_copied c.args.label) c.self.invariant.within
    c.in_ok-extend_from_slice.ensures.items c.keep.ensures.more.1
    (omega (arith, c.len-start.ensures, c.self.inside.pool.ok)) (omega (arith, c.len-end.ensures, c.extend_from_slice.new.self.ok))
    c.in_ok-number.ensures.number)
    ∙ ap (λ (o : OpeningsV). with_text o (c.args.text.now ++ label_part o.form (option_copied c.args.label))) c.self.view_is

pub invariant_of-self : goal.invariant_of-self
invariant_of-self c =
    let pool = c.self.inside.pool.items in
    record {
      within =
          longer_within pool [] pool c.self.inside.labels.items c.keep.ensures.more.0 _ c.self.inside.places.items
          c.self.invariant.within (sym (append-nil pool)) c.keep.ensures.more.1;
    }

pub invariant_of-self-in_err-extend_from_slice : goal.invariant_of-self-in_err-extend_from_slice
invariant_of-self-in_err-extend_from_slice c =
    let pool = c.self.inside.pool.items in
    record {
      within =
          longer_within pool [] _ c.self.inside.labels.items c.keep.ensures.more.0 _ c.self.inside.places.items
          c.self.invariant.within (c.in_err-extend_from_slice.ensures.items ∙ sym (append-nil pool)) c.keep.ensures.more.1;
    }

pub invariant_of-self-then-end : goal.invariant_of-self-then-end
invariant_of-self-then-end c =
    record {
      within =
          longer_within c.self.inside.pool.items c.args.text.now _ c.self.inside.labels.items c.keep.ensures.more.0 _
          c.self.inside.places.items c.self.invariant.within c.in_ok-extend_from_slice.ensures.items c.keep.ensures.more.1;
    }

pub invariant_of-self-in_err-push : goal.invariant_of-self-in_err-push
invariant_of-self-in_err-push c =
    let new = c.extend_from_slice.new.self.items in
    let labels = c.keep.new.labels.items in
    let Lie : List Place → Type 0 = λ ps. (i : ℕ) (p : Place) → slice_get ps i ≡ Some p → IsWithin new labels p in
    record {
      within =
          subst Lie (sym c.in_err-push.ensures.items)
          (longer_within c.self.inside.pool.items c.args.text.now new c.self.inside.labels.items c.keep.ensures.more.0 labels
          c.self.inside.places.items c.self.invariant.within c.in_ok-extend_from_slice.ensures.items c.keep.ensures.more.1);
    }

pub invariant_of-self-2 : goal.invariant_of-self-2
invariant_of-self-2 c =
    let new = c.extend_from_slice.new.self.items in
    let labels = c.keep.new.labels.items in
    let Lie : List Place → Type 0 = λ ps. (i : ℕ) (p : Place) → slice_get ps i ≡ Some p → IsWithin new labels p in
    record {
      within =
          subst Lie (sym c.in_ok-push.ensures.items)
          (pushed_within c.self.inside.pool.items c.args.text.now new c.self.inside.labels.items c.keep.ensures.more.0 labels
          c.self.inside.places.items _ c.self.invariant.within c.in_ok-extend_from_slice.ensures.items c.keep.ensures.more.1
          (omega (arith, c.len-start.ensures, c.self.inside.pool.ok)) (omega (arith, c.len-end.ensures, c.extend_from_slice.new.self.ok))
          c.in_ok-number.ensures.within);
    }
