use Rattle.std.specs.Prelude.{slice_index}
use Rattle.std.proofs.Common.{◌≡◌, ◌+◌, ◌-◌, ◌==◌, ◌&&◌, Bool, true, false, ◌∷◌, take, drop, refl, sym, ap, ◌∙◌, subst, arith}
use Rattle.csn_treetext.specs.declared.stack.Frame.TheVariants.{Named}
use Rattle.csn_treetext.specs.reader.Mode.{Start, Name}
use Rattle.csn_treetext.specs.reader.Machine.{HasRoom, may_end, state}
use Rattle.csn_treetext.specs.reader.Reading.{Stands}
use Rattle.csn_treetext.proofs.Names.{label_of_run}
use Rattle.csn_treetext.proofs.Places.{reached}
use Rattle.csn_treetext.proofs.ReadingFacts.{led}
use Rattle.csn_treetext.proofs.StopFacts.{name_stops, name_ends, equals_stops, equals_ends}
use Rattle.csn_treetext.proofs.name.name.Goals as goal
use Rattle.csn_treetext.proofs.name.name.Goals.{then-not-may_end-via-then-not-may_end, then-not-may_end-via-else-not-may_end+then-not-stands_at}

nor_both : (a b : Bool) → b ≡ false → a && b ≡ false
nor_both true b h = h
nor_both false b h = refl

pub returns-then-not-may_end : goal.returns-then-not-may_end
returns-then-not-may_end c =
    let text = c.args.source.text.now in
    let (stands, end) = c.name_end-stands.result in
    let e = c.name_end-stands.ensures.comes c.args.source.version c.args.stack.now c.requires.comes in
    name_stops c.args.source.version text end (take (end - c.args.from) (drop c.args.from text))
    stands c.args.stack.now c.name_end-stands.ensures.within e c.name_end-stands.ensures.stops
    (λ low. elim c.then-not-may_end.branch [
      | then-not-may_end-via-then-not-may_end w ↦ nor_both (slice_index text end == 62) (may_end stands) (sym c.may_end.ensures ∙ w.if-not-may_end.true)
      | then-not-may_end-via-else-not-may_end+then-not-stands_at w ↦ ap (λ b. b && may_end stands) (w.if-not-stands_at.ensures.no refl low)
    ])

pub push_label-requires : goal.push_label-requires
push_label-requires c =
    let text = c.args.source.text.now in
    let (stands, end) = c.name_end-stands.result in
    let label = take (end - c.args.from) (drop c.args.from text) in
    let e = c.name_end-stands.ensures.comes c.args.source.version c.args.stack.now c.requires.comes in
    label_of_run label stands (reached c.args.source.version (take end text)
    (state (Name label stands) c.args.stack.now) e).mode (sym c.may_end.ensures ∙ c.if-not-may_end.false)

pub returns-then-not-stands_at-2 : goal.returns-then-not-stands_at-2
returns-then-not-stands_at-2 c =
    let (stands, end) = c.name_end-stands.result in
    let e = c.name_end-stands.ensures.comes c.args.source.version c.args.stack.now c.requires.comes in
    let (low, greater) = c.if-not-stands_at.ensures.yes refl in
    equals_stops c.args.source.version c.args.source.text.now (end + 1) _ c.args.stack.now (omega arith)
    (name_ends c.args.source.version c.args.source.text.now end _ stands c.args.stack.now e low greater (sym c.may_end.ensures ∙ c.if-not-may_end.false))
    (c.if-not-stands_at-2.ensures.no refl)

pub returns : goal.returns
returns c =
    let text = c.args.source.text.now in
    let (stands, end) = c.name_end-stands.result in
    let label = take (end - c.args.from) (drop c.args.from text) in
    let e = c.name_end-stands.ensures.comes c.args.source.version c.args.stack.now c.requires.comes in
    let (low, greater) = c.if-not-stands_at.ensures.yes refl in
    let whole = name_ends c.args.source.version text end label stands c.args.stack.now e low greater (sym c.may_end.ensures ∙ c.if-not-may_end.false) in
    let (next, equals) = c.if-not-stands_at-2.ensures.yes refl in
    let begins = equals_ends c.args.source.version text (end + 1) label c.args.stack.now whole next equals in
    let count : end + 1 + 1 ≡ end + 2 = omega arith in
    let same = sym c.in_ok-push_label.ensures in (
      omega arith,
      omega arith,
      subst HasRoom same c.requires.room,
      subst (λ s. Stands c.args.source.version text (end + 2) (state Start s)) same
          (subst (λ n. Stands c.args.source.version text n (state Start (Named label ∷ c.args.stack.now))) count (led begins)),
    )
