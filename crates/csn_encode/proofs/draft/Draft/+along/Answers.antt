use Rattle.std.proofs.Common.{◌*◌, inl, inr, take, refl, sym, ◌∙◌, ap, arith, Some}
use Rattle.csn_desc.specs.declared.node.Node.TheVariants.{Seq, Choice, Times, Many, Trunc, Window, Named}
use Rattle.csn_desc.specs.TreeV.{row, alt, named, trees_of}
use Rattle.csn_encode.proofs.Steps.{node_adds, field_keeps, times_keeps, window_keeps, stands_at_part}
use Rattle.csn_encode.proofs.Steps.{stands_at_parts, alternative_stands, part_within, part_behind, part_few}
use Rattle.csn_encode.proofs.Steps.{part_room, stands_in_window, some_in_window, seq_adds, trunc_adds, choice_adds}
use Rattle.csn_encode.proofs.Steps.{named_adds, times_adds, many_adds, window_adds}
use Rattle.csn_encode.proofs.Texts.{on_some, row_begins, alternative_begins, label_begins, parts_along, part_next}
use Rattle.csn_encode.proofs.Texts.{part_more, parts_end, turns_along, turn_next, turn_more, turns_end}
use Rattle.csn_encode.proofs.draft.Draft.+along.Goals as goal

pub write_text-returns-in-Lits : goal.write_text-returns-in-Lits
write_text-returns-in-Lits g t c =
    on_some c.literal_text.result
    (λ rest h. (
      h.0,
      h.1,
      λ v s. node_adds c.args.ground.plan.now
          (c.node.ensures.node ∙ ap (λ n. Some n) c.in-Lits.is) (h.2 c.args.ground.plan.now v),
    )) c.literal_text.ensures

pub write_text-returns-in-Spare : goal.write_text-returns-in-Spare
write_text-returns-in-Spare g t c =
    on_some c.spare_text.result
    (λ rest h. (
      h.0,
      h.1,
      λ v s. node_adds c.args.ground.plan.now
          (c.node.ensures.node ∙ ap (λ n. Some n) c.in-Spare.is)
          (h.2 c.args.ground.plan.now v (sym c.reading.ensures)),
    )) c.spare_text.ensures

pub write_text-returns-in-Pad : goal.write_text-returns-in-Pad
write_text-returns-in-Pad g t c =
    on_some c.padding_text.result
    (λ rest h. (
      h.0,
      h.1,
      λ v s. node_adds c.args.ground.plan.now
          (c.node.ensures.node ∙ ap (λ n. Some n) c.in-Pad.is)
          (h.2 c.args.ground.plan.now v (sym c.reading-in-Pad.ensures)),
    )) c.padding_text.ensures

pub write_text-returns-in-Null : goal.write_text-returns-in-Null
write_text-returns-in-Null g t c =
    on_some c.null_text.result
    (λ rest h. (
      h.0,
      h.1,
      λ v s. node_adds c.args.ground.plan.now
          (c.node.ensures.node ∙ ap (λ n. Some n) c.in-Null.is) (h.2 c.args.ground.plan.now v),
    )) c.null_text.ensures

pub write_text-returns-in-Rest : goal.write_text-returns-in-Rest
write_text-returns-in-Rest g t c =
    on_some c.rest_text.result
    (λ rest h. (
      h.0,
      h.1,
      λ v s. node_adds c.args.ground.plan.now
          (c.node.ensures.node ∙ ap (λ n. Some n) c.in-Rest.is) (h.2 c.args.ground.plan.now v),
    )) c.rest_text.ensures

pub write_text-count_of-requires : goal.write_text-count_of-requires
write_text-count_of-requires g t c =
    (c.args.ground.plan.now, c.requires.0, field_keeps c.args.ground.plan.now (c.node.ensures.node ∙ ap (λ n. Some n) c.in-Field.is) c.requires.1)

pub write_text-count_of-wanted-requires : goal.write_text-count_of-wanted-requires
write_text-count_of-wanted-requires g t c =
    (c.args.ground.plan.now, c.requires.0, times_keeps c.args.ground.plan.now (c.node.ensures.node ∙ ap (λ n. Some n) c.in-Times.is) c.requires.1)

pub write_text-count_of-requires-in-Window : goal.write_text-count_of-requires-in-Window
write_text-count_of-requires-in-Window g t c =
    (c.args.ground.plan.now, c.requires.0, window_keeps c.args.ground.plan.now (c.node.ensures.node ∙ ap (λ n. Some n) c.in-Window.is) c.requires.1)

pub write_text-returns-in-Field : goal.write_text-returns-in-Field
write_text-returns-in-Field g t c =
    on_some c.field_text.result
    (λ rest h. (
      h.0,
      h.1,
      λ v s. node_adds c.args.ground.plan.now
          (c.node.ensures.node ∙ ap (λ n. Some n) c.in-Field.is)
          (h.2 c.args.ground.plan.now v c.in-Field.unit c.in-Field.count c.count_of.result
          (c.count_of.ensures.count c.args.ground.plan.now v
          (field_keeps c.args.ground.plan.now (c.node.ensures.node ∙ ap (λ n. Some n) c.in-Field.is) s))
          (ap (λ k. k * c.count_of.result) c.from.ensures)),
    )) c.field_text.ensures

pub write_text-returns-in-Seq : goal.write_text-returns-in-Seq
write_text-returns-in-Seq g t c =
    on_some c.sequence_text.result
    (λ rest h. (
      h.0,
      h.1,
      λ v s. node_adds c.args.ground.plan.now
          (c.node.ensures.node ∙ ap (λ n. Some n) c.in-Seq.is)
          (h.2 v (stands_at_parts c.args.ground.plan.now (Seq c.in-Seq.parts)
          (c.node.ensures.node ∙ ap (λ n. Some n) c.in-Seq.is) refl refl s)),
    )) c.sequence_text.ensures

pub write_text-returns-in-Choice : goal.write_text-returns-in-Choice
write_text-returns-in-Choice g t c =
    on_some c.choice_text.result
    (λ rest h. (
      h.0,
      h.1,
      λ v s. node_adds c.args.ground.plan.now
          (c.node.ensures.node ∙ ap (λ n. Some n) c.in-Choice.is)
          (h.2 v (stands_at_parts c.args.ground.plan.now (Choice c.in-Choice.parts)
          (c.node.ensures.node ∙ ap (λ n. Some n) c.in-Choice.is) refl refl s)),
    )) c.choice_text.ensures

pub write_text-returns-in-Trunc : goal.write_text-returns-in-Trunc
write_text-returns-in-Trunc g t c =
    on_some c.truncation_text.result
    (λ rest h. (
      h.0,
      h.1,
      λ v s. node_adds c.args.ground.plan.now
          (c.node.ensures.node ∙ ap (λ n. Some n) c.in-Trunc.is)
          (h.2 v (stands_at_parts c.args.ground.plan.now (Trunc c.in-Trunc.parts)
          (c.node.ensures.node ∙ ap (λ n. Some n) c.in-Trunc.is) refl refl s)),
    )) c.truncation_text.ensures

pub write_text-sequence_text-requires : goal.write_text-sequence_text-requires
write_text-sequence_text-requires g t c κs within = (
  omega (arith, c.decreases, c.requires.1.ready.few),
  (
    within,
    (
      c.requires.0,
      (stands_at_parts c.args.ground.plan.now (Seq c.in-Seq.parts)
          (c.node.ensures.node ∙ ap (λ n. Some n) c.in-Seq.is) refl refl c.requires.1),
    ),
  ),
)

pub write_text-choice_text-requires : goal.write_text-choice_text-requires
write_text-choice_text-requires g t c κs within = (
  omega (arith, c.decreases, c.requires.1.ready.few),
  (
    within,
    (
      c.requires.0,
      (stands_at_parts c.args.ground.plan.now (Choice c.in-Choice.parts)
          (c.node.ensures.node ∙ ap (λ n. Some n) c.in-Choice.is) refl refl c.requires.1),
    ),
  ),
)

pub write_text-truncation_text-requires : goal.write_text-truncation_text-requires
write_text-truncation_text-requires g t c κs within = (
  omega (arith, c.decreases, c.requires.1.ready.few),
  (
    within,
    (
      c.requires.0,
      (stands_at_parts c.args.ground.plan.now (Trunc c.in-Trunc.parts)
          (c.node.ensures.node ∙ ap (λ n. Some n) c.in-Trunc.is) refl refl c.requires.1),
    ),
  ),
)

pub write_text-times_text-requires : goal.write_text-times_text-requires
write_text-times_text-requires g t c κs within = (
  omega (arith, c.decreases, c.requires.1.ready.few),
  (
    within,
    (
      c.requires.0,
      (stands_at_part c.args.ground.plan.now (Times c.in-Times.count c.in-Times.part)
          (c.node.ensures.node ∙ ap (λ n. Some n) c.in-Times.is) refl c.requires.1),
    ),
  ),
)

pub write_text-many_text-requires : goal.write_text-many_text-requires
write_text-many_text-requires g t c κs within = (
  omega (arith, c.decreases, c.requires.1.ready.few),
  (
    within,
    (
      c.requires.0,
      (stands_at_part c.args.ground.plan.now (Many c.in-Many.part)
          (c.node.ensures.node ∙ ap (λ n. Some n) c.in-Many.is) refl c.requires.1),
    ),
  ),
)

pub write_text-window_text-requires : goal.write_text-window_text-requires
write_text-window_text-requires g t c κs within = (
  omega (arith, c.decreases, c.requires.1.ready.few),
  (
    within,
    (
      c.requires.0,
      (stands_at_part c.args.ground.plan.now (Window c.in-Window.unit c.in-Window.count c.in-Window.part)
          (c.node.ensures.node ∙ ap (λ n. Some n) c.in-Window.is) refl c.requires.1),
    ),
  ),
)

pub write_text-named_text-requires : goal.write_text-named_text-requires
write_text-named_text-requires g t c κs within = (
  omega (arith, c.decreases, c.requires.1.ready.few),
  (
    within,
    (
      c.requires.0,
      (stands_at_part c.args.ground.plan.now (Named c.in-Named.label c.in-Named.part)
          (c.node.ensures.node ∙ ap (λ n. Some n) c.in-Named.is) refl c.requires.1),
    ),
  ),
)

pub write_text-returns-in-Times : goal.write_text-returns-in-Times
write_text-returns-in-Times g t c =
    on_some c.times_text.result
    (λ rest h. (
      h.0,
      h.1,
      λ v s. node_adds c.args.ground.plan.now
          (c.node.ensures.node ∙ ap (λ n. Some n) c.in-Times.is)
          (h.2 v c.in-Times.count (stands_at_part c.args.ground.plan.now (Times c.in-Times.count c.in-Times.part)
          (c.node.ensures.node ∙ ap (λ n. Some n) c.in-Times.is) refl s)
          (c.count_of-wanted.ensures.count c.args.ground.plan.now v
          (times_keeps c.args.ground.plan.now (c.node.ensures.node ∙ ap (λ n. Some n) c.in-Times.is) s))),
    ))
    c.times_text.ensures

pub write_text-returns-in-Many : goal.write_text-returns-in-Many
write_text-returns-in-Many g t c =
    on_some c.many_text.result
    (λ rest h. (
      h.0,
      h.1,
      λ v s. node_adds c.args.ground.plan.now
          (c.node.ensures.node ∙ ap (λ n. Some n) c.in-Many.is)
          (h.2 v c.args.i (c.node.ensures.node ∙ ap (λ n. Some n) c.in-Many.is)
          (stands_at_part c.args.ground.plan.now (Many c.in-Many.part)
          (c.node.ensures.node ∙ ap (λ n. Some n) c.in-Many.is) refl s)),
    )) c.many_text.ensures

pub write_text-returns-in-Window : goal.write_text-returns-in-Window
write_text-returns-in-Window g t c =
    on_some c.window_text.result
    (λ rest h. (
      h.0,
      h.1,
      λ v s. node_adds c.args.ground.plan.now
          (c.node.ensures.node ∙ ap (λ n. Some n) c.in-Window.is)
          (h.2 v c.in-Window.unit c.count_of-in-Window.result c.in-Window.count
          (stands_at_part c.args.ground.plan.now (Window c.in-Window.unit c.in-Window.count c.in-Window.part)
          (c.node.ensures.node ∙ ap (λ n. Some n) c.in-Window.is) refl s)
          (c.count_of-in-Window.ensures.count c.args.ground.plan.now v
          (window_keeps c.args.ground.plan.now (c.node.ensures.node ∙ ap (λ n. Some n) c.in-Window.is) s))
          (ap (λ k. k * c.count_of-in-Window.result) c.from-in-Window.ensures)),
    )) c.window_text.ensures

pub write_text-returns-in-Named : goal.write_text-returns-in-Named
write_text-returns-in-Named g t c =
    on_some c.named_text.result
    (λ rest h. (
      h.0,
      h.1,
      λ v s. node_adds c.args.ground.plan.now
          (c.node.ensures.node ∙ ap (λ n. Some n) c.in-Named.is)
          (h.2 v (stands_at_part c.args.ground.plan.now (Named c.in-Named.label c.in-Named.part)
          (c.node.ensures.node ∙ ap (λ n. Some n) c.in-Named.is) refl s)),
    )) c.named_text.ensures

pub choice_text-write_text-requires : goal.choice_text-write_text-requires
choice_text-write_text-requires g t c κs within = (
  omega (arith, c.decreases, c.requires.1.ready.few),
  (
    within,
    (
      c.requires.0,
      stands_in_window c.args.ground.plan.now
          (alternative_stands c.args.ground.plan.now c.in_ok-number.number c.get.ensures c.requires.1),
    ),
  ),
)

pub choice_text-returns : goal.choice_text-returns
choice_text-returns g t c =
    let h = c.in_ok-rest.ensures in
    on_some c.behind_closing.result
    (λ rest closed. (
      alt c.in_ok-number.number h.0,
      alternative_begins c.args.ground.form c.texts_are_joined.ensures c.in_ok-number.number h.0 _ _ _ _
          c.in_ok-number.ensures.begins h.1 closed,
      λ v s. choice_adds c.args.ground.plan.now c.in_ok-number.number h.0 refl
          c.get.ensures
          (h.2 v (stands_in_window c.args.ground.plan.now
          (alternative_stands c.args.ground.plan.now c.in_ok-number.number c.get.ensures s))),
    )) c.behind_closing.ensures

pub named_text-returns : goal.named_text-returns
named_text-returns g t c =
    let h = c.in_ok-rest.ensures in
    on_some c.behind_closing.result
    (λ rest closed. (
      named c.bytes.result.now h.0,
      label_begins c.args.ground.form c.texts_are_joined.ensures c.bytes.result.now c.bytes.ensures.label h.0 _ _ _ _
          c.in_ok-tail.ensures h.1 closed,
      λ v s. named_adds c.args.ground.plan.now c.bytes.result.now h.0 refl c.bytes.ensures.value
          (h.2 v (stands_in_window c.args.ground.plan.now s)),
    )) c.behind_closing.ensures

pub many_text-returns : goal.many_text-returns
many_text-returns g t c =
    let h = c.in_ok-row.ensures in (
      row (trees_of h.0),
      row_begins c.args.ground.form c.texts_are_joined.ensures h.0 _ _ _ c.in_ok-behind.ensures h.2,
      λ v i at s. many_adds
          c.args.ground.plan.now h.0 refl (λ o b u m. c.turns_have_bits.ensures.free c.args.ground.plan.now 12 i
          c.args.part o v b u s.ready.description s.ready.certified at m) (h.3 v s),
    )

pub times_text-returns : goal.times_text-returns
times_text-returns g t c =
    let h = c.in_ok-row.ensures in (
      row (trees_of h.0),
      row_begins c.args.ground.form c.texts_are_joined.ensures h.0 _ _ _ c.in_ok-behind.ensures h.2,
      λ v count s counted. times_adds
          c.args.ground.plan.now h.0 c.args.wanted refl counted (h.1 ∙ c.if-row-wanted.false) (h.3 v s),
    )

pub sequence_text-returns : goal.sequence_text-returns
sequence_text-returns g t c =
    let h = c.in_ok-row.ensures in (
      row (trees_of h.0),
      row_begins c.args.ground.form c.texts_are_joined.ensures h.0 _ _ _ c.in_ok-behind.ensures h.2,
      λ v s. seq_adds c.args.ground.plan.now
          h.0 refl (h.1 ∙ c.if-row-from.false ∙ c.from.ensures ∙ c.len.ensures.len) (h.3 v s),
    )

pub truncation_text-returns : goal.truncation_text-returns
truncation_text-returns g t c =
    let h = c.in_ok-row.ensures in (
      row (trees_of h.0),
      row_begins c.args.ground.form c.texts_are_joined.ensures h.0 _ _ _ c.in_ok-behind.ensures h.2,
      λ v s. trunc_adds c.args.ground.plan.now
          h.0 refl (omega (arith, h.1, c.if-row.false)) (h.3 v s),
    )

pub window_text-returns : goal.window_text-returns
window_text-returns g t c =
    let h = c.in_ok-rest.ensures in (
      h.0,
      h.1,
      λ v unit n count s counted all. window_adds c.args.ground.plan.now n c.args.wanted counted all
          (let same = c.if-len-from.false in omega (arith, same, c.len.ensures.count, c.len-from.ensures.count))
          (h.2 v (stands_in_window c.args.ground.plan.now s)),
    )

pub times_text-turns_text-requires : goal.times_text-turns_text-requires
times_text-turns_text-requires g t c κs within = (omega (arith, c.decreases), (within, c.requires))

pub many_text-turns_text-requires : goal.many_text-turns_text-requires
many_text-turns_text-requires g t c κs within = (omega (arith, c.decreases), (within, c.requires))

pub window_text-write_text-requires : goal.window_text-write_text-requires
window_text-write_text-requires g t c κs within =
    (omega (arith, c.decreases, c.requires.1.ready.few), (within, some_in_window c.args.ground.plan.now c.requires))

pub named_text-write_text-requires : goal.named_text-write_text-requires
named_text-write_text-requires g t c κs within =
    (omega (arith, c.decreases, c.requires.1.ready.few), (within, some_in_window c.args.ground.plan.now c.requires))

pub choice_text-overflow_add-round : goal.choice_text-overflow_add-round
choice_text-overflow_add-round g t c = omega (arith, c.requires.1.ready.few)

pub window_text-overflow_add-round : goal.window_text-overflow_add-round
window_text-overflow_add-round g t c = omega (arith, c.requires.1.ready.few)

pub named_text-overflow_add-round : goal.named_text-overflow_add-round
named_text-overflow_add-round g t c = omega (arith, c.requires.1.ready.few)

pub parts_text-overflow_add-round : goal.parts_text-overflow_add-round
parts_text-overflow_add-round g t c = omega (arith, c.requires.1.ready.few)

pub turns_text-overflow_add-round : goal.turns_text-overflow_add-round
turns_text-overflow_add-round g t c = omega (arith, c.requires.1.ready.few)

pub sequence_text-parts_text-requires : goal.sequence_text-parts_text-requires
sequence_text-parts_text-requires g t c κs within = (omega (arith, c.decreases), (within, c.requires))

pub truncation_text-parts_text-requires : goal.truncation_text-parts_text-requires
truncation_text-parts_text-requires g t c κs within = (omega (arith, c.decreases), (within, c.requires))

pub parts_text-loop-part-init : goal.parts_text-loop-part-init
parts_text-loop-part-init g t c =
    parts_along c.args.ground.plan.now c.args.ground.form c.args.parts.now c.args.round c.args.self.now c.args.text.now

pub parts_text-write_text-requires : goal.parts_text-write_text-requires
parts_text-write_text-requires g t c κs within =
    let n = part_next c.args.ground.plan.now c.args.ground.form c.loop-part.invariant c.get-part.ensures c.requires.0 c.requires.1 in
    (omega (arith, c.decreases, c.requires.1.ready.few), (within, (n.0, n.1)))

pub parts_text-keep-requires-clause-part : goal.parts_text-keep-requires-clause-part
parts_text-keep-requires-clause-part g t c =
    let n = part_next c.args.ground.plan.now c.args.ground.form c.loop-part.invariant c.get-part.ensures c.requires.0 c.requires.1 in
    part_within c.args.ground.plan.now n.3.is_formed

pub parts_text-keep-requires-clause-from : goal.parts_text-keep-requires-clause-from
parts_text-keep-requires-clause-from g t c =
    let n = part_next c.args.ground.plan.now c.args.ground.form c.loop-part.invariant c.get-part.ensures c.requires.0 c.requires.1 in
    part_behind c.args.ground.plan.now c.len-from.result c.len-from.ensures.count (c.in_ok-rest.ensures.2 n.0 n.1)

pub parts_text-keep-requires-clause-few : goal.parts_text-keep-requires-clause-few
parts_text-keep-requires-clause-few g t c =
    let n = part_next c.args.ground.plan.now c.args.ground.form c.loop-part.invariant c.get-part.ensures c.requires.0 c.requires.1 in
    λ counted. part_few c.args.ground.plan.now c.len-from.result c.len-from.ensures.count n.2
    (c.in_ok-rest.ensures.2 n.0 n.1) counted

pub parts_text-keep-requires-clause-room : goal.parts_text-keep-requires-clause-room
parts_text-keep-requires-clause-room g t c =
    let n = part_next c.args.ground.plan.now c.args.ground.form c.loop-part.invariant c.get-part.ensures c.requires.0 c.requires.1 in
    λ counted. part_room c.args.ground.plan.now n.3 (c.in_ok-rest.ensures.2 n.0 n.1) counted

pub parts_text-loop-part-preserved-then-len-from : goal.parts_text-loop-part-preserved-then-len-from
parts_text-loop-part-preserved-then-len-from g t c =
    part_more c.args.ground.plan.now c.args.ground.form c.in_ok-rest.ensures.0 c.len-from.result c.len-from.ensures.count
    c.loop-part.invariant c.get-part.ensures c.in_ok-next_tree.ensures.first c.in_ok-next_tree.ensures.later
    c.in_ok-rest.ensures.1 c.in_ok-rest.ensures.2 c.keep.ensures.bits c.keep.ensures.path c.keep.ensures.numbers
    (inl (
      let more = c.if-len-from.true in
          omega (arith, more, c.len-from.ensures.count, c.len-in-loop-part.ensures.count),
      refl,
    ))

pub parts_text-loop-part-preserved : goal.parts_text-loop-part-preserved
parts_text-loop-part-preserved g t c =
    part_more c.args.ground.plan.now c.args.ground.form c.in_ok-rest.ensures.0 c.len-from.result c.len-from.ensures.count
    c.loop-part.invariant c.get-part.ensures c.in_ok-next_tree.ensures.first c.in_ok-next_tree.ensures.later
    c.in_ok-rest.ensures.1 c.in_ok-rest.ensures.2 c.keep.ensures.bits c.keep.ensures.path c.keep.ensures.numbers
    (inr (
      let same = c.if-len-from.false in
          omega (arith, same, c.len-from.ensures.count, c.len-in-loop-part.ensures.count),
      refl,
    ))

pub parts_text-returns : goal.parts_text-returns
parts_text-returns g t c =
    parts_end c.args.ground.plan.now c.args.ground.form c.loop-part.invariant c.in_ok-rest-2.ensures refl refl
    (c.truncate.ensures.items ∙ ap (λ n. take n c.loop-part.self.numbers.items) c.len-seen.ensures.value)

pub turns_text-loop-self-init : goal.turns_text-loop-self-init
turns_text-loop-self-init g t c =
    turns_along c.args.ground.plan.now c.args.ground.form c.args.part c.args.round c.args.self.now c.args.text.now

pub turns_text-write_text-requires : goal.turns_text-write_text-requires
turns_text-write_text-requires g t c κs within = (
  omega (arith, c.decreases, c.requires.1.ready.few),
  (within, (c.requires.0, turn_next c.args.ground.plan.now c.args.ground.form c.loop-self.invariant c.requires.0 c.requires.1)),
)

pub turns_text-loop-self-preserved : goal.turns_text-loop-self-preserved
turns_text-loop-self-preserved g t c =
    turn_more c.args.ground.plan.now c.args.ground.form c.in_ok-rest.ensures.0 c.loop-self.invariant c.in_ok-next_tree.ensures.first
    c.in_ok-next_tree.ensures.later c.in_ok-rest.ensures.1 c.in_ok-rest.ensures.2

pub turns_text-returns : goal.turns_text-returns
turns_text-returns g t c =
    turns_end c.args.ground.plan.now c.args.ground.form c.loop-self.invariant c.in_ok-rest-2.ensures

pub parts_text-get-part-requires : goal.parts_text-get-part-requires
parts_text-get-part-requires g t c = omega (arith, c.loop-part-test.ensures refl, c.from.ensures, c.len.ensures.len)

pub parts_text-loop-part-smaller : goal.parts_text-loop-part-smaller
parts_text-loop-part-smaller g t c = omega (arith, c.loop-part-test.ensures refl, c.from.ensures, c.len.ensures.len)

pub parts_text-loop-part-smaller-then-len-from : goal.parts_text-loop-part-smaller-then-len-from
parts_text-loop-part-smaller-then-len-from g t c = omega (arith, c.loop-part-test.ensures refl, c.from.ensures, c.len.ensures.len)

pub turns_text-loop-self-smaller : goal.turns_text-loop-self-smaller
turns_text-loop-self-smaller g t c = omega (arith, c.loop-self-test.ensures refl)

pub turns_text-overflow_add-count : goal.turns_text-overflow_add-count
turns_text-overflow_add-count g t c = omega (arith, c.loop-self-test.ensures refl, c.ranges.most.fits)
