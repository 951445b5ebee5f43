use Rattle.std.proofs.Common.{◌*◌, inl, inr, take, refl, sym, ◌∙◌, ap, arith, Some}
use Rattle.csn_desc.specs.declared.node.Node.TheVariants.{Seq, Choice, Times, Many, Trunc, Window, Named}
use Rattle.csn_desc.specs.TreeV.{alt, named}
use Rattle.std.proofs.lemmas.Result.{err_from_is_err_and}
use Rattle.csn_encode.proofs.NodeKinds.{on_ok, if_misfit, passed, alike, differ, no_row, no_choice, no_named, kind_missed, viewed}
use Rattle.csn_encode.proofs.Steps.{node_adds, node_misses, field_keeps, times_keeps, window_keeps, stands_at_part}
use Rattle.csn_encode.proofs.Steps.{stands_at_parts, alternative_stands, part_within, part_behind, part_few}
use Rattle.csn_encode.proofs.Steps.{part_room, stands_inside, stands_in_window, some_in_window, adds_below}
use Rattle.csn_encode.proofs.Steps.{misses_below, parts_begin, part_stands, part_misses, parts_more, parts_all}
use Rattle.csn_encode.proofs.Steps.{turns_begin, turn_misses, turns_more, turns_all, seq_adds, seq_misses, seq_wrong}
use Rattle.csn_encode.proofs.Steps.{trunc_adds, trunc_misses, trunc_wrong, trunc_idle, choice_adds, choice_misses}
use Rattle.csn_encode.proofs.Steps.{choice_none, named_adds, named_misses, named_wrong, times_adds, times_misses}
use Rattle.csn_encode.proofs.Steps.{times_wrong, many_adds, many_misses, window_adds, window_misses, window_wrong}
use Rattle.csn_encode.proofs.draft.Draft.+write.Goals.{parts-then-len-from, parts-else-len-from}
use Rattle.csn_encode.proofs.draft.Draft.+write.Goals as goal

pub write-count_of-requires : goal.write-count_of-requires
write-count_of-requires g t c =
    (c.args.plan.now, c.requires.0, field_keeps c.args.plan.now (c.node.ensures.node ∙ ap (λ n. Some n) c.in-Field.is) c.requires.1)

pub write-count_of-wanted-requires : goal.write-count_of-wanted-requires
write-count_of-wanted-requires g t c =
    (c.args.plan.now, c.requires.0, times_keeps c.args.plan.now (c.node.ensures.node ∙ ap (λ n. Some n) c.in-Times.is) c.requires.1)

pub write-count_of-requires-in-Window : goal.write-count_of-requires-in-Window
write-count_of-requires-in-Window g t c =
    (c.args.plan.now, c.requires.0, window_keeps c.args.plan.now (c.node.ensures.node ∙ ap (λ n. Some n) c.in-Window.is) c.requires.1)

pub write-sequence-requires : goal.write-sequence-requires
write-sequence-requires g t c κs within = (
  omega (arith, c.decreases, c.requires.1.ready.few),
  (
    within,
    (
      c.requires.0,
      stands_at_parts c.args.plan.now (Seq c.in-Seq.parts)
          (c.node.ensures.node ∙ ap (λ n. Some n) c.in-Seq.is) refl refl c.requires.1,
    ),
  ),
)

pub write-choice-requires : goal.write-choice-requires
write-choice-requires g t c κs within = (
  omega (arith, c.decreases, c.requires.1.ready.few),
  (
    within,
    (
      c.requires.0,
      stands_at_parts c.args.plan.now (Choice c.in-Choice.parts)
          (c.node.ensures.node ∙ ap (λ n. Some n) c.in-Choice.is) refl refl c.requires.1,
    ),
  ),
)

pub write-truncation-requires : goal.write-truncation-requires
write-truncation-requires g t c κs within = (
  omega (arith, c.decreases, c.requires.1.ready.few),
  (
    within,
    (
      c.requires.0,
      stands_at_parts c.args.plan.now (Trunc c.in-Trunc.parts)
          (c.node.ensures.node ∙ ap (λ n. Some n) c.in-Trunc.is) refl refl c.requires.1,
    ),
  ),
)

pub write-times-requires : goal.write-times-requires
write-times-requires g t c κs within = (
  omega (arith, c.decreases, c.requires.1.ready.few),
  (
    within,
    (
      c.requires.0,
      stands_at_part c.args.plan.now (Times c.in-Times.count c.in-Times.part)
          (c.node.ensures.node ∙ ap (λ n. Some n) c.in-Times.is) refl c.requires.1,
    ),
  ),
)

pub write-many-requires : goal.write-many-requires
write-many-requires g t c κs within = (
  omega (arith, c.decreases, c.requires.1.ready.few),
  (
    within,
    (
      c.requires.0,
      stands_at_part c.args.plan.now (Many c.in-Many.part)
          (c.node.ensures.node ∙ ap (λ n. Some n) c.in-Many.is) refl c.requires.1,
    ),
  ),
)

pub write-window-requires : goal.write-window-requires
write-window-requires g t c κs within = (
  omega (arith, c.decreases, c.requires.1.ready.few),
  (
    within,
    (
      c.requires.0,
      stands_at_part c.args.plan.now
          (Window c.in-Window.unit c.in-Window.count c.in-Window.part)
          (c.node.ensures.node ∙ ap (λ n. Some n) c.in-Window.is) refl c.requires.1,
    ),
  ),
)

pub write-named-requires : goal.write-named-requires
write-named-requires g t c κs within = (
  omega (arith, c.decreases, c.requires.1.ready.few),
  (
    within,
    (
      c.requires.0,
      stands_at_part c.args.plan.now (Named c.in-Named.label c.in-Named.part)
          (c.node.ensures.node ∙ ap (λ n. Some n) c.in-Named.is) refl c.requires.1,
    ),
  ),
)

pub write-returns-in-Lits-clause-added : goal.write-returns-in-Lits-clause-added
write-returns-in-Lits-clause-added g t c =
    on_ok c.literal.result (λ h v s. node_adds c.args.plan.now (c.node.ensures.node ∙ ap (λ n. Some n) c.in-Lits.is)
    (h c.args.plan.now v)) c.literal.ensures.added

pub write-returns-in-Rest-clause-added : goal.write-returns-in-Rest-clause-added
write-returns-in-Rest-clause-added g t c =
    on_ok c.rest.result (λ h v s. node_adds c.args.plan.now (c.node.ensures.node ∙ ap (λ n. Some n) c.in-Rest.is) (h c.args.plan.now v)) c.rest.ensures.added

pub write-returns-in-Null-clause-added : goal.write-returns-in-Null-clause-added
write-returns-in-Null-clause-added g t c =
    on_ok c.null.result (λ h v s. node_adds c.args.plan.now (c.node.ensures.node ∙ ap (λ n. Some n) c.in-Null.is) (h c.args.plan.now v)) c.null.ensures.added

pub write-returns-in-Spare-clause-added : goal.write-returns-in-Spare-clause-added
write-returns-in-Spare-clause-added g t c =
    on_ok c.spare.result (λ h v s. node_adds c.args.plan.now (c.node.ensures.node ∙ ap (λ n. Some n) c.in-Spare.is)
    (h c.args.plan.now v (sym c.reading.ensures))) c.spare.ensures.added

pub write-returns-in-Pad-clause-added : goal.write-returns-in-Pad-clause-added
write-returns-in-Pad-clause-added g t c =
    on_ok c.padding.result (λ h v s. node_adds c.args.plan.now (c.node.ensures.node ∙ ap (λ n. Some n) c.in-Pad.is)
    (h c.args.plan.now v (sym c.reading-in-Pad.ensures))) c.padding.ensures.added

pub write-returns-in-Field-clause-added : goal.write-returns-in-Field-clause-added
write-returns-in-Field-clause-added g t c =
    on_ok c.field.result (λ h v s. node_adds c.args.plan.now (c.node.ensures.node ∙ ap (λ n. Some n) c.in-Field.is)
    (h c.args.plan.now v c.in-Field.unit c.in-Field.count c.count_of.result
    (c.count_of.ensures.count c.args.plan.now v
    (field_keeps c.args.plan.now (c.node.ensures.node ∙ ap (λ n. Some n) c.in-Field.is) s))
    (ap (λ k. k * c.count_of.result) c.from.ensures))) c.field.ensures.added

pub write-returns-in-Seq-clause-added : goal.write-returns-in-Seq-clause-added
write-returns-in-Seq-clause-added g t c =
    on_ok c.sequence.result (λ h v s. node_adds c.args.plan.now (c.node.ensures.node ∙ ap (λ n. Some n) c.in-Seq.is)
    (h v (stands_at_parts c.args.plan.now (Seq c.in-Seq.parts)
    (c.node.ensures.node ∙ ap (λ n. Some n) c.in-Seq.is) refl refl s))) c.sequence.ensures.added

pub write-returns-in-Choice-clause-added : goal.write-returns-in-Choice-clause-added
write-returns-in-Choice-clause-added g t c =
    on_ok c.choice.result (λ h v s. node_adds c.args.plan.now (c.node.ensures.node ∙ ap (λ n. Some n) c.in-Choice.is)
    (h v (stands_at_parts c.args.plan.now (Choice c.in-Choice.parts)
    (c.node.ensures.node ∙ ap (λ n. Some n) c.in-Choice.is) refl refl s))) c.choice.ensures.added

pub write-returns-in-Times-clause-added : goal.write-returns-in-Times-clause-added
write-returns-in-Times-clause-added g t c =
    on_ok c.times.result (λ h v s. node_adds c.args.plan.now (c.node.ensures.node ∙ ap (λ n. Some n) c.in-Times.is)
    (h v c.in-Times.count (stands_at_part c.args.plan.now (Times c.in-Times.count c.in-Times.part)
    (c.node.ensures.node ∙ ap (λ n. Some n) c.in-Times.is) refl s)
    (c.count_of-wanted.ensures.count c.args.plan.now v
    (times_keeps c.args.plan.now (c.node.ensures.node ∙ ap (λ n. Some n) c.in-Times.is) s))))
    c.times.ensures.added

pub write-returns-in-Many-clause-added : goal.write-returns-in-Many-clause-added
write-returns-in-Many-clause-added g t c =
    on_ok c.many.result (λ h v s. node_adds c.args.plan.now (c.node.ensures.node ∙ ap (λ n. Some n) c.in-Many.is)
    (h v c.args.i (c.node.ensures.node ∙ ap (λ n. Some n) c.in-Many.is)
    (stands_at_part c.args.plan.now (Many c.in-Many.part) (c.node.ensures.node ∙ ap (λ n. Some n) c.in-Many.is)
    refl s))) c.many.ensures.added

pub write-returns-in-Trunc-clause-added : goal.write-returns-in-Trunc-clause-added
write-returns-in-Trunc-clause-added g t c =
    on_ok c.truncation.result
    (λ h v s. node_adds c.args.plan.now (c.node.ensures.node ∙ ap (λ n. Some n) c.in-Trunc.is)
    (h v (stands_at_parts c.args.plan.now (Trunc c.in-Trunc.parts)
    (c.node.ensures.node ∙ ap (λ n. Some n) c.in-Trunc.is) refl refl s))) c.truncation.ensures.added

pub write-returns-in-Window-clause-added : goal.write-returns-in-Window-clause-added
write-returns-in-Window-clause-added g t c =
    on_ok c.window.result (λ h v s. node_adds c.args.plan.now (c.node.ensures.node ∙ ap (λ n. Some n) c.in-Window.is)
    (h v c.in-Window.unit c.count_of-in-Window.result c.in-Window.count
    (stands_at_part c.args.plan.now (Window c.in-Window.unit c.in-Window.count c.in-Window.part)
    (c.node.ensures.node ∙ ap (λ n. Some n) c.in-Window.is) refl s)
    (c.count_of-in-Window.ensures.count c.args.plan.now v
    (window_keeps c.args.plan.now (c.node.ensures.node ∙ ap (λ n. Some n) c.in-Window.is) s))
    (ap (λ k. k * c.count_of-in-Window.result) c.from-in-Window.ensures))) c.window.ensures.added

pub write-returns-in-Named-clause-added : goal.write-returns-in-Named-clause-added
write-returns-in-Named-clause-added g t c =
    on_ok c.named.result (λ h v s. node_adds c.args.plan.now (c.node.ensures.node ∙ ap (λ n. Some n) c.in-Named.is)
    (h v (stands_at_part c.args.plan.now (Named c.in-Named.label c.in-Named.part)
    (c.node.ensures.node ∙ ap (λ n. Some n) c.in-Named.is) refl s))) c.named.ensures.added

pub write-returns-in-Lits-clause-missed : goal.write-returns-in-Lits-clause-missed
write-returns-in-Lits-clause-missed g t c =
    if_misfit c.literal.result (λ why h v s. node_misses c.args.plan.now
    (c.node.ensures.node ∙ ap (λ n. Some n) c.in-Lits.is) (h c.args.plan.now v)) c.literal.ensures.missed

pub write-returns-in-Rest-clause-missed : goal.write-returns-in-Rest-clause-missed
write-returns-in-Rest-clause-missed g t c =
    if_misfit c.rest.result (λ why h v s. node_misses c.args.plan.now
    (c.node.ensures.node ∙ ap (λ n. Some n) c.in-Rest.is) (h c.args.plan.now v)) c.rest.ensures.missed

pub write-returns-in-Null-clause-missed : goal.write-returns-in-Null-clause-missed
write-returns-in-Null-clause-missed g t c =
    if_misfit c.null.result (λ why h v s. node_misses c.args.plan.now
    (c.node.ensures.node ∙ ap (λ n. Some n) c.in-Null.is) (h c.args.plan.now v)) c.null.ensures.missed

pub write-returns-in-Spare-clause-missed : goal.write-returns-in-Spare-clause-missed
write-returns-in-Spare-clause-missed g t c =
    if_misfit c.spare.result (λ why h v s. node_misses c.args.plan.now
    (c.node.ensures.node ∙ ap (λ n. Some n) c.in-Spare.is) (h c.args.plan.now v (sym c.reading.ensures)))
    c.spare.ensures.missed

pub write-returns-in-Pad-clause-missed : goal.write-returns-in-Pad-clause-missed
write-returns-in-Pad-clause-missed g t c =
    if_misfit c.padding.result (λ why h v s. node_misses c.args.plan.now
    (c.node.ensures.node ∙ ap (λ n. Some n) c.in-Pad.is) (h c.args.plan.now v (sym c.reading-in-Pad.ensures)))
    c.padding.ensures.missed

pub write-returns-in-Field-clause-missed : goal.write-returns-in-Field-clause-missed
write-returns-in-Field-clause-missed g t c =
    if_misfit c.field.result (λ why h v s. node_misses c.args.plan.now
    (c.node.ensures.node ∙ ap (λ n. Some n) c.in-Field.is)
    (h c.args.plan.now v c.in-Field.unit c.in-Field.count c.count_of.result
    (c.count_of.ensures.count c.args.plan.now v
    (field_keeps c.args.plan.now (c.node.ensures.node ∙ ap (λ n. Some n) c.in-Field.is) s))
    (ap (λ k. k * c.count_of.result) c.from.ensures))) c.field.ensures.missed

pub write-returns-in-Seq-clause-missed : goal.write-returns-in-Seq-clause-missed
write-returns-in-Seq-clause-missed g t c =
    if_misfit c.sequence.result (λ why h v s. node_misses c.args.plan.now
    (c.node.ensures.node ∙ ap (λ n. Some n) c.in-Seq.is)
    (h v (stands_at_parts c.args.plan.now (Seq c.in-Seq.parts)
    (c.node.ensures.node ∙ ap (λ n. Some n) c.in-Seq.is) refl refl s))) c.sequence.ensures.missed

pub write-returns-in-Choice-clause-missed : goal.write-returns-in-Choice-clause-missed
write-returns-in-Choice-clause-missed g t c =
    if_misfit c.choice.result (λ why h v s. node_misses c.args.plan.now
    (c.node.ensures.node ∙ ap (λ n. Some n) c.in-Choice.is)
    (h v (stands_at_parts c.args.plan.now (Choice c.in-Choice.parts)
    (c.node.ensures.node ∙ ap (λ n. Some n) c.in-Choice.is) refl refl s))) c.choice.ensures.missed

pub write-returns-in-Times-clause-missed : goal.write-returns-in-Times-clause-missed
write-returns-in-Times-clause-missed g t c =
    if_misfit c.times.result (λ why h v s. node_misses c.args.plan.now
    (c.node.ensures.node ∙ ap (λ n. Some n) c.in-Times.is)
    (h v c.in-Times.count (stands_at_part c.args.plan.now (Times c.in-Times.count c.in-Times.part)
    (c.node.ensures.node ∙ ap (λ n. Some n) c.in-Times.is) refl s)
    (c.count_of-wanted.ensures.count c.args.plan.now v
    (times_keeps c.args.plan.now (c.node.ensures.node ∙ ap (λ n. Some n) c.in-Times.is) s))))
    c.times.ensures.missed

pub write-returns-in-Many-clause-missed : goal.write-returns-in-Many-clause-missed
write-returns-in-Many-clause-missed g t c =
    if_misfit c.many.result (λ why h v s. node_misses c.args.plan.now
    (c.node.ensures.node ∙ ap (λ n. Some n) c.in-Many.is)
    (h v c.args.i (c.node.ensures.node ∙ ap (λ n. Some n) c.in-Many.is)
    (stands_at_part c.args.plan.now (Many c.in-Many.part) (c.node.ensures.node ∙ ap (λ n. Some n) c.in-Many.is)
    refl s))) c.many.ensures.missed

pub write-returns-in-Trunc-clause-missed : goal.write-returns-in-Trunc-clause-missed
write-returns-in-Trunc-clause-missed g t c =
    if_misfit c.truncation.result (λ why h v s. node_misses c.args.plan.now
    (c.node.ensures.node ∙ ap (λ n. Some n) c.in-Trunc.is)
    (h v (stands_at_parts c.args.plan.now (Trunc c.in-Trunc.parts)
    (c.node.ensures.node ∙ ap (λ n. Some n) c.in-Trunc.is) refl refl s))) c.truncation.ensures.missed

pub write-returns-in-Window-clause-missed : goal.write-returns-in-Window-clause-missed
write-returns-in-Window-clause-missed g t c =
    if_misfit c.window.result (λ why h v s. node_misses c.args.plan.now
    (c.node.ensures.node ∙ ap (λ n. Some n) c.in-Window.is)
    (h v c.in-Window.unit c.count_of-in-Window.result c.in-Window.count
    (stands_at_part c.args.plan.now (Window c.in-Window.unit c.in-Window.count c.in-Window.part)
    (c.node.ensures.node ∙ ap (λ n. Some n) c.in-Window.is) refl s)
    (c.count_of-in-Window.ensures.count c.args.plan.now v
    (window_keeps c.args.plan.now (c.node.ensures.node ∙ ap (λ n. Some n) c.in-Window.is) s))
    (ap (λ k. k * c.count_of-in-Window.result) c.from-in-Window.ensures))) c.window.ensures.missed

pub write-returns-in-Named-clause-missed : goal.write-returns-in-Named-clause-missed
write-returns-in-Named-clause-missed g t c =
    if_misfit c.named.result (λ why h v s. node_misses c.args.plan.now
    (c.node.ensures.node ∙ ap (λ n. Some n) c.in-Named.is)
    (h v (stands_at_part c.args.plan.now (Named c.in-Named.label c.in-Named.part)
    (c.node.ensures.node ∙ ap (λ n. Some n) c.in-Named.is) refl s))) c.named.ensures.missed

pub sequence-returns-in_default : goal.sequence-returns-in_default
sequence-returns-in_default g t c =
    record {
      added = tt;
      missed = λ v s. kind_missed c.args.plan.now (Seq c.args.parts.now)
          c.tree.inside.shape c.tree.view_is (no_row (Seq c.args.parts.now) refl (λ b. refl) (λ j t. refl) (λ l t. refl)
          c.tree.inside.shape c.in_default.not-Row);
    }

pub truncation-returns-in_default : goal.truncation-returns-in_default
truncation-returns-in_default g t c =
    record {
      added = tt;
      missed = λ v s. kind_missed c.args.plan.now (Trunc c.args.parts.now)
          c.tree.inside.shape c.tree.view_is (no_row (Trunc c.args.parts.now) refl (λ b. refl) (λ j t. refl)
          (λ l t. refl) c.tree.inside.shape c.in_default.not-Row);
    }

pub choice-returns-in_default : goal.choice-returns-in_default
choice-returns-in_default g t c =
    record {
      added = tt;
      missed = λ v s. kind_missed c.args.plan.now (Choice c.args.parts.now)
          c.tree.inside.shape c.tree.view_is (no_choice c.args.parts.now c.tree.inside.shape c.in_default.not-Alt);
    }

pub times-returns-in_default : goal.times-returns-in_default
times-returns-in_default g t c =
    record {
      added = tt;
      missed = λ v count s counted. kind_missed c.args.plan.now (Times count c.args.part)
          c.tree.inside.shape c.tree.view_is (no_row (Times count c.args.part) refl (λ b. refl) (λ j t. refl)
          (λ l t. refl) c.tree.inside.shape c.in_default.not-Row);
    }

pub many-returns-in_default : goal.many-returns-in_default
many-returns-in_default g t c =
    record {
      added = tt;
      missed = λ v i at s. kind_missed c.args.plan.now (Many c.args.part)
          c.tree.inside.shape c.tree.view_is (no_row (Many c.args.part) refl (λ b. refl) (λ j t. refl) (λ l t. refl)
          c.tree.inside.shape c.in_default.not-Row);
    }

pub named-returns-in_default : goal.named-returns-in_default
named-returns-in_default g t c =
    record {
      added = tt;
      missed = λ v s. kind_missed c.args.plan.now (Named c.args.label.now c.args.part)
          c.tree.inside.shape c.tree.view_is
          (no_named c.args.label.now c.args.part c.tree.inside.shape c.in_default.not-Named);
    }

pub sequence-returns-then-found-wanted-clause-missed : goal.sequence-returns-then-found-wanted-clause-missed
sequence-returns-then-found-wanted-clause-missed g t c =
    λ v s. seq_wrong c.args.plan.now c.in-Row.rows c.from-wanted.result c.len-found.result
    (viewed c.tree.view_is c.in-Row.is) (c.from-wanted.ensures ∙ c.len.ensures.len)
    c.len-found.ensures.len c.if-found-wanted.true

pub sequence-returns-in_err-parts-clause-missed : goal.sequence-returns-in_err-parts-clause-missed
sequence-returns-in_err-parts-clause-missed g t c =
    let p = err_from_is_err_and c.from_residual.result c.from_residual.ensures.1 in
    passed c.from_residual.result p.0 c.in_err-parts.field-0.0 p.1 p.2
    (λ why h v s. seq_misses c.args.plan.now c.in-Row.rows (viewed c.tree.view_is c.in-Row.is)
    (sym c.len-found.ensures.len ∙ c.if-found-wanted.false ∙ c.from-wanted.ensures ∙ c.len.ensures.len) (h v s))
    c.in_err-parts.ensures.missed

pub sequence-returns-clause-added : goal.sequence-returns-clause-added
sequence-returns-clause-added g t c =
    λ v s. seq_adds c.args.plan.now c.in-Row.rows (viewed c.tree.view_is c.in-Row.is)
    (sym c.len-found.ensures.len ∙ c.if-found-wanted.false ∙ c.from-wanted.ensures ∙ c.len.ensures.len)
    (c.in_ok-parts.ensures.added v s)

pub truncation-returns-then-found-most-clause-missed : goal.truncation-returns-then-found-most-clause-missed
truncation-returns-then-found-most-clause-missed g t c =
    λ v s. trunc_wrong c.args.plan.now c.in-Row.rows c.from-most.result c.len-found.result
    (viewed c.tree.view_is c.in-Row.is) (c.from-most.ensures ∙ c.len.ensures.len)
    c.len-found.ensures.len c.if-found-most.true

pub truncation-returns-in_err-wanted-clause-missed : goal.truncation-returns-in_err-wanted-clause-missed
truncation-returns-in_err-wanted-clause-missed g t c =
    let p = err_from_is_err_and c.from_residual.result c.from_residual.ensures.1 in
    passed c.from_residual.result p.0 c.in_err-wanted.field-0.0 p.1 p.2
    (λ why h v s. trunc_misses c.args.plan.now c.in-Row.rows (viewed c.tree.view_is c.in-Row.is) (let over =
    c.if-found-most.false in omega (arith, over, c.len-found.ensures.len, c.from-most.ensures, c.len.ensures.len))
    (h v s)) c.in_err-wanted.ensures.missed

pub truncation-returns-then-wanted-found-clause-missed : goal.truncation-returns-then-wanted-found-clause-missed
truncation-returns-then-wanted-found-clause-missed g t c =
    λ v s. trunc_idle c.args.plan.now c.in-Row.rows c.in_ok-wanted.wanted c.len-found.result
    (viewed c.tree.view_is c.in-Row.is) c.len-found.ensures.len c.if-wanted-found.true
    (c.in_ok-wanted.ensures.added v s)

pub truncation-returns-clause-added : goal.truncation-returns-clause-added
truncation-returns-clause-added g t c =
    λ v s. trunc_adds c.args.plan.now c.in-Row.rows (viewed c.tree.view_is c.in-Row.is)
    (omega (arith, c.if-wanted-found.false, c.len-found.ensures.len)) (c.in_ok-wanted.ensures.added v s)

pub choice-returns-then-number-len-clause-missed : goal.choice-returns-then-number-len-clause-missed
choice-returns-then-number-len-clause-missed g t c =
    λ v s. choice_none c.args.plan.now c.in-Alt.number c.in-Alt.tree.value (viewed c.tree.view_is c.in-Alt.is)
    (let over = c.if-number-len.true in omega (arith, over, c.len.ensures.len))

pub choice-below-requires : goal.choice-below-requires
choice-below-requires g t c κs within =
    (omega (arith, c.decreases), (within, (c.requires.0, alternative_stands c.args.plan.now c.in-Alt.number c.get.ensures c.requires.1)))

pub choice-returns-clause-added : goal.choice-returns-clause-added
choice-returns-clause-added g t c =
    on_ok c.below.result (λ h v s. choice_adds c.args.plan.now c.in-Alt.number c.deref.result.now
    ((viewed c.tree.view_is c.in-Alt.is) ∙ ap (λ u. alt c.in-Alt.number u) (sym c.deref.ensures)) c.get.ensures
    (h v (alternative_stands c.args.plan.now c.in-Alt.number c.get.ensures s))) c.below.ensures.added

pub choice-returns-clause-missed : goal.choice-returns-clause-missed
choice-returns-clause-missed g t c =
    if_misfit c.below.result (λ why h v s. choice_misses c.args.plan.now c.in-Alt.number c.deref.result.now
    ((viewed c.tree.view_is c.in-Alt.is) ∙ ap (λ u. alt c.in-Alt.number u) (sym c.deref.ensures)) c.get.ensures
    (h v (alternative_stands c.args.plan.now c.in-Alt.number c.get.ensures s))) c.below.ensures.missed

pub named-returns-then-ne-clause-missed : goal.named-returns-then-ne-clause-missed
named-returns-then-ne-clause-missed g t c =
    λ v s. named_wrong c.args.plan.now c.in-Named.other c.in-Named.tree.value (viewed c.tree.view_is c.in-Named.is)
    (λ same. differ c.bytes.result.now c.bytes-2.result.now c.ne.result c.ne.ensures c.if-ne.true
    (c.bytes.ensures.value ∙ same ∙ sym c.bytes-2.ensures.value))

pub named-returns-clause-added : goal.named-returns-clause-added
named-returns-clause-added g t c =
    on_ok c.below.result (λ h v s. named_adds c.args.plan.now c.in-Named.other c.deref.result.now
    ((viewed c.tree.view_is c.in-Named.is) ∙ ap (λ u. named c.in-Named.other u) (sym c.deref.ensures))
    (sym c.bytes.ensures.value ∙ alike c.bytes.result.now c.bytes-2.result.now c.ne.result c.ne.ensures
    c.if-ne.false ∙ c.bytes-2.ensures.value) (h v s)) c.below.ensures.added

pub named-returns-clause-missed : goal.named-returns-clause-missed
named-returns-clause-missed g t c =
    if_misfit c.below.result (λ why h v s. named_misses c.args.plan.now c.in-Named.other c.deref.result.now
    ((viewed c.tree.view_is c.in-Named.is) ∙ ap (λ u. named c.in-Named.other u) (sym c.deref.ensures))
    (sym c.bytes.ensures.value ∙ alike c.bytes.result.now c.bytes-2.result.now c.ne.result c.ne.ensures
    c.if-ne.false ∙ c.bytes-2.ensures.value) (h v s)) c.below.ensures.missed

pub times-returns-then-found-wanted-clause-missed : goal.times-returns-then-found-wanted-clause-missed
times-returns-then-found-wanted-clause-missed g t c =
    λ v count s counted. times_wrong c.args.plan.now c.in-Row.rows c.args.wanted c.len-found.result
    (viewed c.tree.view_is c.in-Row.is) counted c.len-found.ensures.len c.if-found-wanted.true

pub times-returns-clause-added : goal.times-returns-clause-added
times-returns-clause-added g t c =
    on_ok c.turns.result (λ h v count s counted. times_adds c.args.plan.now c.in-Row.rows c.args.wanted
    (viewed c.tree.view_is c.in-Row.is) counted (sym c.len-found.ensures.len ∙ c.if-found-wanted.false) (h v s))
    c.turns.ensures.added

pub times-returns-clause-missed : goal.times-returns-clause-missed
times-returns-clause-missed g t c =
    if_misfit c.turns.result (λ why h v count s counted. times_misses c.args.plan.now c.in-Row.rows c.args.wanted
    (viewed c.tree.view_is c.in-Row.is) counted (sym c.len-found.ensures.len ∙ c.if-found-wanted.false) (h v s))
    c.turns.ensures.missed

pub many-returns-clause-added : goal.many-returns-clause-added
many-returns-clause-added g t c =
    on_ok c.turns.result (λ h v i at s. many_adds c.args.plan.now c.in-Row.rows (viewed c.tree.view_is c.in-Row.is)
    (λ o b u m. c.turns_have_bits.ensures.free c.args.plan.now 12 i c.args.part o v b u s.ready.description
    s.ready.certified at m) (h v s)) c.turns.ensures.added

pub many-returns-clause-missed : goal.many-returns-clause-missed
many-returns-clause-missed g t c =
    if_misfit c.turns.result (λ why h v i at s. many_misses c.args.plan.now c.in-Row.rows (viewed c.tree.view_is c.in-Row.is) (h v s)) c.turns.ensures.missed

pub turns-loop-at-init : goal.turns-loop-at-init
turns-loop-at-init g t c =
    λ v s. turns_begin c.args.plan.now c.args.part c.args.rows.now c.args.round s

pub turns-loop-at-preserved : goal.turns-loop-at-preserved
turns-loop-at-preserved g t c =
    λ v s. let done = c.loop-at.invariant v s in turns_more c.args.plan.now c.args.part c.args.rows.now c.args.round
    done c.get.ensures (c.in_ok-below.ensures.added v done.stands)

pub turns-returns-in_err-below-clause-missed : goal.turns-returns-in_err-below-clause-missed
turns-returns-in_err-below-clause-missed g t c =
    let p = err_from_is_err_and c.from_residual.result c.from_residual.ensures.1 in
    passed c.from_residual.result p.0 c.in_err-below.field-0.0 p.1 p.2 (λ why h v s. let done =
    c.loop-at.invariant v s in turn_misses c.args.plan.now c.args.part c.args.rows.now c.args.round done
    c.get.ensures (h v done.stands)) c.in_err-below.ensures.missed

pub turns-returns-clause-added : goal.turns-returns-clause-added
turns-returns-clause-added g t c =
    λ v s. turns_all c.args.plan.now c.args.part c.args.rows.now c.args.round (c.loop-at.invariant v s) (omega (arith, c.len-at-end.ensures.len))

pub parts-loop-at-init : goal.parts-loop-at-init
parts-loop-at-init g t c =
    λ v s. parts_begin c.args.plan.now c.args.parts.now c.args.rows.now c.args.round s

pub parts-below-requires : goal.parts-below-requires
parts-below-requires g t c κs within = (
  omega (arith, c.decreases),
  (
    within,
    (
      (c.loop-at.invariant c.requires.stands.0 c.requires.stands.1).now,
      part_stands c.args.plan.now
          c.args.parts.now c.args.rows.now c.args.round (c.loop-at.invariant c.requires.stands.0 c.requires.stands.1)
          c.get-part.ensures,
    ),
  ),
)

pub parts-returns-in_err-below-clause-missed : goal.parts-returns-in_err-below-clause-missed
parts-returns-in_err-below-clause-missed g t c =
    let p = err_from_is_err_and c.from_residual.result c.from_residual.ensures.1 in
    passed c.from_residual.result p.0 c.in_err-below.field-0.0 p.1 p.2 (λ why h v s. let done =
    c.loop-at.invariant v s in part_misses c.args.plan.now c.args.parts.now c.args.rows.now c.args.round done
    c.get-part.ensures c.get.ensures
    (h done.now (part_stands c.args.plan.now c.args.parts.now c.args.rows.now c.args.round done
    c.get-part.ensures))) c.in_err-below.ensures.missed

pub below-returns-in_err-write-clause-missed : goal.below-returns-in_err-write-clause-missed
below-returns-in_err-write-clause-missed g t c =
    let p = err_from_is_err_and c.from_residual-in_err-write.result c.from_residual-in_err-write.ensures.1 in
    passed c.from_residual-in_err-write.result p.0 c.in_err-write.field-0.0 p.1 p.2
    (λ why h v s. misses_below c.args.plan.now refl c.in_ok-push.ensures.ok
    (h v (stands_inside c.args.plan.now c.args.at s refl refl c.in_ok-push.ensures.ok)))
    c.in_err-write.ensures.missed

pub below-returns-clause-added : goal.below-returns-clause-added
below-returns-clause-added g t c =
    λ v s. adds_below c.args.plan.now c.args.at refl refl c.in_ok-push.ensures.ok
    (c.in_ok-write.ensures.added v (stands_inside c.args.plan.now c.args.at s refl refl c.in_ok-push.ensures.ok))
    refl refl c.pop.ensures

pub parts-keep-requires-clause-part : goal.parts-keep-requires-clause-part
parts-keep-requires-clause-part g t c =
    part_within c.args.plan.now (part_stands c.args.plan.now c.args.parts.now c.args.rows.now c.args.round
    (c.loop-at.invariant c.requires.stands.0 c.requires.stands.1) c.get-part.ensures).is_formed

pub parts-keep-requires-clause-from : goal.parts-keep-requires-clause-from
parts-keep-requires-clause-from g t c =
    part_behind c.args.plan.now c.len-from.result c.len-from.ensures.count
    (c.in_ok-below.ensures.added (c.loop-at.invariant c.requires.stands.0 c.requires.stands.1).now
    (part_stands c.args.plan.now c.args.parts.now c.args.rows.now c.args.round
    (c.loop-at.invariant c.requires.stands.0 c.requires.stands.1) c.get-part.ensures))

pub parts-keep-requires-clause-few : goal.parts-keep-requires-clause-few
parts-keep-requires-clause-few g t c =
    λ counted. part_few c.args.plan.now c.len-from.result c.len-from.ensures.count
    (c.loop-at.invariant c.requires.stands.0 c.requires.stands.1).ready.description
    (c.in_ok-below.ensures.added (c.loop-at.invariant c.requires.stands.0 c.requires.stands.1).now
    (part_stands c.args.plan.now c.args.parts.now c.args.rows.now c.args.round
    (c.loop-at.invariant c.requires.stands.0 c.requires.stands.1) c.get-part.ensures)) counted

pub parts-keep-requires-clause-room : goal.parts-keep-requires-clause-room
parts-keep-requires-clause-room g t c =
    λ counted. part_room c.args.plan.now (part_stands c.args.plan.now c.args.parts.now c.args.rows.now c.args.round
    (c.loop-at.invariant c.requires.stands.0 c.requires.stands.1) c.get-part.ensures)
    (c.in_ok-below.ensures.added (c.loop-at.invariant c.requires.stands.0 c.requires.stands.1).now
    (part_stands c.args.plan.now c.args.parts.now c.args.rows.now c.args.round
    (c.loop-at.invariant c.requires.stands.0 c.requires.stands.1) c.get-part.ensures)) counted

pub parts-loop-at-preserved : goal.parts-loop-at-preserved
parts-loop-at-preserved g t c =
    λ v s. elim c.if-len-from.branch [
      | parts-then-len-from w ↦ parts_more c.args.plan.now c.args.parts.now
          c.args.rows.now c.args.round c.len-from.result c.len-from.ensures.count (c.loop-at.invariant v s)
          c.get-part.ensures c.get.ensures (c.in_ok-below.ensures.added (c.loop-at.invariant v s).now
          (part_stands c.args.plan.now c.args.parts.now c.args.rows.now c.args.round (c.loop-at.invariant v s)
          c.get-part.ensures)) c.keep.ensures.bits c.keep.ensures.path c.keep.ensures.numbers
          (inl (omega (arith, w.if-len-from.true, c.len-from.ensures.count, c.len.ensures.count), w.kept-is))
      | parts-else-len-from w ↦ parts_more c.args.plan.now c.args.parts.now c.args.rows.now c.args.round
          c.len-from.result c.len-from.ensures.count (c.loop-at.invariant v s) c.get-part.ensures c.get.ensures
          (c.in_ok-below.ensures.added (c.loop-at.invariant v s).now
          (part_stands c.args.plan.now c.args.parts.now c.args.rows.now c.args.round (c.loop-at.invariant v s)
          c.get-part.ensures)) c.keep.ensures.bits c.keep.ensures.path c.keep.ensures.numbers
          (inr (omega (arith, w.if-len-from.false, c.len-from.ensures.count, c.len.ensures.count), w.kept-is))
    ]

pub parts-returns-clause-added : goal.parts-returns-clause-added
parts-returns-clause-added g t c =
    λ v s. parts_all c.args.plan.now c.args.parts.now c.args.rows.now c.args.round (c.loop-at.invariant v s)
    (omega (arith, c.len-at-end.ensures.len)) refl refl
    (c.truncate.ensures.items ∙ ap (λ n. take n c.loop-at.self.numbers.items) c.len-seen.ensures.value)

pub window-returns-in_err-write-clause-missed : goal.window-returns-in_err-write-clause-missed
window-returns-in_err-write-clause-missed g t c =
    let p = err_from_is_err_and c.from_residual.result c.from_residual.ensures.1 in
    passed c.from_residual.result p.0 c.in_err-write.field-0.0 p.1 p.2
    (λ why h v unit n count s counted all. window_misses c.args.plan.now
    (h v (stands_in_window c.args.plan.now s))) c.in_err-write.ensures.missed

pub window-returns-then-found-wanted-clause-missed : goal.window-returns-then-found-wanted-clause-missed
window-returns-then-found-wanted-clause-missed g t c =
    λ v unit n count s counted all. window_wrong c.args.plan.now n c.args.wanted _ counted all
    (omega (arith, c.len.ensures.count, c.len-from.ensures.count)) c.if-found-wanted.true
    (c.in_ok-write.ensures.added v (stands_in_window c.args.plan.now s))

pub window-returns-clause-added : goal.window-returns-clause-added
window-returns-clause-added g t c =
    λ v unit n count s counted all. window_adds c.args.plan.now n c.args.wanted counted all (let same =
    c.if-found-wanted.false in omega (arith, same, c.len.ensures.count, c.len-from.ensures.count))
    (c.in_ok-write.ensures.added v (stands_in_window c.args.plan.now s))

pub times-turns-requires : goal.times-turns-requires
times-turns-requires g t c κs within = (omega (arith, c.decreases), (within, c.requires))

pub many-turns-requires : goal.many-turns-requires
many-turns-requires g t c κs within = (omega (arith, c.decreases), (within, c.requires))

pub named-below-requires : goal.named-below-requires
named-below-requires g t c κs within = (omega (arith, c.decreases), (within, c.requires))

pub turns-below-requires : goal.turns-below-requires
turns-below-requires g t c κs within =
    (omega (arith, c.decreases), (within, (c.requires.0, (c.loop-at.invariant c.requires.0 c.requires.1).stands)))

pub below-write-requires : goal.below-write-requires
below-write-requires g t c κs within = (
  omega (arith, c.decreases, c.requires.1.ready.few),
  (
    within,
    (
      c.requires.0,
      stands_inside c.args.plan.now c.args.at c.requires.1 refl refl
          c.in_ok-push.ensures.ok,
    ),
  ),
)

pub window-write-requires : goal.window-write-requires
window-write-requires g t c κs within = (omega (arith, c.decreases, c.requires.1.ready.few), (within, some_in_window c.args.plan.now c.requires))

pub below-overflow_add-round : goal.below-overflow_add-round
below-overflow_add-round g t c = omega (arith, c.requires.1.ready.few)

pub window-overflow_add-round : goal.window-overflow_add-round
window-overflow_add-round g t c = omega (arith, c.requires.1.ready.few)
