use Rattle.std.proofs.Common.{◌≡◌, ◌+◌, ℕ, Some, refl, sym, subst, arith}
use Rattle.std.specs.Prelude.{slice_get, Option}
use Rattle.csn_desc.specs.declared.node.Node.TheVariants.{Many, Times, Window, Named}
use Rattle.csn_sample.specs.declared.covering.Way.{Way}
use Rattle.csn_sample.specs.Ways.{GoesOne, Meets}
use Rattle.csn_sample.specs.Covering.{Sets, MeetsFew, MeetsInside}
use Rattle.csn_sample.proofs.Marked.{sets_join, sets_as, still_marks}
use Rattle.csn_sample.proofs.TreesInside.{here_or_inside, few_next, all_of_row, all_turns, has_room_within, inside_has_room, only_part, same_in}
use Rattle.csn_sample.proofs.marks.WayMarks.+add.Goals as goal

pub add-add_inside-inside-requires : goal.add-add_inside-inside-requires
add-add_inside-inside-requires g t c κs within =
    let some = (has_room_within c.args.plan.now c.args.deep c.args.i c.requires.room).0 in (
      omega (arith, c.decreases, some),
      (
        within,
        (
          still_marks c.args.plan.now c.args.self.now c.add_way-here.new.self c.add_way-here.ensures.as_many c.requires.marks,
          inside_has_room c.args.plan.now c.args.deep c.args.i c.node-node.result.now c.node-node.ensures.node c.requires.room,
        ),
      ),
    )

pub add-returns : goal.add-returns
add-returns g t c =
    subst (λ (told : Option Way). Sets c.args.self.now c.add_inside-inside.new.self (Meets c.args.plan.now c.args.i c.args.tree.now) told)
    (sym c.or.ensures)
    (sets_join c.args.self.now c.add_way-here.new.self c.add_inside-inside.new.self
    (λ j way. (j ≡ c.args.i) × GoesOne c.node-node.result.now c.args.tree.now way)
    (MeetsInside c.args.plan.now c.node-node.result.now c.args.tree.now)
    (Meets c.args.plan.now c.args.i c.args.tree.now)
    (here_or_inside c.args.plan.now c.args.i c.node-node.result.now c.args.tree.now c.node-node.ensures.node)
    c.add_way-here.result c.add_inside-inside.result c.add_way-here.ensures c.add_inside-inside.ensures)

pub add_inside-add_turns-requires : goal.add_inside-add_turns-requires
add_inside-add_turns-requires g t c κs within = (
  omega (arith, c.decreases),
  (
    within,
    (
      c.requires.marks,
      only_part c.args.plan.now c.args.deep c.args.node.now (Times c.in-Times.count c.in-Times.part) c.in-Times.part c.in-Times.is refl c.requires.room,
    ),
  ),
)

pub add_inside-add_turns-requires-in-Many : goal.add_inside-add_turns-requires-in-Many
add_inside-add_turns-requires-in-Many g t c κs within = (
  omega (arith, c.decreases),
  (
    within,
    (
      c.requires.marks,
      only_part c.args.plan.now c.args.deep c.args.node.now (Many c.in-Many.part) c.in-Many.part c.in-Many.is refl c.requires.room,
    ),
  ),
)

pub add_inside-add-requires : goal.add_inside-add-requires
add_inside-add-requires g t c κs within = (
  omega (arith, c.decreases),
  (
    within,
    (
      c.requires.marks,
      only_part c.args.plan.now c.args.deep c.args.node.now (Window c.in-Window.unit c.in-Window.count c.in-Window.part)
          c.in-Window.part c.in-Window.is refl c.requires.room,
    ),
  ),
)

pub add_inside-add-requires-in-Some : goal.add_inside-add-requires-in-Some
add_inside-add-requires-in-Some g t c κs within = (
  omega (arith, c.decreases),
  (
    within,
    (
      c.requires.marks,
      only_part c.args.plan.now c.args.deep c.args.node.now (Named c.in-Named.label c.in-Named.part) c.in-Named.part c.in-Named.is refl c.requires.room,
    ),
  ),
)

pub add_row-loop-at-preserved : goal.add_row-loop-at-preserved
add_row-loop-at-preserved g t c =
    let IsPart : ℕ → ℕ → Type 0 = λ k part. slice_get c.args.parts.now k ≡ Some part in
    subst (λ (told : Option Way). Sets c.args.self.now c.add-next.new.self
    (MeetsFew c.args.plan.now IsPart c.in-Some.rows.now (c.loop-at.at + 1)) told)
    (sym c.or-first.ensures)
    (sets_join c.args.self.now c.loop-at.self c.add-next.new.self
    (MeetsFew c.args.plan.now IsPart c.in-Some.rows.now c.loop-at.at)
    (Meets c.args.plan.now c.get-part.result c.get.result.now)
    (MeetsFew c.args.plan.now IsPart c.in-Some.rows.now (c.loop-at.at + 1))
    (few_next c.args.plan.now IsPart c.in-Some.rows.now c.loop-at.at c.get-part.result c.get.result.now
    c.get-part.ensures (same_in c.args.parts.now c.loop-at.at c.get-part.result c.get-part.ensures) c.get.ensures)
    c.loop-at.first c.add-next.result c.loop-at.invariant c.add-next.ensures)

pub add_row-returns : goal.add_row-returns
add_row-returns g t c =
    sets_as c.args.self.now c.loop-at.self
    (MeetsFew c.args.plan.now (λ k part. slice_get c.args.parts.now k ≡ Some part) c.in-Some.rows.now c.loop-at.at) _ c.loop-at.first
    (all_of_row c.args.plan.now c.args.parts.now c.args.tree.now c.in-Some.rows.now c.loop-at.at c.in-Some.ensures
    (omega (arith, c.loop-at-test.false, c.loop-at.auto.at-end, c.min-at-end.ensures, c.len.ensures.len, c.len-2.ensures.len, c.from.ensures)))
    c.loop-at.invariant

pub add_turns-loop-at-preserved : goal.add_turns-loop-at-preserved
add_turns-loop-at-preserved g t c =
    let IsPart : ℕ → ℕ → Type 0 = λ k part. part ≡ c.args.part in
    subst (λ (told : Option Way). Sets c.args.self.now c.add-next.new.self
    (MeetsFew c.args.plan.now IsPart c.in-Some.rows.now (c.loop-at.at + 1)) told)
    (sym c.or-first.ensures)
    (sets_join c.args.self.now c.loop-at.self c.add-next.new.self
    (MeetsFew c.args.plan.now IsPart c.in-Some.rows.now c.loop-at.at)
    (Meets c.args.plan.now c.args.part c.get.result.now)
    (MeetsFew c.args.plan.now IsPart c.in-Some.rows.now (c.loop-at.at + 1))
    (few_next c.args.plan.now IsPart c.in-Some.rows.now c.loop-at.at c.args.part c.get.result.now
    refl (λ p is. is) c.get.ensures)
    c.loop-at.first c.add-next.result c.loop-at.invariant c.add-next.ensures)

pub add_turns-returns : goal.add_turns-returns
add_turns-returns g t c =
    sets_as c.args.self.now c.loop-at.self
    (MeetsFew c.args.plan.now (λ k part. part ≡ c.args.part) c.in-Some.rows.now c.loop-at.at) _ c.loop-at.first
    (all_turns c.args.plan.now c.args.part c.args.tree.now c.in-Some.rows.now c.loop-at.at c.in-Some.ensures
    (omega (arith, c.loop-at-test.false, c.loop-at.auto.at-end, c.len-at-end.ensures.len)))
    c.loop-at.invariant
