use Rattle.std.proofs.Common.{◌≡◌, ℕ, ◌+◌, ◌-◌, ◌*◌, ◌%◌, ◌^◌, true, subst, arith}
use Rattle.csn_look.specs.Full.{AreAll, IsOther, IsFullAt}
use Rattle.csn_look.proofs.Tables.FullFacts.{room_at, level_at, no_other_size, no_size, not_all, some_shorter}
use Rattle.csn_look.proofs.full.full_size.Goals as goal
use Rattle.csn_look.proofs.full.full_size.Goals.{else-are_all-via-then-are_all+else-has_no_shorter, else-are_all-via-else-are_all}

pub are_all-requires-clause-within : goal.are_all-requires-clause-within
are_all-requires-clause-within c =
    let room = room_at c.args.place c.args.len c.in-Some.more c.requires.within c.in-Some.ensures.room in
    let level = level_at c.args.place c.in-Some.more c.in-Some.more room (omega arith) in
    level.within

pub has_no_shorter-requires-clause-within : goal.has_no_shorter-requires-clause-within
has_no_shorter-requires-clause-within c = room_at c.args.place c.args.len c.in-Some.more c.requires.within c.in-Some.ensures.room

pub returns-then-has_no_shorter-clause-full : goal.returns-then-has_no_shorter-clause-full
returns-then-has_no_shorter-clause-full c =
    let more = c.in-Some.more in
    let room = room_at c.args.place c.args.len more c.requires.within c.in-Some.ensures.room in
    let level = level_at c.args.place more more room (omega arith) in
    let P : ℕ → Type 0 = λ first. AreAll c.args.table.now true first (c.args.place * 2 ^ more + 2 ^ more) in
    let Q : ℕ → Type 0 = λ end. AreAll c.args.table.now true (c.args.place * 2 ^ more % 2 ^ 64) end in
    record {
      full = subst P level.first_is (subst Q level.end_is (c.are_all.ensures.all c.if-are_all.true));
      none = c.has_no_shorter.ensures.none c.if-has_no_shorter.true;
    }

pub returns-else-are_all-clause-none : goal.returns-else-are_all-clause-none
returns-else-are_all-clause-none c = λ word is here size other short at.
    let more = c.in-Some.more in
    let same : other ≡ more = no_other_size c.args.table.now c.args.place more other c.in-Some.ensures.key c.in-Some.ensures.before at in
    let full : IsFullAt c.args.table.now c.args.place more = subst (λ n. IsFullAt c.args.table.now c.args.place n) same at in
    let room = room_at c.args.place c.args.len more c.requires.within c.in-Some.ensures.room in
    let level = level_at c.args.place more more room (omega arith) in
    let P : ℕ → Type 0 = λ first. IsOther c.args.table.now true first (c.args.place * 2 ^ more + 2 ^ more) in
    let Q : ℕ → Type 0 = λ end. IsOther c.args.table.now true (c.args.place * 2 ^ more % 2 ^ 64) end in
    elim c.else-are_all.branch [
      | else-are_all-via-then-are_all+else-has_no_shorter w ↦ some_shorter c.args.table.now c.args.place more full
          (w.has_no_shorter.ensures.some w.if-has_no_shorter.false)
      | else-are_all-via-else-are_all w ↦ not_all c.args.table.now c.args.place more full
          (subst P level.first_is (subst Q level.end_is (c.are_all.ensures.other w.if-are_all.false)))
    ]

pub returns-in_default-clause-none : goal.returns-in_default-clause-none
returns-in_default-clause-none c = λ word is here size more short.
    no_size c.args.table.now c.args.place (13 - c.args.len) more (c.in_default.ensures.none word is here size) (omega (arith, short))
