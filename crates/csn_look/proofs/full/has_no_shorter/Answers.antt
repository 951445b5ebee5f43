use Rattle.std.proofs.Common.{ℕ, ◌+◌, ◌*◌, ◌%◌, ◌^◌, false, subst, arith}
use Rattle.csn_look.specs.Full.{IsOther}
use Rattle.csn_look.proofs.Tables.FullFacts.{level_at}
use Rattle.csn_look.proofs.full.has_no_shorter.Goals as goal

pub overflow_add-first : goal.overflow_add-first
overflow_add-first c =
    let level = level_at c.args.place c.args.more c.loop-less.less c.requires.within (omega (arith, c.loop-less-test.true)) in
    omega (arith, level.within)

pub are_all-requires-clause-within : goal.are_all-requires-clause-within
are_all-requires-clause-within c =
    let level = level_at c.args.place c.args.more c.loop-less.less c.requires.within (omega (arith, c.loop-less-test.true)) in
    level.within

pub returns-then-not-are_all-clause-some : goal.returns-then-not-are_all-clause-some
returns-then-not-are_all-clause-some c = λ no.
    let level = level_at c.args.place c.args.more c.loop-less.less c.requires.within (omega (arith, c.loop-less-test.true)) in
    let P : ℕ → Type 0 = λ first. IsOther c.args.table.now false first (c.args.place * 2 ^ c.loop-less.less + 2 ^ c.loop-less.less) in
    let Q : ℕ → Type 0 = λ end. IsOther c.args.table.now false (c.args.place * 2 ^ c.loop-less.less % 2 ^ 64) end in
    (c.loop-less.less, c.loop-less-test.true, subst P level.first_is (subst Q level.end_is (c.are_all.ensures.other c.if-not-are_all.true)))

pub are_all-requires-clause-order : goal.are_all-requires-clause-order
are_all-requires-clause-order c =
    let level = level_at c.args.place c.args.more c.loop-less.less c.requires.within (omega (arith, c.loop-less-test.true)) in
    level.order

pub overflow_cast-first : goal.overflow_cast-first
overflow_cast-first c = omega arith

pub overflow_shl-first : goal.overflow_shl-first
overflow_shl-first c = omega arith

pub overflow_cast-less : goal.overflow_cast-less
overflow_cast-less c = omega arith

pub overflow_shl-less : goal.overflow_shl-less
overflow_shl-less c = omega arith
