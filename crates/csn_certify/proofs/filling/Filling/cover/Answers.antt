use Rattle.std.proofs.Common.{◌*◌, ◌+◌, ◌%◌, ◌^◌, ◌∙◌, arith}
use Rattle.csn_look.specs.KeyMarks.{place_of}
use Rattle.csn_certify.specs.declared.pick_table.Entry.TheVariants.{Take}
use Rattle.csn_certify.proofs.Covering.{level_is, cover_none, cover_more, cover_all}
use Rattle.csn_certify.proofs.filling.Filling.cover.Goals as goal

pub loop-more-init : goal.loop-more-init
loop-more-init c = (c.requires.size, cover_none (place_of c.args.word.now) (Take c.args.bits c.args.self.now.alternative) c.args.entries.now)

pub put_all-requires-clause-within : goal.put_all-requires-clause-within
put_all-requires-clause-within c =
    let size = c.len.ensures.count in
    let test = c.loop-more-test.true in
    let short = c.requires.within in
    let level = level_is c.args.self.now.width c.loop-more.more c.place-place.result c.args.word.now c.requires.word
    c.requires.size.short (omega (arith, size, test, short)) c.place-place.ensures.value in
    let inside = level.within in
    let count = c.loop-more.invariant.0.count in
    omega (arith, inside, count)

pub loop-more-preserved : goal.loop-more-preserved
loop-more-preserved c =
    let more = c.loop-more.more in
    let place = c.place-place.result in
    let size = c.len.ensures.count in
    let test = c.loop-more-test.true in
    let short = c.requires.within in
    let level = level_is c.args.self.now.width more place c.args.word.now c.requires.word c.requires.size.short
    (omega (arith, size, test, short)) c.place-place.ensures.value in (
      record { short = c.requires.size.short; count = c.put_all.ensures.size ∙ c.loop-more.invariant.0.count },
      cover_more (place_of c.args.word.now) more (place * 2 ^ more % 2 ^ 64)
          (place * 2 ^ more % 2 ^ 64 + 1 * 2 ^ more % 2 ^ 64) (Take c.args.bits c.args.self.now.alternative)
          c.args.entries.now c.loop-more.entries c.put_all.new.entries
          level.first_is level.end_is c.loop-more.invariant.1 c.put_all.ensures.put c.put_all.ensures.before c.put_all.ensures.behind,
    )

pub returns-clause-fills : goal.returns-clause-fills
returns-clause-fills c =
    let size = c.len.ensures.count in
    let test = c.loop-more-test.false in
    let auto = c.loop-more.auto in
    cover_all c.args.word.now c.args.self.now.width c.loop-more.more c.args.self.now.alternative c.args.bits
    c.args.entries.now c.loop-more.entries c.requires.word c.requires.within (omega arith) c.loop-more.invariant.1
