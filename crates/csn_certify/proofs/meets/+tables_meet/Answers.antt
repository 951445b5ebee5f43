use Rattle.std.proofs.Common.{rules, ◌-◌, ◌<◌, [], ◌∷◌, length, length-append, ap, ◌∙◌, arith, inr}
use Rattle.csn_certify.proofs.SearchFacts.{denied}
use Rattle.csn_certify.specs.Overlaps.{MeetUnder}
use Rattle.csn_certify.proofs.TablesMeet.{room_for_bit, apart_left, apart_right, by_left_key, by_right_key, no_touch, never, always, met_at_zero, met_at_one}
use Rattle.csn_certify.proofs.meets.+tables_meet.Goals as goal

pub returns-in-Neither : goal.returns-in-Neither
returns-in-Neither t c =
    let left = c.args.left.now in
    let right = c.args.right.now in
    let word = c.args.word.now in
    never (MeetUnder left right word) (apart_left left right word c.requires (no_touch left word c.in-Neither.ensures.0 c.in-Neither.ensures.1))

pub returns-in-Key : goal.returns-in-Key
returns-in-Key t c = by_left_key c.args.left.now c.args.right.now c.args.word.now c.requires c.touches.result c.in-Key.ensures c.touches.ensures

pub returns-in-Neither-begins : goal.returns-in-Neither-begins
returns-in-Neither-begins t c =
    let left = c.args.left.now in
    let right = c.args.right.now in
    let word = c.args.word.now in
    never (MeetUnder left right word)
    (apart_right left right word c.requires
    (no_touch right word c.in-Neither-begins.ensures.0 c.in-Neither-begins.ensures.1))

pub returns-in-Key-begins : goal.returns-in-Key-begins
returns-in-Key-begins t c =
    let left = c.args.left.now in
    let right = c.args.right.now in
    let word = c.args.word.now in
    always (MeetUnder left right word) (by_right_key left right word c.requires (inr c.in-Proper.ensures.1) c.in-Key-begins.ensures)

pub returns-then-tables_meet : goal.returns-then-tables_meet
returns-then-tables_meet t c =
    let left = c.args.left.now in
    let right = c.args.right.now in
    let word = c.args.word.now in
    always (MeetUnder left right word)
    (met_at_zero left right word c.requires c.in-Proper.ensures.0 c.in-Proper-begins.ensures.0 c.longer.result
    c.longer.ensures.value (c.tables_meet.ensures.0 c.if-tables_meet.true))

pub returns-else-tables_meet : goal.returns-else-tables_meet
returns-else-tables_meet t c =
    let left = c.args.left.now in
    let right = c.args.right.now in
    let word = c.args.word.now in
    met_at_one left right word c.requires c.in-Proper.ensures.0 c.in-Proper-begins.ensures.0
    c.tables_meet-in-Proper-begins.result c.longer.result c.longer-in-Proper-begins.result
    c.longer.ensures.value c.longer-in-Proper-begins.ensures.value
    (denied c.tables_meet.result (MeetUnder left right c.longer.result)
    c.tables_meet.ensures c.if-tables_meet.false) c.tables_meet-in-Proper-begins.ensures

pub tables_meet-requires : goal.tables_meet-requires
tables_meet-requires t c =
    let size = ap length c.longer.ensures.value ∙ length-append c.args.word.now (0 ∷ []) in
    let short = c.longer.ensures.word.short in
    let fewer : 12 - length c.longer.result < 12 - length c.args.word.now = omega arith in
    (search rules, c.longer.ensures.word)

pub tables_meet-requires-in-Proper-begins : goal.tables_meet-requires-in-Proper-begins
tables_meet-requires-in-Proper-begins t c =
    let size = ap length c.longer-in-Proper-begins.ensures.value ∙ length-append c.args.word.now (1 ∷ []) in
    let short = c.longer-in-Proper-begins.ensures.word.short in
    let fewer : 12 - length c.longer-in-Proper-begins.result < 12 - length c.args.word.now = omega arith in
    (search rules, c.longer-in-Proper-begins.ensures.word)

pub longer-requires-clause-room : goal.longer-requires-clause-room
longer-requires-clause-room t c = room_for_bit c.args.left.now c.args.word.now c.in-Proper.ensures.1

pub longer-requires-in-Proper-begins-clause-room : goal.longer-requires-in-Proper-begins-clause-room
longer-requires-in-Proper-begins-clause-room t c = room_for_bit c.args.left.now c.args.word.now c.in-Proper.ensures.1
