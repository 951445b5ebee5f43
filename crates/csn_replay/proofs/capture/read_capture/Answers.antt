use Rattle.std.proofs.Common.{arith}
use Rattle.csn_replay.proofs.Captures.{space_stands, space_within, word_before, capture_at}
use Rattle.csn_replay.proofs.capture.read_capture.Goals as goal

pub returns-in_err-word_end-clause-every : goal.returns-in_err-word_end-clause-every
returns-in_err-word_end-clause-every c entry at is =
    absurd (c.in_err-word_end.ensures _ (omega arith) (space_within c.args.line.now entry at is) (space_stands c.args.line.now entry at is))

pub returns-in_err-entry-clause-every : goal.returns-in_err-entry-clause-every
returns-in_err-entry-clause-every c entry at is =
    let found = c.in_err-entry.ensures.of_each_word entry
    (word_before c.args.line.now entry at c.in_ok-word_end.word_end is c.in_ok-word_end.ensures.0
    c.in_ok-word_end.ensures.1) in cc

pub returns-clause-capture : goal.returns-clause-capture
returns-clause-capture c =
    capture_at c.args.line.now c.in_ok-entry.entry c.in_ok-word_end.word_end c.in_ok-word_end.ensures.0.high
    c.in_ok-word_end.ensures.1 c.in_ok-entry.ensures.its_word
