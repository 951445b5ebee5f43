use Rattle.std.proofs.Common.{◌≤◌, ◌+◌, length, ap, arith, rules}
use Rattle.std.proofs.lemmas.List.{length-append}
use Rattle.csn_replay.proofs.Heads.{word_short}
use Rattle.csn_replay.proofs.head.entry_of_parts.Goals as goal

pub returns-in_err-ok-clause-of_each_word : goal.returns-in_err-ok-clause-of_each_word
returns-in_err-ok-clause-of_each_word c entry is =
    let fits : length c.args.word.now.items + length c.args.rest.now ≤ 8 =
    omega (arith, ap length is, length-append c.args.word.now.items c.args.rest.now, word_short entry) in
    let took = c.try_extend_from_slice.ensures.variant.1 fits in search rules
