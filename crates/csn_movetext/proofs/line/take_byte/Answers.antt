use Rattle.std.proofs.Common.{◌++◌, ap, sym, ◌∙◌}
use Rattle.csn_bits.specs.Feed.{octets_given}
use Rattle.csn_movetext.proofs.LineFacts.{first_set}
use Rattle.csn_movetext.proofs.line.take_byte.Goals as goal

pub returns-in-Octet-clause-given : goal.returns-in-Octet-clause-given
returns-in-Octet-clause-given c = λ line fed.
    c.in-Octet.ensures.given line fed ∙ ap (λ l. octets_given line ++ l) (sym (first_set c.args.room.now c.in-Octet.octet c.requires.room))
