use Rattle.std.proofs.Common.{◌≡◌, ◌+◌, ◌*◌, ◌^◌, ◌<◌, sym, ap, ◌∙◌, arith}
use Rattle.std.specs.Prelude.{◌==◌, bit_or}
use Rattle.std.specs.Int.{bit_at}
use Rattle.std.proofs.lemmas.Nat.{or_lt}
use Rattle.csn_look.specs.declared.marks.Sought.{Sought}
use Rattle.csn_look.specs.KeyMarks.{is_marked}
use Rattle.csn_look.specs.Full.{is_key_at, is_sought}
use Rattle.csn_look.proofs.Tables.FullFacts.{keys_told, others_told}
use Rattle.csn_look.proofs.Tables.StartsBetween.{mark_is}
use Rattle.csn_look.proofs.marks.sought_in.Goals as goal

pub returns-in-Marked : goal.returns-in-Marked
returns-in-Marked c = λ k small.
    let place = 64 * c.args.at + k in
    let are : (bit_at c.word.result k == 1) ≡ is_marked c.args.table.now place =
    rw (c.word.ensures) (mark_is c.args.table.now c.args.at k place (omega arith) (omega arith)) in
    are ∙ ap (λ (s : Sought). is_sought s c.args.table.now place) (sym c.in-Marked.is)

pub returns-in-Key : goal.returns-in-Key
returns-in-Key c = λ k small.
    let place = 64 * c.args.at + k in
    let are : (bit_at (bit_or c.word-in-Key.result c.word-in-Key-2.result) k == 1) ≡ is_key_at c.args.table.now place =
    rw (c.word-in-Key.ensures, c.word-in-Key-2.ensures) (keys_told c.args.table.now c.args.at k small) in
    are ∙ ap (λ (s : Sought). is_sought s c.args.table.now place) (sym c.in-Key.is)

pub returns-in-NoKey : goal.returns-in-NoKey
returns-in-NoKey c = λ k small.
    let place = 64 * c.args.at + k in
    let word = bit_or c.word-in-NoKey.result c.word-in-NoKey-2.result in
    let few : word < 2 ^ 64 = or_lt 64 c.word-in-NoKey.result c.word-in-NoKey-2.result (omega arith) (omega arith) in
    let are : (bit_at word k == 1) ≡ is_key_at c.args.table.now place =
    rw (c.word-in-NoKey.ensures, c.word-in-NoKey-2.ensures) (keys_told c.args.table.now c.args.at k small) in
    others_told word k (is_key_at c.args.table.now place) few small are ∙ ap (λ (s : Sought). is_sought s c.args.table.now place) (sym c.in-NoKey.is)
