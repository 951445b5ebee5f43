use Rattle.std.proofs.Common.{◌+◌, ◌*◌, arith, refl}
use Rattle.csn_look.proofs.Tables.Products.{behind_all, key_mark-first}
use Rattle.csn_look.proofs.Tables.SizeFacts.{none_behind}
use Rattle.csn_look.proofs.key_products.add_marked.Goals as goal

pub copy_marks-requires-clause-to : goal.copy_marks-requires-clause-to
copy_marks-requires-clause-to c = omega (arith, c.key_mark.ensures, key_mark-first c.args.whole, c.requires.room)

pub returns : goal.returns
returns c = λ first size is here power short.
    behind_all c.args.rest.now c.args.plane first size c.args.whole c.args.marks.now c.copy_marks.new.marks
    c.args.words (c.key_mark.result + c.args.front * c.args.words) is power short
    (rw here c.requires.room) (rw (c.key_mark.ensures, here) refl) c.copy_marks.ensures

pub returns-then-sizes-words-eq0 : goal.returns-then-sizes-words-eq0
returns-then-sizes-words-eq0 c = λ first size is here power short.
    none_behind c.args.rest.now first c.args.marks.now c.args.plane c.args.sizes size c.args.words c.args.whole
    c.requires.sizes c.if-sizes-words-eq0.true power (omega (arith, short))
