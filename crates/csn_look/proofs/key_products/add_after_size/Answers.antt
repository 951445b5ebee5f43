use Rattle.std.proofs.Common.{[], refl, arith}
use Rattle.csn_look.proofs.Tables.Products.{after_size}
use Rattle.csn_look.proofs.Tables.SizeFacts.{all_sizes}
use Rattle.csn_look.proofs.key_products.add_after_size.Goals as goal

pub returns : goal.returns
returns c = λ table.
    after_size c.args.first.now c.args.rest.now c.args.size c.args.marks.now c.add_marked.new.marks
    c.add_after_wholes.new.marks c.words_of.result c.words_of.ensures.value
    (c.add_marked.ensures [] c.args.size (record { bits = tt; short = omega arith }) refl c.words_of.ensures.value (omega (arith, c.requires.few)))
    (c.add_after_wholes.ensures table)

pub add_marked-requires-clause-sizes : goal.add_marked-requires-clause-sizes
add_marked-requires-clause-sizes c = all_sizes c.args.first.now 8192
