use Rattle.csn_look.proofs.Tables.Products.{both_marks}
use Rattle.csn_look.proofs.key_products.add_keys_of.Goals as goal

pub returns : goal.returns
returns c = λ first size is here power short.
    both_marks c.args.rest.now first size c.args.words c.args.marks.now c.add_marked.new.marks c.add_marked-2.new.marks
    (c.add_marked.ensures first size is here power short) (c.add_marked-2.ensures first size is here power short)
