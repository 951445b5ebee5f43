use Rattle.csn_look.proofs.Tables.ProductsMade.{made_stays}
use Rattle.csn_look.proofs.table_maker.TableMaker.keep.Goals as goal

pub invariant_of-self : goal.invariant_of-self
invariant_of-self c = c.self.invariant

pub invariant_of-self-2 : goal.invariant_of-self-2
invariant_of-self-2 c = made_stays c.self.inside.tables c.keep.new.self c.self.inside.products.items c.self.inside.leaves c.keep.ensures.more c.self.invariant
