use Rattle.csn_look.proofs.Sets.UnitsTell.{field_sets}
use Rattle.csn_look.proofs.known.Known.field.Goals as goal

pub returns : goal.returns
returns c = field_sets c.args.self.now.desc.now c.args.unit c.args.count _ c.may_be_none.ensures c.is_no_bits.ensures
    c.is_counted.ensures c.counted.ensures c.all.ensures c.all-2.ensures
