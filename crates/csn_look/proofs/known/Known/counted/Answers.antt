use Rattle.std.proofs.Common.{◌*◌, ◌%◌, sym, ap, ◌∙◌}
use Rattle.std.specs.FinSet as set
use Rattle.csn_look.proofs.Sets.UnitsTell.{fixed_units, valued_units, no_units}
use Rattle.csn_look.proofs.known.Known.counted.Goals as goal

pub returns-in-Fixed : goal.returns-in-Fixed
returns-in-Fixed c =
    fixed_units c.args.self.now.desc.now c.args.unit c.in-Fixed.n c.args.count c.with.result c.in-Fixed.is
    (c.with.ensures ∙ ap (λ s. set.insert s (c.args.unit * c.in-Fixed.n % 8)) c.empty.ensures)

pub returns-in-Some : goal.returns-in-Some
returns-in-Some c =
    valued_units c.args.self.now.desc.now c.args.unit c.in-Counted.m c.in-Counted.field c.in-Counted.c c.in-Some.width
    c.residues.result c.args.count c.valued.result
    c.in-Counted.is (sym c.value_width.ensures ∙ c.in-Some.is) c.residues.ensures.values c.residues.ensures.all c.valued.ensures

pub returns-in-None : goal.returns-in-None
returns-in-None c =
    no_units c.args.self.now.desc.now c.args.unit c.in-Counted.m c.in-Counted.field c.in-Counted.c c.args.count
    c.empty-in-None.result c.in-Counted.is (sym c.value_width.ensures ∙ c.in-None.is) c.empty-in-None.ensures
