use Rattle.std.proofs.Common.{◌≡◌, ℕ, ◌+◌, ◌*◌, ◌%◌, sym, subst, ◌∙◌}
use Rattle.csn_desc.specs.declared.node.Count.{Count}
use Rattle.csn_look.specs.Ends.{MayCount}
use Rattle.csn_good.specs.Octets.{OctetsAre}
use Rattle.csn_good.proofs.Arms.{fixed_units, counted_units}
use Rattle.csn_good.proofs.ending.ends_of_count.Goals as goal

pub returns-in-Fixed : goal.returns-in-Fixed
returns-in-Fixed c =
    let s = c.only.result.has in
    subst (λ (count : Count). OctetsAre s (λ p. (n : ℕ) × MayCount c.args.desc.now count n × (p ≡ (c.args.octet + c.args.unit * n) % 8))) (sym c.in-Fixed.is)
    (fixed_units c.args.desc.now s c.args.octet c.args.unit c.in-Fixed.n c.end_of_units.result c.end_of_units.ensures c.only.ensures)

pub returns-in-Some : goal.returns-in-Some
returns-in-Some c =
    let s = c.ends_of_values.result.has in
    subst (λ (count : Count). OctetsAre s (λ p. (n : ℕ) × MayCount c.args.desc.now count n × (p ≡ (c.args.octet + c.args.unit * n) % 8))) (sym c.in-Counted.is)
    (counted_units c.args.desc.now s c.args.octet c.args.unit c.in-Counted.m c.in-Counted.field c.in-Counted.c
    c.in-Some.width c.residues.result (sym c.value_width.ensures ∙ c.in-Some.is)
    c.residues.ensures.values c.residues.ensures.all c.ends_of_values.ensures)
