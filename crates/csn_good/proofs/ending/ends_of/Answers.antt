use Rattle.std.proofs.Common.{◌≡◌, ℕ, ◌+◌, ◌*◌, ◌%◌, Bool, List, ◌∙◌, ap}
use Rattle.csn_desc.specs.declared.node.Node.{Node}
use Rattle.csn_desc.specs.Nodes.{DescV}
use Rattle.csn_cert.specs.CertificateV.{NodeV}
use Rattle.csn_claims.specs.Ends.{NodeEnds}
use Rattle.csn_good.specs.ClaimedSets.{claims_of}
use Rattle.csn_good.specs.Octets.{OctetsAre}
use Rattle.csn_good.proofs.Arms.{along, lits_end, spare_end, null_end, pad_end, rest_end, field_end, window_end}
use Rattle.csn_good.proofs.Arms.{seq_end, trunc_end, choice_end, times_end, many_end, named_end}
use Rattle.csn_good.proofs.ending.ends_of.Goals as goal

-- the octet positions where a node ends whose kind is known
ends_with : (d : DescV) (c : List NodeV) (octet : ℕ) (s : List Bool) {n m : Node}
    → n ≡ m → OctetsAre s (NodeEnds d (claims_of c) m octet) → OctetsAre s (NodeEnds d (claims_of c) n octet)
ends_with d c octet s is = along (λ n. OctetsAre s (NodeEnds d (claims_of c) n octet)) is

pub returns-in-Lits : goal.returns-in-Lits
returns-in-Lits c = ends_with c.args.desc.now c.args.c.now c.args.octet c.only.result.has c.in-Lits.is
    (lits_end c.args.desc.now (claims_of c.args.c.now) c.args.octet c.requires.octet c.only.result.has c.in-Lits.run'
    c.end_of_units.result (c.end_of_units.ensures ∙ ap (λ k. (c.args.octet + 1 * k) % 8) c.len.ensures.len)
    c.only.ensures)

pub returns-in-Spare : goal.returns-in-Spare
returns-in-Spare c = ends_with c.args.desc.now c.args.c.now c.args.octet c.only-in-Spare.result.has c.in-Spare.is
    (spare_end c.args.desc.now (claims_of c.args.c.now) c.args.octet c.requires.octet c.only-in-Spare.result.has
    c.in-Spare.field-0 c.end_of_units-in-Spare.result c.end_of_units-in-Spare.ensures c.only-in-Spare.ensures)

pub returns-in-Pad : goal.returns-in-Pad
returns-in-Pad c = ends_with c.args.desc.now c.args.c.now c.args.octet c.all.result.has c.in-Pad.is
    (pad_end c.args.desc.now (claims_of c.args.c.now) c.args.octet c.requires.octet c.all.result.has c.all.ensures)

pub returns-in-Null : goal.returns-in-Null
returns-in-Null c = ends_with c.args.desc.now c.args.c.now c.args.octet c.only-here.result.has c.in-Null.is
    (null_end c.args.desc.now (claims_of c.args.c.now) c.args.octet c.requires.octet c.only-here.result.has
    c.only-here.ensures)

pub returns-in-Field : goal.returns-in-Field
returns-in-Field c = ends_with c.args.desc.now c.args.c.now c.args.octet c.ends_of_count.result.has c.in-Field.is
    (field_end c.args.desc.now (claims_of c.args.c.now) c.args.octet c.requires.octet c.ends_of_count.result.has
    c.in-Field.unit c.in-Field.count c.ends_of_count.ensures)

pub returns-in-Rest : goal.returns-in-Rest
returns-in-Rest c = ends_with c.args.desc.now c.args.c.now c.args.octet c.all-in-Rest.result.has c.in-Rest.is
    (rest_end c.args.desc.now (claims_of c.args.c.now) c.args.octet c.requires.octet c.all-in-Rest.result.has
    c.all-in-Rest.ensures)

pub returns-in-Seq : goal.returns-in-Seq
returns-in-Seq c = ends_with c.args.desc.now c.args.c.now c.args.octet c.through_parts.result.has c.in-Seq.is
    (seq_end c.args.desc.now (claims_of c.args.c.now) c.args.octet c.requires.octet c.through_parts.result.has
    c.only-here.result.has c.only-here.ensures c.in-Seq.parts c.through_parts.ensures)

pub returns-in-Choice : goal.returns-in-Choice
returns-in-Choice c = ends_with c.args.desc.now c.args.c.now c.args.octet c.ends_of_some.result.has c.in-Choice.is
    (choice_end c.args.desc.now (claims_of c.args.c.now) c.args.octet c.requires.octet c.ends_of_some.result.has
    c.only-here.result.has c.only-here.ensures c.in-Choice.parts c.ends_of_some.ensures)

pub returns-in-Times : goal.returns-in-Times
returns-in-Times c = ends_with c.args.desc.now c.args.c.now c.args.octet c.ends_of_times.result.has c.in-Times.is
    (times_end c.args.desc.now (claims_of c.args.c.now) c.args.octet c.requires.octet c.ends_of_times.result.has
    c.only-here.result.has c.only-here.ensures c.in-Times.count c.in-Times.part c.ends_of_times.ensures)

pub returns-in-Many : goal.returns-in-Many
returns-in-Many c = ends_with c.args.desc.now c.args.c.now c.args.octet c.through_many.result.has c.in-Many.is
    (many_end c.args.desc.now (claims_of c.args.c.now) c.args.octet c.requires.octet c.through_many.result.has
    c.only-here.result.has c.only-here.ensures c.in-Many.part c.through_many.ensures)

pub returns-in-Trunc : goal.returns-in-Trunc
returns-in-Trunc c = ends_with c.args.desc.now c.args.c.now c.args.octet c.through_lead.result.has c.in-Trunc.is
    (trunc_end c.args.desc.now (claims_of c.args.c.now) c.args.octet c.requires.octet c.through_lead.result.has
    c.only-here.result.has c.only-here.ensures c.in-Trunc.parts c.through_lead.ensures)

pub returns-in-Window : goal.returns-in-Window
returns-in-Window c = ends_with c.args.desc.now c.args.c.now c.args.octet c.ends_of_count-in-Window.result.has
    c.in-Window.is (window_end c.args.desc.now (claims_of c.args.c.now)
    c.args.octet c.requires.octet c.ends_of_count-in-Window.result.has c.in-Window.unit c.in-Window.count
    c.in-Window.part c.ends_of_count-in-Window.ensures)

pub returns-in-Named : goal.returns-in-Named
returns-in-Named c = ends_with c.args.desc.now c.args.c.now c.args.octet c.through.result.has c.in-Named.is
    (named_end c.args.desc.now (claims_of c.args.c.now) c.args.octet c.requires.octet c.through.result.has
    c.only-here.result.has c.only-here.ensures c.in-Named.label c.in-Named.part c.through.ensures)
