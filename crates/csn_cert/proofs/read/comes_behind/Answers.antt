use Rattle.std.proofs.Common.{sym, ap}
use Rattle.csn_cert.specs.Growing.{last_of}
use Rattle.csn_cert.proofs.Lines.{last_found, octet_behind}
use Rattle.csn_cert.proofs.read.comes_behind.Goals as goal

pub returns-in-Some : goal.returns-in-Some
returns-in-Some c =
    octet_behind (last_of c.args.positions.now) c.in-Some.last.now c.last-in-Some.inside.octet c.args.octet
    (last_found c.args.positions.now c.in-Some.last.now (sym c.in-Some.ensures.value)) (ap (λ p. p.octet) c.last-in-Some.view_is)
