use Rattle.std.proofs.lemmas.Result.{err_from_is_err_and}
use Rattle.csn_cert.proofs.Refusals.{passed}
use Rattle.csn_cert.proofs.Lines.{no_octet, no_ends, no_start, no_space, no_position_patterns, position_stands}
use Rattle.csn_cert.proofs.read.read_position.Goals as goal

pub returns-in_err-octet-clause-refused : goal.returns-in_err-octet-clause-refused
returns-in_err-octet-clause-refused c =
    let p = err_from_is_err_and c.from_residual.result c.from_residual.ensures.1 in
    passed c.from_residual.result p.0 c.in_err-octet.field-0.0 p.1 p.2 (no_octet c.args.text.now) c.in_err-octet.ensures.refused

pub returns-in_err-ends-clause-refused : goal.returns-in_err-ends-clause-refused
returns-in_err-ends-clause-refused c =
    let p = err_from_is_err_and c.from_residual-in_err-ends.result c.from_residual-in_err-ends.ensures.1 in
    passed c.from_residual-in_err-ends.result p.0 c.in_err-ends.field-0.0 p.1 p.2
    (no_ends c.args.text.now c.read_octet.new.text c.in_ok-octet.octet c.in_ok-octet.ensures.ok)
    c.in_err-ends.ensures.refused

pub returns-in_err-start-clause-refused : goal.returns-in_err-start-clause-refused
returns-in_err-start-clause-refused c =
    let p = err_from_is_err_and c.from_residual-in_err-start.result c.from_residual-in_err-start.ensures.1 in
    passed c.from_residual-in_err-start.result p.0 c.in_err-start.field-0.0 p.1 p.2
    (no_start c.args.text.now c.read_octet.new.text c.read_number.new.text c.in_ok-octet.octet c.in_ok-ends.ends
    c.in_ok-octet.ensures.ok c.in_ok-ends.ensures.ok) c.in_err-start.ensures.refused

pub returns-in_err-expect-clause-refused : goal.returns-in_err-expect-clause-refused
returns-in_err-expect-clause-refused c =
    let p = err_from_is_err_and c.from_residual-in_err-expect.result c.from_residual-in_err-expect.ensures.1 in
    passed c.from_residual-in_err-expect.result p.0 c.in_err-expect.field-0.0 p.1 p.2
    (no_space c.args.text.now c.read_octet.new.text c.read_number.new.text c.read_number-2.new.text
    c.in_ok-octet.octet c.in_ok-ends.ends c.in_ok-start.start c.in_ok-octet.ensures.ok c.in_ok-ends.ensures.ok
    c.in_ok-start.ensures.ok) c.in_err-expect.ensures.refused

pub returns-in_err-patterns-clause-refused : goal.returns-in_err-patterns-clause-refused
returns-in_err-patterns-clause-refused c =
    let p = err_from_is_err_and c.from_residual-in_err-patterns.result c.from_residual-in_err-patterns.ensures.1 in
    passed c.from_residual-in_err-patterns.result p.0 c.in_err-patterns.field-0.0 p.1 p.2
    (no_position_patterns c.args.text.now c.read_octet.new.text c.read_number.new.text c.read_number-2.new.text
    c.expect.new.self c.in_ok-octet.octet c.in_ok-ends.ends c.in_ok-start.start c.in_ok-octet.ensures.ok
    c.in_ok-ends.ensures.ok c.in_ok-start.ensures.ok c.in_ok-expect.ensures.ok) c.in_err-patterns.ensures.refused

pub returns-clause-ok : goal.returns-clause-ok
returns-clause-ok c =
    position_stands c.args.text.now c.read_octet.new.text c.read_number.new.text c.read_number-2.new.text
    c.expect.new.self c.read_patterns.new.text c.in_ok-octet.octet c.in_ok-ends.ends c.in_ok-start.start
    c.in_ok-patterns.patterns.items
    c.in_ok-octet.ensures.ok c.in_ok-ends.ensures.ok c.in_ok-start.ensures.ok c.in_ok-expect.ensures.ok c.in_ok-patterns.ensures.ok
