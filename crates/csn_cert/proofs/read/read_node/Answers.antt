use Rattle.std.proofs.Common.{◌++◌, eqb, sym, ap, ◌∙◌}
use Rattle.std.proofs.lemmas.Result.{err_from_is_err_and}
use Rattle.csn_cert.proofs.Refusals.{passed}
use Rattle.csn_cert.proofs.Nodes.{no_node_word, no_name, no_nullable, no_follow, no_node_end, no_positions, node_stands, nullable_told}
use Rattle.csn_cert.proofs.read.read_node.Goals as goal

pub returns-in_err-expect-clause-refused : goal.returns-in_err-expect-clause-refused
returns-in_err-expect-clause-refused c =
    let p = err_from_is_err_and c.from_residual.result c.from_residual.ensures.1 in
    passed c.from_residual.result p.0 c.in_err-expect.field-0.0 p.1 p.2 (no_node_word c.args.number c.args.text.now) c.in_err-expect.ensures.refused

pub returns-in_err-expect-2-clause-refused : goal.returns-in_err-expect-2-clause-refused
returns-in_err-expect-2-clause-refused c =
    let p = err_from_is_err_and c.from_residual-in_err-expect-2.result c.from_residual-in_err-expect-2.ensures.1 in
    passed c.from_residual-in_err-expect-2.result p.0 c.in_err-expect-2.field-0.0 p.1 p.2 (λ never.
    no_name c.args.number c.args.text.now c.expect.new.self c.in_ok-expect.ensures.ok
    (λ after same. never after
    (same ∙ ap (λ l. l ++ after) (sym (c.as_bytes.ensures.value ∙ c.format.ensures.text)))))
    c.in_err-expect-2.ensures.refused

pub returns-in_err-nullable-clause-refused : goal.returns-in_err-nullable-clause-refused
returns-in_err-nullable-clause-refused c =
    let p = err_from_is_err_and c.from_residual-in_err-nullable.result c.from_residual-in_err-nullable.ensures.1 in
    passed c.from_residual-in_err-nullable.result p.0 c.in_err-nullable.field-0.0 p.1 p.2
    (no_nullable c.args.number c.args.text.now c.expect.new.self c.expect-2.new.self
    (record {
      word = c.in_ok-expect.ensures.ok;
      name = c.in_ok-expect-2.ensures.ok ∙ ap
          (λ l. l ++ c.expect-2.new.self) (c.as_bytes.ensures.value ∙ c.format.ensures.text);
    }))
    c.in_err-nullable.ensures.refused

pub returns-in_err-follow-clause-refused : goal.returns-in_err-follow-clause-refused
returns-in_err-follow-clause-refused c =
    let p = err_from_is_err_and c.from_residual-in_err-follow.result c.from_residual-in_err-follow.ensures.1 in
    passed c.from_residual-in_err-follow.result p.0 c.in_err-follow.field-0.0 p.1 p.2
    (no_follow c.args.number c.args.text.now c.expect.new.self c.expect-2.new.self c.read_number.new.text
    c.in_ok-nullable.nullable (record {
      word = c.in_ok-expect.ensures.ok;
      name = c.in_ok-expect-2.ensures.ok ∙ ap
          (λ l. l ++ c.expect-2.new.self) (c.as_bytes.ensures.value ∙ c.format.ensures.text);
    })
    c.in_ok-nullable.ensures.ok) c.in_err-follow.ensures.refused

pub returns-in_err-expect-3-clause-refused : goal.returns-in_err-expect-3-clause-refused
returns-in_err-expect-3-clause-refused c =
    let p = err_from_is_err_and c.from_residual-in_err-expect-3.result c.from_residual-in_err-expect-3.ensures.1 in
    passed c.from_residual-in_err-expect-3.result p.0 c.in_err-expect-3.field-0.0 p.1 p.2
    (no_node_end c.args.number c.args.text.now c.expect.new.self c.expect-2.new.self c.read_number.new.text
    c.read_number-2.new.text c.in_ok-nullable.nullable c.in_ok-follow.follow
    (record {
      word = c.in_ok-expect.ensures.ok;
      name = c.in_ok-expect-2.ensures.ok ∙ ap
          (λ l. l ++ c.expect-2.new.self) (c.as_bytes.ensures.value ∙ c.format.ensures.text);
    })
    c.in_ok-nullable.ensures.ok c.in_ok-follow.ensures.ok) c.in_err-expect-3.ensures.refused

pub returns-in_err-positions-clause-refused : goal.returns-in_err-positions-clause-refused
returns-in_err-positions-clause-refused c =
    let p = err_from_is_err_and c.from_residual-in_err-positions.result c.from_residual-in_err-positions.ensures.1 in
    passed c.from_residual-in_err-positions.result p.0 c.in_err-positions.field-0.0 p.1 p.2
    (no_positions c.args.number c.args.text.now c.expect.new.self c.expect-2.new.self c.read_number.new.text
    c.read_number-2.new.text c.expect-3.new.self c.in_ok-nullable.nullable c.in_ok-follow.follow
    (record {
      word = c.in_ok-expect.ensures.ok;
      name = c.in_ok-expect-2.ensures.ok ∙ ap
          (λ l. l ++ c.expect-2.new.self) (c.as_bytes.ensures.value ∙ c.format.ensures.text);
    })
    c.in_ok-nullable.ensures.ok c.in_ok-follow.ensures.ok c.in_ok-expect-3.ensures.ok)
    c.in_err-positions.ensures.refused

pub returns-clause-ok : goal.returns-clause-ok
returns-clause-ok c =
    node_stands c.args.number c.args.text.now c.expect.new.self c.expect-2.new.self c.read_number.new.text
    c.read_number-2.new.text c.expect-3.new.self c.read_positions.new.text (eqb c.in_ok-nullable.nullable 1)
    c.in_ok-nullable.nullable c.in_ok-follow.follow c.in_ok-positions.positions.items
    (record {
      word = c.in_ok-expect.ensures.ok;
      name = c.in_ok-expect-2.ensures.ok ∙ ap
          (λ l. l ++ c.expect-2.new.self) (c.as_bytes.ensures.value ∙ c.format.ensures.text);
    })
    c.in_ok-nullable.ensures.ok (nullable_told c.in_ok-nullable.nullable c.in_ok-nullable.ensures.ok.is)
    c.in_ok-follow.ensures.ok c.in_ok-expect-3.ensures.ok c.in_ok-positions.ensures.ok
