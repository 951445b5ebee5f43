use Rattle.std.proofs.Common.{◌∷◌, [], ap, ◌∙◌, refl, arith}
use Rattle.csn_good.specs.Patterns.{leaf_pattern}
use Rattle.csn_certmake.proofs.Rows.{row_one, row_all}
use Rattle.csn_certmake.proofs.pattern_table.alone.Goals as goal

pub loop-octet-preserved : goal.loop-octet-preserved
loop-octet-preserved c =
    row_one (λ octet. leaf_pattern c.args.reading c.args.node.now octet ∷ []) c.loop-octet.row c.push.new.self
    c.loop-octet.octet c.in_ok-vec.field-0.items (leaf_pattern c.args.reading c.args.node.now c.loop-octet.octet)
    c.loop-octet.invariant (c.in_ok-vec.ensures.items ∙ ap (λ p. p ∷ []) c.leaf_pattern.ensures)
    refl c.in_ok-push.ensures

pub returns : goal.returns
returns c = row_all (λ octet. leaf_pattern c.args.reading c.args.node.now octet ∷ [])
    c.loop-octet.row c.loop-octet.octet (omega (arith, c.loop-octet-test.false, c.loop-octet.auto.octet-end))
    c.loop-octet.invariant
