use Rattle.std.proofs.Common.{refl}
use Rattle.csn_desc.specs.declared.node.Node.TheVariants.{Named}
use Rattle.csn_compat.proofs.Below.{is_behind}
use Rattle.csn_compat.proofs.pairs.value_width.Goals as goal

pub node-requires-2 : goal.node-requires-2
node-requires-2 c =
    (is_behind c.args.desc.now c.args.i 0 c.in-Named.part (Named c.in-Named.label c.in-Named.part)
    _ c.requires.description c.node.ensures c.in-Named.is refl).within
