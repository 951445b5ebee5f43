use Rattle.std.proofs.Common.{◌<◌, length, ap, ◌∙◌, arith}
use Rattle.std.proofs.lemmas.List.{get_or_read}
use Rattle.csn_look.specs.Blocks.{four}
use Rattle.csn_look.proofs.Tables.BlockFacts.{places, block_within, four_read}
use Rattle.csn_look.proofs.key_table.KeyTable.block.Goals as goal

pub index-requires : goal.index-requires
index-requires c =
    let some : 0 < length c.self.inside.index.items = omega (arith, c.self.inside.index.ok.0, c.len.ensures, c.if-len-gt0.true) in
    omega (arith, places c.self.inside.index.items c.self.inside.blocks.items some c.self.invariant.0.size, c.self.inside.index.ok.0)

pub block_of-requires : goal.block_of-requires
block_of-requires c =
    let some : 0 < length c.self.inside.index.items = omega (arith, c.self.inside.index.ok.0, c.len.ensures, c.if-len-gt0.true) in
    let there : c.args.at < length c.self.inside.index.items =
    omega (
      arith,
      places c.self.inside.index.items c.self.inside.blocks.items some c.self.invariant.0.size,
      c.requires,
    ) in
    let block = get_or_read c.self.inside.index.items c.args.at c.index.result.now there c.index.ensures 0 in
    omega (
      arith,
      block,
      block_within c.self.inside.index.items c.self.inside.blocks.items c.args.at
          c.self.invariant.1 there,
      ap length c.as_slice.ensures.value,
    )

pub returns-then-len-gt0 : goal.returns-then-len-gt0
returns-then-len-gt0 c =
    let some : 0 < length c.self.inside.index.items = omega (arith, c.self.inside.index.ok.0, c.len.ensures, c.if-len-gt0.true) in
    let there : c.args.at < length c.self.inside.index.items =
    omega (
      arith,
      places c.self.inside.index.items c.self.inside.blocks.items some c.self.invariant.0.size,
      c.requires,
    ) in
    let block = get_or_read c.self.inside.index.items c.args.at c.index.result.now there c.index.ensures 0 in
    c.block_of.ensures ∙ ap (λ l. four l c.index.result.now) c.as_slice.ensures.value
    ∙ four_read c.self.inside.index.items c.self.inside.blocks.items c.args.at c.index.result.now some there block
    ∙ ap (λ m. four m c.args.at) c.self.view_is
