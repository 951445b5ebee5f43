use Rattle.std.proofs.Common.{◌+◌, ◌*◌, ◌/◌, ◌%◌, ◌<◌, get_or, length, ap, ◌∙◌, arith}
use Rattle.std.proofs.lemmas.List.{get_or_read}
use Rattle.csn_look.proofs.Tables.BlockFacts.{places, block_within, word_read}
use Rattle.csn_look.proofs.key_table.KeyTable.word.Goals as goal

pub index-requires : goal.index-requires
index-requires c =
    let some : 0 < length c.self.inside.index.items = omega (arith, c.self.inside.index.ok.0, c.len.ensures, c.if-len-gt0.true) in
    omega (arith, places c.self.inside.index.items c.self.inside.blocks.items some c.self.invariant.0.size, c.self.inside.index.ok.0)

pub index-requires-then-len-gt0 : goal.index-requires-then-len-gt0
index-requires-then-len-gt0 c =
    let some : 0 < length c.self.inside.index.items = omega (arith, c.self.inside.index.ok.0, c.len.ensures, c.if-len-gt0.true) in
    let many = places c.self.inside.index.items c.self.inside.blocks.items some c.self.invariant.0.size in
    let there : c.args.at / 4 < length c.self.inside.index.items = omega (arith, many, c.requires) in
    let block = get_or_read c.self.inside.index.items (c.args.at / 4) c.index.result.now there c.index.ensures 0 in
    omega (arith, block, block_within c.self.inside.index.items c.self.inside.blocks.items (c.args.at / 4) c.self.invariant.1 there, c.self.inside.blocks.ok.0)

pub returns-then-len-gt0 : goal.returns-then-len-gt0
returns-then-len-gt0 c =
    let some : 0 < length c.self.inside.index.items = omega (arith, c.self.inside.index.ok.0, c.len.ensures, c.if-len-gt0.true) in
    let many = places c.self.inside.index.items c.self.inside.blocks.items some c.self.invariant.0.size in
    let there : c.args.at / 4 < length c.self.inside.index.items = omega (arith, many, c.requires) in
    let block = get_or_read c.self.inside.index.items (c.args.at / 4) c.index.result.now there c.index.ensures 0 in
    let inside : 4 * c.index.result.now + c.args.at % 4 < length c.self.inside.blocks.items =
    omega (
      arith,
      block,
      block_within c.self.inside.index.items c.self.inside.blocks.items (c.args.at / 4)
          c.self.invariant.1 there,
    ) in
    let word = get_or_read c.self.inside.blocks.items (4 * c.index.result.now + c.args.at % 4)
    c.index-then-len-gt0.result.now inside c.index-then-len-gt0.ensures 0 in
    word_read c.self.inside.index.items c.self.inside.blocks.items c.args.at c.index.result.now
    c.index-then-len-gt0.result.now some (omega (arith, many, c.requires)) block word
    ∙ ap (λ m. get_or m c.args.at 0) c.self.view_is
