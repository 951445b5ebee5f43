use Rattle.std.proofs.Common.{◌≡◌, ◌-◌, ◌/◌, ◌%◌, ◌^◌, [], length, ◌∙◌, sym, ap, arith}
use Rattle.std.specs.Prelude.{slice_index_or}
use Rattle.csn_certify.specs.declared.pick_table.Entry.TheVariants.{Refuse}
use Rattle.csn_certify.specs.PickTables.{entry_in, entry_at, blocks_at}
use Rattle.csn_certify.proofs.PickTables.{cut_place, cut_within}
use Rattle.csn_certify.proofs.PickBlocks.{read_block, read_within}
use Rattle.csn_certify.proofs.pick_table.PickTable.entry.Goals as goal

pub returns-then-place-lt-FIRST : goal.returns-then-place-lt-FIRST
returns-then-place-lt-FIRST c =
    let table = c.self.inside.table.now in
    let over : c.saturating_sub-over.result ≡ length c.args.held.now - table.width = c.saturating_sub-over.ensures
    ∙ ap (λ n. n - table.width) c.len.ensures.count in
    c.self.invariant.first (c.place.result / 2 ^ c.saturating_sub-over.result) c.if-place-lt-FIRST.true
    ∙ ap (entry_in (blocks_at table.index.items c.self.inside.blocks.now))
    (cut_place table.width c.args.held.now c.place.result c.saturating_sub-over.result c.place.ensures.word
    c.place.ensures.value over)
    ∙ ap (λ t. entry_at t c.args.held.now) c.self.view_is

pub index-block-requires : goal.index-block-requires
index-block-requires c =
    let width = c.self.inside.table.now.width in
    let over : c.saturating_sub-over.result ≡ length c.args.held.now - width = c.saturating_sub-over.ensures ∙ ap (λ n. n - width) c.len.ensures.count in
    let inside = cut_within width c.args.held.now c.place.result c.saturating_sub-over.result c.place.ensures.word c.place.ensures.value over in
    let enough = c.self.invariant.enough in
    omega (arith, inside, enough)

pub entry-requires : goal.entry-requires
entry-requires c =
    let width = c.self.inside.table.now.width in
    let over : c.saturating_sub-over.result ≡ length c.args.held.now - width = c.saturating_sub-over.ensures ∙ ap (λ n. n - width) c.len.ensures.count in
    let inside = cut_within width c.args.held.now c.place.result c.saturating_sub-over.result c.place.ensures.word c.place.ensures.value over in
    let enough = c.self.invariant.enough in
    let at = c.place.result / 2 ^ c.saturating_sub-over.result / 64 in
    let there = c.self.invariant.within at (omega (arith, inside, enough)) in
    let block = read_within c.self.inside.table.now.index.items at c.index-block.result.now (omega (arith, inside, enough)) c.index-block.ensures in
    omega (arith, there, block)

pub returns : goal.returns
returns c =
    let held = c.args.held.now in
    let table = c.self.inside.table.now in
    let blocks = c.self.inside.blocks.now in
    let place = c.place.result / 2 ^ c.saturating_sub-over.result in
    let over : c.saturating_sub-over.result ≡ length held - table.width = c.saturating_sub-over.ensures ∙ ap (λ n. n - table.width) c.len.ensures.count in
    let inside = cut_within table.width held c.place.result c.saturating_sub-over.result c.place.ensures.word c.place.ensures.value over in
    let enough = c.self.invariant.enough in
    c.entry.ensures
    ∙ ap (λ n. slice_index_or (slice_index_or blocks n []) (place % 64) Refuse)
    (read_within table.index.items (place / 64) c.index-block.result.now (omega (arith, inside, enough))
    c.index-block.ensures)
    ∙ sym (read_block table.index.items blocks place (omega (arith, inside, enough)))
    ∙ ap (entry_in (blocks_at table.index.items blocks))
    (cut_place table.width held c.place.result c.saturating_sub-over.result c.place.ensures.word
    c.place.ensures.value over)
    ∙ ap (λ t. entry_at t held) c.self.view_is
