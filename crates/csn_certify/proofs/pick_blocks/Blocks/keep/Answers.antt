use Rattle.std.proofs.Common.{◌++◌, ap, ◌∙◌}
use Rattle.std.specs.List.{list_any}
use Rattle.std.specs.Cmp.Lexicographic.{pointwise}
use Rattle.csn_certify.specs.SameEntries.{same_entry}
use Rattle.csn_certify.proofs.PickBlocks.{stored, behind, once}
use Rattle.csn_certify.proofs.pick_blocks.Blocks.keep.Goals as goal

pub returns-clause-kept : goal.returns-clause-kept
returns-clause-kept c =
    let s = c.in_ok-at.ensures.stored in
    stored (λ block. block.entries.items) c.insert_full.new.self.keys c.in_ok-at.at c.args.block s.0 s.1 s.2

pub returns-clause-more : goal.returns-clause-more
returns-clause-more c =
    let h = behind (λ block. block.entries.items) c.self.inside.blocks.keys c.insert_full.new.self.keys c.args.block
    (list_any (λ t. pointwise same_entry c.args.block.entries.items t.entries.items) c.self.inside.blocks.keys)
    c.in_ok-at.ensures.keys in
    (h.0, h.1 ∙ ap (λ l. l ++ h.0) c.self.view_is)

pub returns-then-at-clause-more : goal.returns-then-at-clause-more
returns-then-at-clause-more c =
    let h = behind (λ block. block.entries.items) c.self.inside.blocks.keys c.insert_full.new.self.keys c.args.block
    (list_any (λ t. pointwise same_entry c.args.block.entries.items t.entries.items) c.self.inside.blocks.keys)
    c.in_ok-at.ensures.keys in
    (h.0, h.1 ∙ ap (λ l. l ++ h.0) c.self.view_is)

pub returns-clause-once : goal.returns-clause-once
returns-clause-once c = once (λ block. block.entries.items) c.insert_full.new.self.keys c.insert_full.ensures.unique

pub returns-then-at-clause-once : goal.returns-then-at-clause-once
returns-then-at-clause-once c = once (λ block. block.entries.items) c.insert_full.new.self.keys c.insert_full.ensures.unique

pub returns-in_err-at-clause-once : goal.returns-in_err-at-clause-once
returns-in_err-at-clause-once c = once (λ block. block.entries.items) c.insert_full.new.self.keys c.insert_full.ensures.unique
