use Rattle.std.proofs.Common.{◌+◌, ◌++◌, ◌∙◌, ℕ, List, ap, sym, subst, append_assoc, arith, ◌≡◌, ◌/◌, [], length, append-nil}
use Rattle.csn_certify.specs.PickTables.{AreFirstBlocks}
use Rattle.csn_certify.proofs.PickBlocks.{block_more}
use Rattle.csn_certify.proofs.pick_blocks.Blocks.keep_all.Goals as goal

pub loop-at-preserved : goal.loop-at-preserved
loop-at-preserved c =
    let kept = c.in_ok-number.ensures.kept in
    let more = c.in_ok-number.ensures.more in
    let before = c.loop-at.invariant.1 in
    let P : List ℕ → Type 0 = λ index. AreFirstBlocks c.args.entries.now (c.loop-at.at + 1) index c.keep.new.self in (
      subst P (sym c.in_ok-push.ensures.items)
          (block_more c.args.entries.now c.in_ok-block_of.field-0.items c.loop-at.at c.in_ok-number.number
          c.loop-at.index.items c.loop-at.self c.keep.new.self more.0 more.1 kept.0 kept.1
          c.in_ok-block_of.ensures c.loop-at.invariant.0),
      (before.0 ++ more.0, more.1 ∙ ap (λ l. l ++ more.0) before.1 ∙ append_assoc c.args.self.now before.0 more.0),
    )

pub block_of-requires : goal.block_of-requires
block_of-requires c = omega (arith, c.div_ceil-count.ensures, c.loop-at-test.true)

pub loop-at-init : goal.loop-at-init
loop-at-init c =
    let none = c.in_ok-index.ensures.items in (
      record {
        size = ap length none;
        within = λ at less. absurd (omega (arith, less));
        blocks_of = λ at less. absurd (omega (arith, less));
      },
      ([], sym (append-nil c.args.self.now)),
    )

pub returns-in_err-index-clause-more : goal.returns-in_err-index-clause-more
returns-in_err-index-clause-more c = ([], sym (append-nil c.args.self.now))

pub returns-in_err-block_of-clause-more : goal.returns-in_err-block_of-clause-more
returns-in_err-block_of-clause-more c = c.loop-at.invariant.1

pub returns-in_err-number-clause-more : goal.returns-in_err-number-clause-more
returns-in_err-number-clause-more c =
    let more = c.keep.ensures.more in
    let before = c.loop-at.invariant.1 in
    (before.0 ++ more.0, more.1 ∙ ap (λ l. l ++ more.0) before.1 ∙ append_assoc c.args.self.now before.0 more.0)

pub returns-in_err-push-clause-more : goal.returns-in_err-push-clause-more
returns-in_err-push-clause-more c =
    let more = c.keep.ensures.more in
    let before = c.loop-at.invariant.1 in
    (before.0 ++ more.0, more.1 ∙ ap (λ l. l ++ more.0) before.1 ∙ append_assoc c.args.self.now before.0 more.0)

pub returns-clause-kept : goal.returns-clause-kept
returns-clause-kept c =
    let entries = c.args.entries.now in
    let all : c.loop-at.at ≡ (length entries + 63) / 64 = omega (arith, c.div_ceil-count.ensures, c.loop-at-test.false) in
    subst (λ (n : ℕ). AreFirstBlocks entries n c.loop-at.index.items c.loop-at.self) all c.loop-at.invariant.0

pub returns-clause-more : goal.returns-clause-more
returns-clause-more c = c.loop-at.invariant.1
