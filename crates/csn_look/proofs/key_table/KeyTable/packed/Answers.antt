use Rattle.std.proofs.Common.{◌≡◌, ℕ, ◌≤◌, List, [], ◌∷◌, ◌++◌, length, sym, ap, ◌∙◌, subst, arith, length-append}
use Rattle.csn_look.specs.KeyTables.{IsKeyTable}
use Rattle.csn_look.specs.Blocks.{laid_out, marks_of, AreWithin, IsKept}
use Rattle.csn_look.proofs.Tables.BlockFacts.{within_more, packed_more, packed_all}
use Rattle.csn_look.proofs.key_table.KeyTable.packed.Goals as goal

pub loop-at-preserved : goal.loop-at-preserved
loop-at-preserved c =
    let before = c.loop-at.invariant in
    let index = c.loop-at.index.items in
    let old = c.loop-at.blocks.items in
    let new = c.keep_block.new.blocks.items in
    let number = c.in_ok-block.block in
    let marks = c.args.self.now in
    let size : length marks ≡ 384 = ap length (sym c.self.view_is) ∙ c.self.invariant.0.size in
    let K : List ℕ → Type 0 = λ block. IsKept block old new number in
    let kept = subst K c.block.ensures c.in_ok-block.ensures in
    let pushed : c.push.new.self.items ≡ index ++ number ∷ [] = c.in_ok-push.ensures.items in
    let more : length old ≤ length new = omega (arith, ap length kept.more.1, length-append old kept.more.0) in
    let W : List ℕ → Type 0 = λ i. AreWithin i new in
    record {
      laid = ap (λ i. laid_out i new) pushed ∙ packed_more marks index old new c.loop-at.at number kept before.within before.laid (omega (arith, size));
      many = omega (arith, ap length pushed, length-append index (number ∷ []), before.many);
      within = subst W (sym pushed) (within_more index old new number before.within more kept.within);
      some = omega (arith, more, before.some);
      size = kept.size;
      few = omega (arith, kept.few, before.few);
    }

pub invariant_of-result : goal.invariant_of-result
invariant_of-result c =
    let kept = c.loop-at.invariant in
    let shrunk = c.shrink_to_fit.ensures.items in
    let size : length c.args.self.now ≡ 384 = ap length (sym c.self.view_is) ∙ c.self.invariant.0.size in
    let all = packed_all c.args.self.now c.loop-at.index.items c.loop-at.blocks.items c.loop-at.at size (omega arith) kept.many kept.laid in
    let P : List ℕ → Type 0 = IsKeyTable in
    let W : List ℕ → Type 0 = λ l. AreWithin c.loop-at.index.items l in (
      subst P (sym (ap (λ l. marks_of c.loop-at.index.items l) shrunk ∙ all ∙ sym c.self.view_is)) c.self.invariant.0,
      subst W (sym shrunk) kept.within,
    )

pub returns : goal.returns
returns c =
    let kept = c.loop-at.invariant in
    let size : length c.args.self.now ≡ 384 = ap length (sym c.self.view_is) ∙ c.self.invariant.0.size in
    ap (λ l. marks_of c.loop-at.index.items l) c.shrink_to_fit.ensures.items
    ∙ packed_all c.args.self.now c.loop-at.index.items c.loop-at.blocks.items c.loop-at.at size (omega arith) kept.many kept.laid
