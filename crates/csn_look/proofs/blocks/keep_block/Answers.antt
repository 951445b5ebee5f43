use Rattle.std.proofs.Common.{arith, nat_eq, refl, sym, ◌∙◌, [], append-nil, ap}
use Rattle.std.specs.Cmp.Lexicographic.{pointwise}
use Rattle.std.proofs.lemmas.Bool.Decides.{Decides-eqb}
use Rattle.std.proofs.lemmas.Slice.Eq.{slice_eq-Decides}
use Rattle.csn_look.specs.Blocks.{four}
use Rattle.csn_look.proofs.blocks.keep_block.Goals as goal

pub block_of-requires : goal.block_of-requires
block_of-requires c = omega arith

pub overflow_sub-last : goal.overflow_sub-last
overflow_sub-last c = omega arith

pub block_of-requires-2 : goal.block_of-requires-2
block_of-requires-2 c = omega arith

pub overflow_cast-result : goal.overflow_cast-result
overflow_cast-result c = omega arith

pub overflow_cast-result-2 : goal.overflow_cast-result-2
overflow_cast-result-2 c = omega arith

pub overflow_add-result : goal.overflow_add-result
overflow_add-result c = omega arith

pub returns-then-eq : goal.returns-then-eq
returns-then-eq c =
    let told = (slice_eq-Decides Decides-eqb c.block_of.result c.args.block
    (pointwise nat_eq c.block_of.result c.args.block) refl).0 (sym c.eq.ensures ∙ c.if-eq.true) in
    record {
      more = ([], sym (append-nil c.args.blocks.now.items));
      size = c.requires.size;
      few = omega arith;
      within = omega (arith, c.requires.some);
      same = ap (λ l. four l 0) (sym c.as_slice.ensures.value) ∙ sym c.block_of.ensures ∙ told;
    }

pub returns-then-eq-2 : goal.returns-then-eq-2
returns-then-eq-2 c =
    let told = (slice_eq-Decides Decides-eqb c.block_of-2.result c.args.block
    (pointwise nat_eq c.block_of-2.result c.args.block) refl).0 (sym c.eq-2.ensures ∙ c.if-eq-2.true) in
    record {
      more = ([], sym (append-nil c.args.blocks.now.items));
      size = c.requires.size;
      few = omega arith;
      within = omega (arith, c.requires.some, c.requires.size);
      same = rw c.as_slice-2.ensures.value at (sym c.block_of-2.ensures ∙ told);
    }
