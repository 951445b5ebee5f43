use Rattle.std.proofs.Common.{◌≡◌, ℕ, Bool, true, false, not, nat_eq, List, refl, arith, ◌/◌, ◌*◌, ◌+◌, ◌∙◌, inl, inr, sym, subst}
use Rattle.std.specs.Cmp.Lexicographic.{pointwise}
use Rattle.std.proofs.lemmas.Bool.{cases_lt}
use Rattle.std.proofs.lemmas.Bool.Decides.{Decides-eqb}
use Rattle.std.proofs.lemmas.Slice.Eq.{slice_eq-Decides}
use Rattle.csn_look.proofs.Tables.MarkFacts.{joined, past_end}
use Rattle.csn_look.proofs.Tables.BlockFacts.{AreJoined, blank, block_joined, blank_joined}
use Rattle.csn_look.proofs.blocks.join_marks.Goals as goal
use Rattle.csn_look.proofs.blocks.join_marks.Goals.{then-ne, else-ne}

pub returns : goal.returns
returns c = λ at.
    joined c.args.marks.now c.loop-at.marks c.args.others.now at
    (elim (cases_lt (at / 64) (4 * c.loop-at.at)) [
      | inl below ↦ c.loop-at.invariant.0 (at / 64) below
      | inr above ↦
          c.loop-at.invariant.1 (at / 64) above
          ∙ past_end c.args.marks.now c.args.others.now (at / 64) (omega arith) (omega (arith, c.requires))
    ])

pub loop-at-preserved : goal.loop-at-preserved
loop-at-preserved c =
    let P : List ℕ → Type 0 = λ l. AreJoined c.args.marks.now c.args.others.now l (4 * (c.loop-at.at + 1)) in
    elim c.if-ne.branch [
      | then-ne w ↦ subst P (sym w.marks-is)
          (block_joined c.args.marks.now c.args.others.now c.loop-at.marks w.join_block.new.marks c.block-block.result
          c.loop-at.at c.loop-at.invariant c.block-block.ensures w.join_block.ensures.inside
          w.join_block.ensures.outside)
      | else-ne w ↦
          let none = (slice_eq-Decides Decides-eqb c.block-block.result blank
          (pointwise nat_eq c.block-block.result blank) refl).0
          (not_false (pointwise nat_eq c.block-block.result blank) (sym c.ne.ensures ∙ w.if-ne.false)) in
          subst P (sym w.marks-is) (blank_joined c.args.marks.now c.args.others.now c.loop-at.marks c.loop-at.at
          c.loop-at.invariant (sym c.block-block.ensures ∙ none))
    ]
  where
    not_false : (b : Bool) → not b ≡ false → b ≡ true
    not_false true e = refl
    not_false false e = absurd (cc)
