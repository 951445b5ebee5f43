use Rattle.std.proofs.Common.{◌≡◌, ℕ, ◌+◌, ◌*◌, ◌<◌, ◌≤◌, false, sym, subst, arith}
use Rattle.csn_look.proofs.Tables.SizeFacts.{AreSizes, sizes_first, sizes_set, sizes_unset, sizes_last}
use Rattle.csn_look.specs.KeyMarks.{is_marked}
use Rattle.csn_look.proofs.sizes.sizes_of.Goals as goal
use Rattle.csn_look.proofs.sizes.sizes_of.Goals.{then-next_marked-end, else-next_marked-end}

pub loop-size-init : goal.loop-size-init
loop-size-init c = sizes_first c.args.table.now c.args.plane

pub loop-size-preserved : goal.loop-size-preserved
loop-size-preserved c =
    let P : ℕ → Type 0 = λ sizes. AreSizes c.args.table.now c.args.plane sizes (c.loop-size.size + 1) in
    elim c.if-next_marked-end.branch [
      | then-next_marked-end w ↦ subst P (sym w.sizes-is)
          (sizes_set c.args.table.now c.args.plane c.loop-size.sizes c.loop-size.size c.words_of-words.result
          c.words_of-words.ensures.value c.loop-size.invariant)
      | else-next_marked-end w ↦
          let high = c.next_marked.ensures.high in
          let none : (at : ℕ) → c.args.plane + c.words_of-words.result ≤ at
          → at < c.args.plane + 2 * c.words_of-words.result → is_marked c.args.table.now at ≡ false =
          λ at from below. c.next_marked.ensures.none at from (omega (arith, w.if-next_marked-end.false, high)) in
          subst P (sym w.sizes-is) (sizes_unset c.args.table.now c.args.plane c.loop-size.sizes c.loop-size.size
          c.words_of-words.result c.words_of-words.ensures.value none c.loop-size.invariant)
    ]

pub returns : goal.returns
returns c = sizes_last c.args.table.now c.args.plane c.loop-size.sizes c.loop-size.size (omega arith) c.loop-size.invariant
