use Rattle.std.proofs.Common.{ℕ, ◌+◌, ◌-◌, ◌%◌, sym, ◌∙◌, arith}
use Rattle.csn_look.specs.Sums.{Has}
use Rattle.csn_look.proofs.Basics.Octets.{swept_none, swept_more, swept_same, plus_is}
use Rattle.csn_look.proofs.octet_set.OctetSet.plus.Goals as goal
use Rattle.csn_look.proofs.octet_set.OctetSet.plus.Goals.{then-has, else-has}

pub loop-by-init : goal.loop-by-init
loop-by-init c = swept_none (λ b o. Has c.args.other b × Has c.args.self ((o + 8 - b) % 8)) c.empty-sums.result c.empty-sums.ensures

pub loop-by-preserved : goal.loop-by-preserved
loop-by-preserved c =
    let P : ℕ → ℕ → Type 0 = λ b o. Has c.args.other b × Has c.args.self ((o + 8 - b) % 8) in
    elim c.if-has.branch [
      | then-has w ↦
          swept_more P c.loop-by.by c.loop-by.sums w.turned.result c.if-has.sums c.loop-by.invariant
          (λ o small. ((λ h. (sym c.has.ensures ∙ w.if-has.true, (w.turned.ensures o small).0 h)), (λ p. (w.turned.ensures o small).1 p.1)))
          (w.sums-is ∙ w.union-sums.ensures)
      | else-has w ↦ swept_same P c.loop-by.by c.loop-by.sums c.if-has.sums c.loop-by.invariant (λ o p. cc (p.0, c.has.ensures, w.if-has.false)) w.sums-is
    ]

pub returns : goal.returns
returns c = plus_is c.args.self c.args.other c.loop-by.sums c.loop-by.by c.loop-by.invariant (omega arith) (omega arith)
