use Rattle.std.proofs.Common.{ℕ, ◌-◌, ◌%◌, sym, ◌∙◌}
use Rattle.csn_look.specs.Sums.{Has}
use Rattle.csn_look.proofs.Basics.Octets.{below_none, below_with, below_without}
use Rattle.csn_look.proofs.octet_set.OctetSet.back.Goals as goal
use Rattle.csn_look.proofs.octet_set.OctetSet.back.Goals.{then-has, else-has}

pub loop-octet-init : goal.loop-octet-init
loop-octet-init c = below_none (λ o. Has c.args.self ((8 - o) % 8)) c.empty-back.result c.empty-back.ensures

pub loop-octet-preserved : goal.loop-octet-preserved
loop-octet-preserved c =
    let P : ℕ → Type 0 = λ o. Has c.args.self ((8 - o) % 8) in
    elim c.if-has.branch [
      | then-has w ↦ below_with P c.loop-octet.octet c.loop-octet.back c.if-has.back c.loop-octet.invariant
          (sym c.has.ensures ∙ w.if-has.true) (w.back-is ∙ w.with-back.ensures)
      | else-has w ↦ below_without P c.loop-octet.octet c.loop-octet.back c.if-has.back c.loop-octet.invariant
          (λ h. cc (h, c.has.ensures, w.if-has.false)) w.back-is
    ]
