use Rattle.std.proofs.Common.{ℕ, ◌+◌, ◌-◌, ◌%◌, sym, ◌∙◌}
use Rattle.csn_look.specs.Sums.{Has}
use Rattle.csn_look.proofs.Basics.Octets.{below_none, below_with, below_without}
use Rattle.csn_look.proofs.octet_set.OctetSet.turned.Goals as goal
use Rattle.csn_look.proofs.octet_set.OctetSet.turned.Goals.{then-has, else-has}

pub loop-octet-init : goal.loop-octet-init
loop-octet-init c = below_none (λ o. Has c.args.self ((o + 8 - c.args.by) % 8)) c.empty-turned.result c.empty-turned.ensures

pub loop-octet-preserved : goal.loop-octet-preserved
loop-octet-preserved c =
    let P : ℕ → Type 0 = λ o. Has c.args.self ((o + 8 - c.args.by) % 8) in
    elim c.if-has.branch [
      | then-has w ↦ below_with P c.loop-octet.octet c.loop-octet.turned c.if-has.turned c.loop-octet.invariant
          (sym c.has.ensures ∙ w.if-has.true) (w.turned-is ∙ w.with-turned.ensures)
      | else-has w ↦ below_without P c.loop-octet.octet c.loop-octet.turned c.if-has.turned c.loop-octet.invariant
          (λ h. cc (h, c.has.ensures, w.if-has.false)) w.turned-is
    ]
