use Rattle.std.proofs.Common.{ℕ, List, Ok, Err, sym, subst, ap, ◌∙◌}
use Rattle.csn_movetext.specs.declared.fault.BlockFault.{BlockFault}
use Rattle.csn_movetext.specs.Blocks.{BlockV, Ends}
use Rattle.csn_movetext.proofs.block.BlockText.finish.Goals as goal

pub returns-in-Ok-clause-text : goal.returns-in-Ok-clause-text
returns-in-Ok-clause-text g c =
    let T : List ℕ → Type 0 = λ l. Ends c.args.self (Ok l) in
    subst T (ap (λ (b : BlockV). b.track.kept.text) (sym c.self.view_is) ∙ sym c.finish.ensures) c.in-Ok.ensures.text

pub returns-in-Err-clause-why : goal.returns-in-Err-clause-why
returns-in-Err-clause-why g c =
    let Y : BlockFault → Type 0 = λ y. Ends c.args.self (Err y) in
    subst Y (sym c.cut_back.ensures.why) c.in-Err.ensures.why
