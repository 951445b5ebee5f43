use Rattle.std.proofs.Common.{◌≡◌, length, refl, sym, ap, ◌∙◌, arith}
use Rattle.std.proofs.lemmas.Grind.{same_number_lists}
use Rattle.csn_look.proofs.key_table.KeyTable.has_same_marks.Goals as goal

pub returns : goal.returns
returns c =
    let mine : length c.args.self.now ≡ 384 = ap length (sym c.self.view_is) ∙ c.self.invariant.0.size in
    let its : length c.args.other.now ≡ 384 = ap length (sym c.other.view_is) ∙ c.other.invariant.0.size in (
      (λ yes. same_number_lists c.args.self.now c.args.other.now (mine ∙ sym its) (λ k small. c.loop-at.invariant k (omega arith))),
      (λ same. refl),
    )
