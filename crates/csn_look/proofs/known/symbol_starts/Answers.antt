use Rattle.std.proofs.Common.{◌≡◌, ℕ, sym, ◌∙◌}
use Rattle.csn_desc.specs.Spelled.{symbol_bit}
use Rattle.csn_look.proofs.Basics.Octets.{below_none, below_with, below_without}
use Rattle.csn_look.proofs.known.symbol_starts.Goals as goal
use Rattle.csn_look.proofs.known.symbol_starts.Goals.{then-bit_of_symbol-bit, else-bit_of_symbol-bit}

pub loop-octet-init : goal.loop-octet-init
loop-octet-init c = below_none (λ o. symbol_bit c.args.symbol o ≡ c.args.bit) c.empty-starts.result c.empty-starts.ensures

pub loop-octet-preserved : goal.loop-octet-preserved
loop-octet-preserved c =
    let P : ℕ → Type 0 = λ o. symbol_bit c.args.symbol o ≡ c.args.bit in
    elim c.if-bit_of_symbol-bit.branch [
      | then-bit_of_symbol-bit w ↦
          below_with P c.loop-octet.octet c.loop-octet.starts c.if-bit_of_symbol-bit.starts c.loop-octet.invariant
          (sym c.bit_of_symbol.ensures ∙ w.if-bit_of_symbol-bit.true) (w.starts-is ∙ w.with-starts.ensures)
      | else-bit_of_symbol-bit w ↦
          below_without P c.loop-octet.octet c.loop-octet.starts c.if-bit_of_symbol-bit.starts c.loop-octet.invariant
          (λ h. w.if-bit_of_symbol-bit.false (c.bit_of_symbol.ensures ∙ h)) w.starts-is
    ]
