use Rattle.std.proofs.Common.{◌≡◌, ◌<◌, ◌+◌, ℕ, suc, Bool, sym, subst, arith}
use Rattle.std.specs.Prelude.{◌^◌, ◌↔◌, IsTrue}
use Rattle.csn_look.specs.Sums.{Has}
use Rattle.csn_certmake.specs.Digits.{DigitsAre}
use Rattle.csn_certmake.proofs.Writing.{digit_more, small_more}
use Rattle.csn_certmake.proofs.digits.digits_of.Goals as goal

pub loop-octet-preserved : goal.loop-octet-preserved
loop-octet-preserved c =
    let octets = c.args.octets.now in
    let octet = c.loop-octet.octet in
    let is = c.has.result in
    let step : octet + 1 ≡ suc octet = omega arith in
    let here : IsTrue is ↔ Has octets octet = subst (λ (b : Bool). IsTrue is ↔ IsTrue b) c.has.ensures (λ h. h, λ h. h) in
    subst (λ (n : ℕ). (n < 2 ^ (octet + 1)) × DigitsAre (octet + 1) n (Has octets)) (sym c.with_digit-digits.ensures) (
      small_more octet (octet + 1) c.loop-octet.digits is step c.loop-octet.invariant.0,
      digit_more octet (octet + 1) c.loop-octet.digits is (Has octets) step c.loop-octet.invariant.1 here,
    )
