use Rattle.std.proofs.Common.{◌≡◌, ◌++◌, ◌+◌, ◌*◌, ◌<◌, ◌^◌, ℕ, suc, sym, ap, subst, ◌∙◌, arith}
use Rattle.std.proofs.lemmas.Result.{err_from_is_err_and}
use Rattle.csn_cert.specs.CertificateText.{digits_text}
use Rattle.csn_cert.proofs.Fronts.{tails}
use Rattle.csn_cert.proofs.Numbers.{digits_more, number_grows, digit_next}
use Rattle.csn_cert.proofs.Refusals.{passed}
use Rattle.csn_cert.proofs.read.read_number.Goals as goal

pub returns-in_err-expect-clause-refused : goal.returns-in_err-expect-clause-refused
returns-in_err-expect-clause-refused c =
    let p = err_from_is_err_and c.from_residual.result c.from_residual.ensures.1 in
    passed c.from_residual.result p.0 c.in_err-expect.field-0.0 p.1 p.2
    (λ never number behind stands. never (digits_text c.args.count number ++ behind) stands.spelled)
    c.in_err-expect.ensures.refused

pub returns-in_err-digit-clause-refused : goal.returns-in_err-digit-clause-refused
returns-in_err-digit-clause-refused c =
    let p = err_from_is_err_and c.from_residual-in_err-digit.result c.from_residual-in_err-digit.ensures.1 in
    passed c.from_residual-in_err-digit.result p.0 c.in_err-digit.field-0.0 p.1 p.2 (λ never number behind stands.
    let digits = tails 32 32 c.expect.new.self (digits_text c.args.count number ++ behind) (sym c.in_ok-expect.ensures.ok ∙ stands.spelled) in
    let found = digit_next c.args.count c.loop-k.k c.loop-k.number number c.expect.new.self c.loop-k.text behind (omega arith) c.loop-k.invariant.1 digits in
    never found.bit found.after found.is found.spelled) c.in_err-digit.ensures.refused

pub loop-k-preserved : goal.loop-k-preserved
loop-k-preserved c =
    let k = c.loop-k.k in
    let number = c.loop-k.number in
    let digit = c.in_ok-digit.digit in
    let more : k + 1 ≡ suc k = omega arith in (
      subst (λ (n : ℕ). 2 * number + digit < 2 ^ n) (sym more) (number_grows k number digit c.in_ok-digit.ensures.bit c.loop-k.invariant.0),
      digits_more c.expect.new.self c.loop-k.text c.digit.new.self k number digit c.in_ok-digit.ensures.bit c.loop-k.invariant.1 c.in_ok-digit.ensures.ok
          ∙ ap (λ (n : ℕ). digits_text n (2 * number + digit) ++ c.digit.new.self) (sym more),
    )
