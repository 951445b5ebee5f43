use Rattle.std.proofs.Common.{◌≡◌, ◌-◌, ◌+◌, ◌/◌, ◌%◌, ◌^◌, ◌++◌, ◌∷◌, [], suc, ap, sym, ◌∙◌, arith}
use Rattle.csn_cert.specs.CertificateText.{digits_text}
use Rattle.csn_cert.proofs.Digits.{digits_next}
use Rattle.csn_cert.proofs.write.push_digits.Goals as goal

pub loop-left-preserved : goal.loop-left-preserved
loop-left-preserved c =
    let left = c.loop-left.left - 1 in
    let done = c.args.count - c.loop-left.left in
    let before : suc left ≡ c.loop-left.left = omega arith in
    let after : suc done ≡ c.args.count - left = omega arith in (
      omega arith,
      c.in_ok-push.ensures.items
          ∙ ap (λ l. l ++ (48 + c.args.number / 2 ^ left % 2) ∷ [])
          (c.loop-left.invariant.1 ∙ ap (λ k. c.args.out.now.items ++ digits_text done (c.args.number / 2 ^ k))
          (sym before))
          ∙ digits_next c.args.out.now.items c.args.number left done
          ∙ ap (λ k. c.args.out.now.items ++ digits_text k (c.args.number / 2 ^ left)) after,
    )
