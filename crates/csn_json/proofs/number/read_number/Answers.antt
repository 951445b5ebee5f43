use Rattle.std.proofs.Common.{◌≡◌, drop, get_or, true, false, ◌==◌, sym, ap, ◌∙◌, subst, arith, take_all, length-drop}
use Rattle.fast_float.specs.Text.{scan}
use Rattle.serde_json.specs.Read.{number_of, number_from}
use Rattle.csn_json.specs.Pieces.{IsNumberOf}
use Rattle.csn_json.proofs.number.read_number.Goals as goal

pub returns-then-has_minus : goal.returns-then-has_minus
unfolding number_of
returns-then-has_minus c =
    let bytes = c.as_bytes-bytes.result.now in
    let sign : (get_or bytes 0 0 == 45) ≡ true = sym c.if-has_minus.ensures.value in
    let numeral = c.scan.ensures.parts ∙ ap scan (take_all _ (drop 1 bytes) (omega (arith, length-drop 1 bytes))) in
    let same : number_from true (scan (drop 1 bytes)) ≡ number_of bytes = rw sign in
    subst (λ o. IsNumberOf c.negative.result o) (ap (number_from true) numeral ∙ same ∙ ap number_of c.as_bytes-bytes.ensures.value) c.negative.ensures

pub returns-else-has_minus : goal.returns-else-has_minus
unfolding number_of
returns-else-has_minus c =
    let bytes = c.as_bytes-bytes.result.now in
    let sign : (get_or bytes 0 0 == 45) ≡ false = sym c.if-has_minus.ensures.value in
    let same : number_from false (scan bytes) ≡ number_of bytes = rw sign in
    subst (λ o. IsNumberOf c.unsigned.result o)
    (ap (number_from false) c.scan-else-has_minus.ensures.parts ∙ same ∙ ap number_of c.as_bytes-bytes.ensures.value) c.unsigned.ensures
