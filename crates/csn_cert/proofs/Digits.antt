-- Binary digits as they are written.
use Rattle.std.proofs.Common.{◌≡◌, ℕ, suc, ◌+◌, ◌/◌, ◌%◌, ◌^◌, List, [], ◌∷◌, ◌++◌, map, ap, sym, ◌∙◌, append_assoc}
use Rattle.std.proofs.lemmas.List.{map-append}
use Rattle.csn_bits.specs.Numbers.{low_bits}
use Rattle.csn_bits.proofs.NumberFacts.{low_bits-next}
use Rattle.csn_cert.specs.CertificateText.{digits_text}

pub digits_next : (before : List ℕ) (number left done : ℕ)
    → before ++ digits_text done (number / 2 ^ suc left) ++ (48 + number / 2 ^ left % 2) ∷ [] ≡ before ++ digits_text
    (suc done) (number / 2 ^ left)
digits_next before number left done =
    append_assoc before (digits_text done (number / 2 ^ suc left)) ((48 + number / 2 ^ left % 2) ∷ [])
    ∙ ap (λ l. before ++ l)
    (sym (map-append (λ bit. 48 + bit) (low_bits done (number / 2 ^ suc left)) (number / 2 ^ left % 2 ∷ []))
    ∙ ap (map (λ bit. 48 + bit)) (low_bits-next number left done))
