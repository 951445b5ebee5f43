-- Patterns in the order of their texts.
use Rattle.std.proofs.Common.{List, [], ◌∷◌}
use Rattle.std.specs.List.Sorted.{IsStrictlySortedBy}
use Rattle.std.specs.Ordering.{nat_cmp}
use Rattle.std.specs.Cmp.Lexicographic.{slice_cmp}
use Rattle.csn_cert.specs.PatternV.{PatternV}
use Rattle.csn_cert.specs.PatternText.{ComesBefore, pattern_text}
use Rattle.csn_cert.specs.CertificateV.{Rises}

pub rises_from : (ps : List PatternV) → IsStrictlySortedBy (λ p q. slice_cmp nat_cmp (pattern_text p) (pattern_text q)) ps → Rises ComesBefore ps
unfolding IsStrictlySortedBy
rises_from [] sorted = tt
rises_from (p ∷ []) sorted = tt
rises_from (p ∷ q ∷ ps) sorted = (sorted.0.0, rises_from (q ∷ ps) sorted.1)
