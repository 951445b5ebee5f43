-- The lines that are told of blocks of the generator, of two descriptions, and of a certificate. They are this project's own
-- choice.
use Rattle.std.specs.Prelude.{◌≡◌, ℕ, List, [], ◌∷◌, ◌++◌, length, codes}
use Rattle.csn_desc.specs.Nodes.{DescV}
use Rattle.csn_soak.specs.declared.soaking.Soaked.{Soaked}
use Rattle.csn_cert.specs.CertificateV.{NodeV}
use Rattle.csn_cert.specs.CertificateText.{CertificateText}
use Rattle.csn_compat.specs.Takes.{Takes}
use Rattle.csn_good.specs.Good.{Good, FirstFault}
use Rattle.csn_plan.specs.declared.ended.Ended.{Ended}
use Rattle.csn_plan.specs.declared.ended.Ended.TheVariants.{Done, SomeRefused, NotCertified}
use Rattle.csn_plan.specs.Compiled.{line_of}

-- the line that tells what came of so many blocks of the generator
abbrev pub soaked_line : ℕ → Soaked → List ℕ
soaked_line blocks soaked =
    line_of (codes "blocks") (blocks ∷ []) ++ line_of (codes " ok") (soaked.ok ∷ [])
    ++ line_of (codes " refused") (soaked.refused ∷ []) ++ line_of (codes " bits") (soaked.bits ∷ [])

-- the line that tells whether the new description takes the blocks of the old one, and the end of a run
pub data Compares (was now : DescV) (line : List ℕ) (ended : Ended) : Type 0 where
  compares_ok : Takes was now 0 0 [] → line ≡ codes "ok compat" → ended ≡ Done → Compares was now line ended
  compares_no : ¬ Takes was now 0 0 [] → line ≡ codes "no compat" → ended ≡ SomeRefused → Compares was now line ended

-- the line that tells whether the text is that of a certificate which is good for the description, or else the rule that
-- is broken and the node at which it is, and the end of a run. A text of no certificate breaks the first rule, at the root
pub data Verifies (d : DescV) (text line : List ℕ) (ended : Ended) : Type 0 where
  verifies_good : (c : List NodeV) → CertificateText c text → Good d c → line ≡ line_of (codes "verified") (length d.nodes ∷ [])
      → ended ≡ Done → Verifies d text line ended
  verifies_fault : (c : List NodeV) (rule node : ℕ) → CertificateText c text → FirstFault d c rule node
      → line ≡ line_of (codes "unproved") (rule ∷ node ∷ []) → ended ≡ NotCertified → Verifies d text line ended
  verifies_none : ((c : List NodeV) → ¬ CertificateText c text) → line ≡ line_of (codes "unproved") (1 ∷ 0 ∷ [])
      → ended ≡ NotCertified → Verifies d text line ended
