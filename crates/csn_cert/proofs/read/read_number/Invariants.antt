use Rattle.std.proofs.Common.{◌≡◌, ◌++◌, ◌<◌, ◌^◌}
use Rattle.csn_cert.specs.CertificateText.{digits_text}
use Rattle.csn_cert.proofs.read.read_number.Given as goal

-- so many digits were read behind the space
abbrev pub invariant-loop-k : goal.invariant-loop-k
invariant-loop-k l = (l.number < 2 ^ l.k) × (l.initial.text ≡ digits_text l.k l.number ++ l.text)
