use Rattle.std.proofs.Common.{◌≡◌, ◌≤◌, ◌-◌, ◌/◌, ◌^◌, ◌++◌}
use Rattle.csn_cert.specs.CertificateText.{digits_text}
use Rattle.csn_cert.proofs.write.push_digits.Given as goal

abbrev pub invariant-loop-left : goal.invariant-loop-left
invariant-loop-left l = (l.left ≤ l.count) × (l.out.items ≡ l.fn.out.items ++ digits_text (l.count - l.left) (l.number / 2 ^ l.left))

abbrev pub decreases-loop-left : goal.decreases-loop-left
decreases-loop-left l = l.left
