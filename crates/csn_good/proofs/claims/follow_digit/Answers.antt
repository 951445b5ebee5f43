use Rattle.std.proofs.Common.{◌≡◌, ℕ, ◌-◌, ◌/◌, ◌%◌, ◌<◌, ap, sym, ◌∙◌, Option, Some, None, nat_eq, IfSome, slice_get}
use Rattle.std.specs.Prelude.{◌^◌}
use Rattle.csn_cert.specs.CertificateV.{NodeV}
use Rattle.csn_good.specs.ClaimedSets.{has_digit}
use Rattle.csn_good.proofs.Digits.{digit_is}
use Rattle.csn_good.proofs.claims.follow_digit.Goals as goal

told : (n : Option NodeV) (result place : ℕ) → place < 24 → IfSome n (λ m. result ≡ m.follow)
    → IfSome n (λ m. nat_eq (result / 2 ^ (23 - place) % 2) 1 ≡ has_digit 24 m.follow place)
told None result place less is = tt
told (Some m) result place less is = ap (λ k. nat_eq (k / 2 ^ (23 - place) % 2) 1) is ∙ sym (digit_is 24 m.follow place less)

pub returns : goal.returns
returns c = told (slice_get c.args.c.now c.args.i) c.follow.result c.args.place c.requires.place c.follow.ensures
