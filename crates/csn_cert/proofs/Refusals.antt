-- Refusals that are passed on.
use Rattle.std.proofs.Common.{◌≡◌, ap, sym, ◌∙◌, subst, Result, Err, IfErr}
use Rattle.csn_cert.specs.declared.fault.CertFault.{CertFault}
use Rattle.csn_cert.specs.declared.fault.CertFault.TheVariants.{Text, NoMemory}
use Rattle.csn_cert.specs.Reading.{Refuses}

weaker : {A B : Type 0} (e : CertFault) → (A → B) → Refuses e A → Refuses e B
weaker Text by h = by h
weaker NoMemory by h = tt

-- what a part refuses, the whole refuses
pub passed : {T A B : Type 0} (r : Result T CertFault) (y e : CertFault) → r ≡ Err y → y ≡ e → (A → B) → Refuses e A → IfErr r (λ fault. Refuses fault B)
passed {T = T} {A = A} {B = B} r y e is same by h =
    let G : Result T CertFault → Type 0 = λ x. IfErr x (λ fault. Refuses fault B) in
    subst G (sym (is ∙ ap (λ z. Err z) same)) (weaker e by h)
