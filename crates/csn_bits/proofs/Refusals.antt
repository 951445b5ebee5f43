-- What holds of an answer that refuses for want of memory.
use Rattle.std.proofs.Common.{◌≡◌, ◌⊎◌, inr, Result, Ok, Err, OnOk}
use Rattle.std.specs.Result.{IsErrAnd, IsErrOf, IfErr}
use Rattle.csn_bits.specs.declared.fault.BitsFault.{BitsFault}
use Rattle.csn_bits.specs.declared.fault.BitsFault.TheVariants.{NoMemory, TooManyBits}

module _ {T : Type 0} where
  abbrev pub WantsMemory : Result T BitsFault → Type 0
  WantsMemory answer = IsErrAnd answer (λ fault. fault ≡ NoMemory)

  pub nothing_given : (P : Type 0) (answer : Result T BitsFault) → WantsMemory answer → OnOk answer P
  nothing_given P (Ok x) wants = absurd wants
  nothing_given P (Err fault) wants = tt

  pub not_many : (answer : Result T BitsFault) → WantsMemory answer → IsErrOf answer TooManyBits → ⊥
  not_many (Ok x) wants many = absurd wants
  not_many (Err fault) wants many = cc

  pub only_memory : (answer : Result T BitsFault) → WantsMemory answer → IfErr answer (λ fault. (fault ≡ TooManyBits) ⊎ (fault ≡ NoMemory))
  only_memory (Ok x) wants = tt
  only_memory (Err fault) wants = inr wants

  pub given_not_many : (x : T) → IsErrOf {T = T} {E = BitsFault} (Ok x) TooManyBits → ⊥
  given_not_many x many = cc
