use Rattle.std.proofs.Common.{◌↔◌, ◌∙◌, IsTrue, ℕ, List, subst, arith, append-nil}
use Rattle.std.proofs.lemmas.List.{take_all}
use Rattle.csn_bits.specs.Octets.{bits_of_octets}
use Rattle.csn_bits.proofs.Packing.{length-bits_of_octets}
use Rattle.csn_soak.specs.Soaking.{IsString}
use Rattle.csn_soak.proofs.soaking.is_string_with.Goals as goal

pub returns-clause-answer : goal.returns-clause-answer
returns-clause-answer c =
    let P : List ℕ → Type 0 = λ bits. IsTrue c.is_string.result ↔ IsString c.args.judge.now.desc bits in
    let whole : List ℕ = bits_of_octets c.octets-octets.result.now in
    subst P (append-nil _ ∙ take_all _ whole (omega (arith, length-bits_of_octets c.octets-octets.result.now))
    ∙ c.octets-octets.ensures.bits ∙ c.put.ensures.bits) c.is_string.ensures.answer
