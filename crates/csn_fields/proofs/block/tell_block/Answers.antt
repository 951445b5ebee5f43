use Rattle.std.proofs.Common.{◌∙◌, List, ℕ, [], ap, subst, take}
use Rattle.csn_bits.specs.Octets.{bits_of_octets}
use Rattle.csn_fields.specs.Reading.{EndsTold}
use Rattle.csn_fields.proofs.block.tell_block.Goals as goal

pub returns : goal.returns
returns g c =
    let P : List ℕ → Type 0 = λ b. EndsTold g.E.Events.tells c.args.plan.now b [] c.args.events c.tell_octets.result.0 c.tell_octets.result.1 in
    subst P (ap (λ n. take n (bits_of_octets c.octets.result.now)) c.len.ensures.count ∙ c.octets.ensures.bits) c.tell_octets.ensures
