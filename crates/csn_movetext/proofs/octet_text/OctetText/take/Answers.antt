use Rattle.std.proofs.Common.{ℕ, ◌*◌, List, ◌++◌, length, take, refl, subst}
use Rattle.csn_bits.specs.Octets.{bits_of_octets}
use Rattle.csn_movetext.specs.Blocks.{BlockV}
use Rattle.csn_movetext.specs.Lines.{WritesOrWants}
use Rattle.csn_movetext.proofs.LineFacts.{goes_on, whole_bits}
use Rattle.csn_movetext.proofs.octet_text.OctetText.take.Goals as goal

pub returns-clause-writes : goal.returns-clause-writes
returns-clause-writes g c =
    let octets : List ℕ = c.args.octets.now in
    let all : ℕ = 8 * length octets in
    let new : BlockV = c.feed-fed.new.self in
    λ b writes.
    subst (λ l. WritesOrWants new (b ++ l)) (whole_bits octets all refl)
    (goes_on c.args.self.now.block new (take all (bits_of_octets octets)) c.feed-fed.result c.feed-fed.ensures.answer
    c.feed-fed.ensures.stays c.feed-fed.ensures.writes b writes)

pub returns-clause-steps : goal.returns-clause-steps
returns-clause-steps g c = c.feed-fed.ensures.steps
