use Rattle.std.proofs.Common.{◌∙◌, take, ap}
use Rattle.csn_bits.specs.Octets.{bits_of_octets}
use Rattle.csn_sample.proofs.Trees.{has_tree}
use Rattle.csn_sample.proofs.decoded.decoded.Goals as goal

pub returns-in-Ok-clause-tree : goal.returns-in-Ok-clause-tree
returns-in-Ok-clause-tree g c =
    let fed = c.in-Going.ensures.decodes _ c.new-decoder.ensures.decodes in
    has_tree _ c.args.plan.now _ c.args.block.now c.in-Ok.tree
    (ap (λ count. take count (bits_of_octets c.octets.result.now)) c.len.ensures.count ∙ c.octets.ensures.bits)
    (c.in-Going.ensures.desc ∙ c.new-decoder.ensures.desc) (c.in-Ok.ensures.ends _ fed.comes)
