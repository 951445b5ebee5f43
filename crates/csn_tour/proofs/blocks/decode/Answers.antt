use Rattle.std.proofs.Common.{◌∙◌, ℕ, List, [], ◌++◌, take, subst}
use Rattle.csn_bits.specs.Octets.{bits_of_octets}
use Rattle.csn_desc.specs.Nodes.{DescV}
use Rattle.csn_desc.specs.Means.{NMeans}
use Rattle.csn_tour.proofs.blocks.decode.Goals as goal

pub returns-in-Going-feed : goal.returns-in-Going-feed
returns-in-Going-feed g c =
    let one = c.in-Going.ensures.decodes _ c.new-decoder.ensures.decodes in
    let two = c.in-Going-feed.ensures.decodes _ one.comes in
    let By : DescV → Type 0 = λ d. NMeans d 0 0 [] (take 16 (bits_of_octets c.args.first.now) ++ take 16
    (bits_of_octets c.args.second.now)) c.in_ok-finish-in-Going-feed.field-0 in
    subst By (c.in-Going-feed.ensures.desc ∙ (c.in-Going.ensures.desc ∙ c.new-decoder.ensures.desc))
    (c.in_ok-finish-in-Going-feed.ensures.ends _ two.comes).means
