-- What a decoder says of the tree of a block, said of the description.
use Rattle.std.specs.Prelude.{◌≡◌, List, [], ℕ}
use Rattle.std.proofs.Common.{subst}
use Rattle.csn_desc.specs.Nodes.{DescV}
use Rattle.csn_desc.specs.TreeV.{TreeV}
use Rattle.csn_desc.specs.Means.{NMeans}
use Rattle.csn_certify.specs.Plans.{HasOneTree}
use Rattle.csn_decode.specs.Decoding.{DecoderV, IsTreeOf}
use Rattle.csn_sample.specs.Samples.{HasTree}

same_tree : (d : DecoderV) (b : List ℕ) (tree : TreeV) → IsTreeOf d b tree → HasTree d.desc b tree
same_tree d b tree is = record { means = is.means; only = is.only }

pub has_tree : (d : DecoderV) (desc : DescV) (bits block : List ℕ) (tree : TreeV)
    → bits ≡ block → d.desc ≡ desc → IsTreeOf d bits tree → HasTree desc block tree
has_tree d desc bits block tree b q is =
    subst (λ (x : List ℕ). HasTree desc x tree) b (subst (λ (x : DescV). HasTree x bits tree) q (same_tree d bits tree is))

-- a tree of a block of a plan is the one that it has
pub has_some : (desc : DescV) (block : List ℕ) → HasOneTree desc → ((tree : TreeV) × NMeans desc 0 0 [] block tree)
    → (tree : TreeV) × HasTree desc block tree
has_some desc block one some =
    (some.0, record { means = some.1; only = λ other means. one block other some.0 means some.1 })
