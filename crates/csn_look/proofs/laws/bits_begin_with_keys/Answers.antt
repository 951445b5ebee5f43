use Rattle.std.proofs.Common.{ℕ, ◌%◌, List}
use Rattle.csn_desc.specs.Nodes.{DescV}
use Rattle.csn_desc.specs.Values.{Values}
use Rattle.csn_desc.specs.Follows.{NFollow, follows_at}
use Rattle.csn_desc.specs.Formed.{IsDescription}
use Rattle.csn_desc.specs.Laws.{NodesAreWellFormed}
use Rattle.csn_look.specs.Keys.{InKeys}
use Rattle.csn_look.specs.Beginnings.{Near}
use Rattle.csn_look.proofs.Meaning.KeyFacts.{keys}
use Rattle.csn_look.proofs.Meaning.NearFacts.{near_keys}
use Rattle.csn_look.proofs.laws.bits_begin_with_keys.Goals as goal

near : NodesAreWellFormed → (d : DescV) (most i o : ℕ) (v : Values) (b : List ℕ) → IsDescription d → NFollow d i o v b → Near (InKeys d most i (o % 8)) b
near formed_nodes d most i o v b is (follows_at n at h) = near_keys d most (formed_nodes d i n is at).2 (follows_at n at h)

pub returns-clause-meant : goal.returns-clause-meant
returns-clause-meant c = λ d most i o v b t h. keys d most h

pub returns-clause-followed : goal.returns-clause-followed
returns-clause-followed c = near c.known.ensures.formed
