use Rattle.std.specs.Prelude.{Some, IsTrue}
use Rattle.csn_look.proofs.Meaning.ShapeFacts.{shaped}
use Rattle.csn_claims.proofs.OneTree.{one_block}
use Rattle.csn_claims.proofs.Held.{clear_of}
use Rattle.csn_claims.proofs.laws.held_claims_leave_one_tree.Goals as goal

pub returns : goal.returns
returns c =
    λ d most claims b t u is holds left right.
    let shape = shaped c.nodes_are_well_formed.ensures c.values_are_kept.ensures.none c.values_are_kept.ensures.fitting d is in
    one_block d most (λ i o bit. IsTrue (claims.follow i o (Some bit))) (clear_of d most claims shape holds) left right
