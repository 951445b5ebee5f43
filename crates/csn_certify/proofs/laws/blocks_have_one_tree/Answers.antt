use Rattle.csn_claims.proofs.OneTree.{one_block}
use Rattle.csn_certify.proofs.Here.{here_of, Follow}
use Rattle.csn_certify.proofs.Clearing.{clear_of}
use Rattle.csn_certify.proofs.laws.blocks_have_one_tree.Goals as goal

pub returns : goal.returns
returns c = λ d most b t u is certified left right. one_block d most (Follow d) (clear_of d most (here_of c.known.ensures is) certified) left right
