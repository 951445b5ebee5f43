use Rattle.std.proofs.Common.{refl}
use Rattle.csn_desc.proofs.WalkFacts.{walk_of}
use Rattle.csn_desc.proofs.OneWalk.{one_list}
use Rattle.csn_desc.proofs.laws.trees_have_moves.Goals as goal

pub returns : goal.returns
returns c =
    record {
      some = λ d i o v b t h. let w = walk_of d h in (w.moves, w.walk, w.takes);
      one = λ d i o t moves others left right. one_list d left right refl;
    }
