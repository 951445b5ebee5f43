use Rattle.std.specs.Prelude.{All}
use Rattle.csn_desc.specs.Nodes.{DescV}
use Rattle.csn_sample.specs.declared.sampler.Sampled.{Sampled}
use Rattle.csn_sample.specs.Nearly.{IsNear}
use Rattle.csn_sample.specs.Samples.{HasTree}
use Rattle.csn_vectors.specs.Lines.{NearLines}
use Rattle.csn_vectors.proofs.nears.push_nears.Given as goal

abbrev pub invariant-loop-near : goal.invariant-loop-near
invariant-loop-near l =
    (d : DescV) (string : Sampled) → HasTree d string.block string.tree → All (IsNear d string.block) l.nears
    → NearLines d l.fn.out.items l.out.items
