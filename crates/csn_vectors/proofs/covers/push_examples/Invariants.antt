use Rattle.std.proofs.Common.{take}
use Rattle.csn_vectors.specs.Lines.{ExampleLines}
use Rattle.csn_vectors.proofs.covers.push_examples.Given as goal

abbrev pub invariant-loop-example : goal.invariant-loop-example
invariant-loop-example l = ExampleLines l.fn.out.items (take l.example-index l.blocks) l.out.items
