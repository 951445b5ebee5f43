use Rattle.std.proofs.Common.{◌≡◌, ◌+◌, ◌*◌, ◌≤◌, length}
use Rattle.csn_sample.specs.Samples.{most_of, work}
use Rattle.csn_sample.proofs.sampler.Sampler.sample.Given as goal

abbrev pub invariant-loop : goal.invariant-loop
invariant-loop g l =
    (l.self ≡ l.fn.self) × (l.steps ≤ l.fn.steps + l.counter * work (length l.fn.self.nodes) (most_of l.wish.length))
