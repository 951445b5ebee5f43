use Rattle.std.proofs.Common.{◌≡◌, ◌<◌, ℕ, Some, slice_get}
use Rattle.csn_desc.specs.declared.node.Node.{Node}
use Rattle.csn_good.specs.Good.{KeepsRules}
use Rattle.csn_good.proofs.checking.check_certificate.Given as goal

abbrev pub invariant-loop-node : goal.invariant-loop-node
invariant-loop-node l = (i : ℕ) (n : Node) → i < l.node → slice_get l.desc.nodes i ≡ Some n → KeepsRules l.desc l.c i n
