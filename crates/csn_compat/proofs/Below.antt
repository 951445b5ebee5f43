-- The parts of a node stand behind it.
use Rattle.std.proofs.Common.{◌≡◌, ℕ, ◌<◌, List, length, ◌∙◌, ap, arith, Some}
use Rattle.std.specs.Prelude.{slice_get}
use Rattle.csn_desc.specs.declared.node.Node.{Node}
use Rattle.csn_desc.specs.Nodes.{DescV, parts_of}
use Rattle.csn_desc.specs.Formed.{IsDescription, Spans}
use Rattle.csn_desc.proofs.Numbering.{part_from, part_spans, span_parts, parts_later}

-- a part of a node
pub record Below (nodes : List Node) (i p : ℕ) : Type 0 where
  pub behind : i < p
  pub end : ℕ
  pub span : Spans nodes p end

pub below : (nodes : List Node) (i e k p : ℕ) (n : Node) → slice_get nodes i ≡ Some n → Spans nodes i e → slice_get (parts_of n) k ≡ Some p → Below nodes i p
below nodes i e k p n at h there =
    let parts = span_parts nodes at h in
    let inner = part_spans nodes k p parts there in
    let from = part_from nodes k p parts there in
    record { behind = omega arith; end = inner.0; span = inner.1 }

-- a part of a node of a description
pub record IsBehind (d : DescV) (i p : ℕ) : Type 0 where
  pub behind : i < p
  pub within : p < length d.nodes

-- the node at i is this one, and p stands among its parts
pub is_behind : (d : DescV) (i k p : ℕ) (n x : Node) → IsDescription d → slice_get d.nodes i ≡ Some x → x ≡ n
    → slice_get (parts_of n) k ≡ Some p → IsBehind d i p
is_behind d i k p n x is at same there =
    parts_later d i n (IsBehind d i) is (at ∙ ap (λ y. Some y) same) (λ j less more. record { behind = less; within = more }) k p there
