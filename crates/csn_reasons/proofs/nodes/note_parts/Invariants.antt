use Rattle.std.proofs.Common.{◌≡◌, ℕ, ◌<◌, ◌≤◌, ◌⊎◌, length, Some, get_or}
use Rattle.std.specs.Prelude.{slice_get}
use Rattle.csn_desc.specs.Nodes.{parts_of}
use Rattle.csn_desc.specs.declared.desc.TheConstants.{MOST_NODES}
use Rattle.csn_reasons.proofs.nodes.note_parts.Given as goal

abbrev pub invariant-loop-at : goal.invariant-loop-at
invariant-loop-at l = record {
  few : 0 < l.at → length (parts_of l.node) ≤ MOST_NODES;
  same : length l.parents ≡ length l.fn.parents;
  noted : (j i : ℕ) → j < l.at → slice_get (parts_of l.node) j ≡ Some i → i < length l.fn.parents → get_or l.parents i 0 ≡ l.number;
  others : (i : ℕ) → (get_or l.parents i 0 ≡ get_or l.fn.parents i 0)
      ⊎ ((get_or l.parents i 0 ≡ l.number) × (j : ℕ) × (slice_get (parts_of l.node) j ≡ Some i));
}
