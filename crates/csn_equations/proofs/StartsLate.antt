-- With which bits nodes may begin, where their parts may from some round on.
use Rattle.std.specs.Prelude.{ℕ, List}
use Rattle.csn_desc.specs.declared.node.Node.{Node}
use Rattle.csn_desc.specs.Nodes.{DescV}
use Rattle.csn_equations.specs.Starts.{PartsStart, NodeStarts, starts_here, starts_later, starts_lits, starts_spare}
use Rattle.csn_equations.specs.Starts.{starts_pad, starts_field, starts_rest, starts_seq, starts_trunc, starts_choice}
use Rattle.csn_equations.specs.Starts.{starts_times, starts_many, starts_window, starts_named}
use Rattle.csn_equations.proofs.Late.{Late, always, then_late, both_late, at_last}

module _ (NullBy : ℕ → ℕ → Type 0) (EndsBy By : ℕ → ℕ → ℕ → ℕ → Type 0) (N : ℕ → Type 0) (E P : ℕ → ℕ → ℕ → Type 0)
    (null_late : (i : ℕ) → N i → Late (λ k. NullBy k i)) (ends_late : (i o p : ℕ) → E i o p → Late (λ k. EndsBy k i o p))
    (late : (i o bit : ℕ) → P i o bit → Late (λ k. By k i o bit)) where
  pub parts_late : {parts : List ℕ} {o bit : ℕ} → PartsStart N E P parts o bit
      → Late (λ k. PartsStart (NullBy k) (EndsBy k) (By k) parts o bit)
  parts_late (starts_here {i = i} {o = o} {bit = bit} h) = then_late (λ k first. starts_here first) (late i o bit h)
  parts_late (starts_later {i = i} {o = o} middle none over others) =
      both_late {P = λ k. NullBy k i × EndsBy k i o middle} (λ k first later. starts_later middle first.0 first.1 later)
      (both_late (λ k null ends. (null, ends)) (null_late i none) (ends_late i o middle over)) (parts_late others)

  pub node_late : (d : DescV) {n : Node} {o bit : ℕ} → NodeStarts d N E P n o bit
      → Late (λ k. NodeStarts d (NullBy k) (EndsBy k) (By k) n o bit)
  node_late d (starts_lits is) = always (λ k. starts_lits is)
  node_late d (starts_spare h) = always (λ k. starts_spare h)
  node_late d (starts_pad h) = always (λ k. starts_pad h)
  node_late d (starts_field low) = always (λ k. starts_field low)
  node_late d (starts_rest low) = always (λ k. starts_rest low)
  node_late d (starts_seq h) = then_late (λ k parts. starts_seq parts) (parts_late h)
  node_late d (starts_trunc h) = then_late (λ k parts. starts_trunc parts) (parts_late h)
  node_late d (starts_choice {i = i} {o = o} {bit = bit} j at h) =
      then_late (λ k part. starts_choice j at part) (late i o bit h)
  node_late d (starts_times {i = i} {o = o} {bit = bit} h) = then_late (λ k part. starts_times part) (late i o bit h)
  node_late d (starts_many {i = i} {o = o} {bit = bit} h) = then_late (λ k part. starts_many part) (late i o bit h)
  node_late d (starts_window {i = i} {o = o} {bit = bit} h) = then_late (λ k part. starts_window part) (late i o bit h)
  node_late d (starts_named {i = i} {o = o} {bit = bit} h) = then_late (λ k part. starts_named part) (late i o bit h)

module _ (N N' : ℕ → Type 0) (E E' P Q : ℕ → ℕ → ℕ → Type 0) (move_null : (i : ℕ) → N i → N' i)
    (move_ends : (i o p : ℕ) → E i o p → E' i o p) (move : (i o bit : ℕ) → P i o bit → Q i o bit) where
  pub parts_moved : {parts : List ℕ} {o bit : ℕ} → PartsStart N E P parts o bit → PartsStart N' E' Q parts o bit
  parts_moved h =
      at_last (parts_late (λ k. N') (λ k. E') (λ k. Q) N E P (λ i h. always (λ k. move_null i h))
      (λ i o p h. always (λ k. move_ends i o p h)) (λ i o bit h. always (λ k. move i o bit h)) h)

  pub node_moved : (d : DescV) {n : Node} {o bit : ℕ} → NodeStarts d N E P n o bit → NodeStarts d N' E' Q n o bit
  node_moved d h =
      at_last (node_late (λ k. N') (λ k. E') (λ k. Q) N E P (λ i h. always (λ k. move_null i h))
      (λ i o p h. always (λ k. move_ends i o p h)) (λ i o bit h. always (λ k. move i o bit h)) d h)
