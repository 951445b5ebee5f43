-- Which nodes may have no bits, where their parts may from some round on.
use Rattle.std.specs.Prelude.{ℕ, List}
use Rattle.csn_desc.specs.declared.node.Node.{Node}
use Rattle.csn_equations.specs.Nullable.{AllNullable, NodeNullable, all_end, all_next, nullable_null, nullable_rest}
use Rattle.csn_equations.specs.Nullable.{nullable_many, nullable_trunc, nullable_field, nullable_times, nullable_no_times}
use Rattle.csn_equations.specs.Nullable.{nullable_window, nullable_seq, nullable_choice, nullable_named}
use Rattle.csn_equations.proofs.Late.{Late, always, then_late, both_late, at_last}

module _ (By : ℕ → ℕ → Type 0) (P : ℕ → Type 0) (late : (i : ℕ) → P i → Late (λ k. By k i)) where
  pub all_late : {parts : List ℕ} → AllNullable P parts → Late (λ k. AllNullable (By k) parts)
  all_late all_end = always (λ k. all_end)
  all_late (all_next {i = i} h others) = both_late (λ k first later. all_next first later) (late i h) (all_late others)

  pub node_late : {n : Node} → NodeNullable P n → Late (λ k. NodeNullable (By k) n)
  node_late nullable_null = always (λ k. nullable_null)
  node_late nullable_rest = always (λ k. nullable_rest)
  node_late nullable_many = always (λ k. nullable_many)
  node_late nullable_trunc = always (λ k. nullable_trunc)
  node_late (nullable_field none) = always (λ k. nullable_field none)
  node_late (nullable_times {i = i} h) = then_late (λ k part. nullable_times part) (late i h)
  node_late (nullable_no_times none) = always (λ k. nullable_no_times none)
  node_late (nullable_window {i = i} none h) = then_late (λ k part. nullable_window none part) (late i h)
  node_late (nullable_seq h) = then_late (λ k all. nullable_seq all) (all_late h)
  node_late (nullable_choice {i = i} j at h) = then_late (λ k part. nullable_choice j at part) (late i h)
  node_late (nullable_named {i = i} h) = then_late (λ k part. nullable_named part) (late i h)

module _ (P Q : ℕ → Type 0) (move : (i : ℕ) → P i → Q i) where
  pub all_moved : {parts : List ℕ} → AllNullable P parts → AllNullable Q parts
  all_moved h = at_last (all_late (λ k. Q) P (λ i part. always (λ k. move i part)) h)

  pub node_moved : {n : Node} → NodeNullable P n → NodeNullable Q n
  node_moved h = at_last (node_late (λ k. Q) P (λ i part. always (λ k. move i part)) h)
