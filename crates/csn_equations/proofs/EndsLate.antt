-- Where bits of nodes may end, where those of their parts may from some round on.
use Rattle.std.specs.Prelude.{ℕ, List}
use Rattle.csn_desc.specs.declared.node.Node.{Node}
use Rattle.csn_desc.specs.Nodes.{DescV}
use Rattle.csn_equations.specs.Ends.{PartsEnd, TimesEnd, ManyEnd, LeadEnd, NodeEnds, parts_end, parts_next, times_end}
use Rattle.csn_equations.specs.Ends.{times_next, many_end, many_next, lead_end, lead_next, ends_lits, ends_spare}
use Rattle.csn_equations.specs.Ends.{ends_null, ends_pad, ends_rest, ends_field, ends_window, ends_seq, ends_choice}
use Rattle.csn_equations.specs.Ends.{ends_times, ends_counted, ends_many, ends_trunc, ends_named}
use Rattle.csn_equations.specs.Reached.{PartReached, reached_seq, reached_trunc, reached_choice, reached_window}
use Rattle.csn_equations.specs.Reached.{reached_named, reached_times, reached_counted, reached_many}
use Rattle.csn_equations.proofs.Late.{Late, always, then_late, both_late, at_last}

module _ (By : ℕ → ℕ → ℕ → ℕ → Type 0) (P : ℕ → ℕ → ℕ → Type 0)
    (late : (i o p : ℕ) → P i o p → Late (λ k. By k i o p)) where
  pub parts_late : {parts : List ℕ} {o p : ℕ} → PartsEnd P parts o p → Late (λ k. PartsEnd (By k) parts o p)
  parts_late (parts_end is) = always (λ k. parts_end is)
  parts_late (parts_next {i = i} {o = o} middle h others) =
      both_late (λ k first later. parts_next middle first later) (late i o middle h) (parts_late others)

  pub times_late : {n i o p : ℕ} → TimesEnd P n i o p → Late (λ k. TimesEnd (By k) n i o p)
  times_late (times_end over is) = always (λ k. times_end over is)
  times_late (times_next {i = i} {o = o} m middle over h others) =
      both_late (λ k first later. times_next m middle over first later) (late i o middle h) (times_late others)

  pub many_late : {i o p : ℕ} → ManyEnd P i o p → Late (λ k. ManyEnd (By k) i o p)
  many_late (many_end is) = always (λ k. many_end is)
  many_late (many_next {i = i} {o = o} middle h others) =
      both_late (λ k first later. many_next middle first later) (late i o middle h) (many_late others)

  pub lead_late : {parts : List ℕ} {o p : ℕ} → LeadEnd P parts o p → Late (λ k. LeadEnd (By k) parts o p)
  lead_late (lead_end is) = always (λ k. lead_end is)
  lead_late (lead_next {i = i} {o = o} middle h others) =
      both_late (λ k first later. lead_next middle first later) (late i o middle h) (lead_late others)

  pub node_late : (d : DescV) {n : Node} {o p : ℕ} → NodeEnds d P n o p → Late (λ k. NodeEnds d (By k) n o p)
  node_late d (ends_lits is) = always (λ k. ends_lits is)
  node_late d (ends_spare is) = always (λ k. ends_spare is)
  node_late d (ends_null is) = always (λ k. ends_null is)
  node_late d (ends_pad low) = always (λ k. ends_pad low)
  node_late d (ends_rest low) = always (λ k. ends_rest low)
  node_late d (ends_field n may is) = always (λ k. ends_field n may is)
  node_late d (ends_window n may is) = always (λ k. ends_window n may is)
  node_late d (ends_seq h) = then_late (λ k parts. ends_seq parts) (parts_late h)
  node_late d (ends_choice {i = i} {o = o} {p = p} j at h) = then_late (λ k part. ends_choice j at part) (late i o p h)
  node_late d (ends_times h) = then_late (λ k turns. ends_times turns) (times_late h)
  node_late d (ends_counted h) = then_late (λ k turns. ends_counted turns) (many_late h)
  node_late d (ends_many h) = then_late (λ k turns. ends_many turns) (many_late h)
  node_late d (ends_trunc h) = then_late (λ k parts. ends_trunc parts) (lead_late h)
  node_late d (ends_named {i = i} {o = o} {p = p} h) = then_late (λ k part. ends_named part) (late i o p h)

module _ (P Q : ℕ → ℕ → ℕ → Type 0) (move : (i o p : ℕ) → P i o p → Q i o p) where
  lasting : (i o p : ℕ) → P i o p → Late (λ k. Q i o p)
  lasting i o p h = always (λ k. move i o p h)

  pub parts_moved : {parts : List ℕ} {o p : ℕ} → PartsEnd P parts o p → PartsEnd Q parts o p
  parts_moved h = at_last (parts_late (λ k. Q) P lasting h)

  pub times_moved : {n i o p : ℕ} → TimesEnd P n i o p → TimesEnd Q n i o p
  times_moved h = at_last (times_late (λ k. Q) P lasting h)

  pub many_moved : {i o p : ℕ} → ManyEnd P i o p → ManyEnd Q i o p
  many_moved h = at_last (many_late (λ k. Q) P lasting h)

  pub node_moved : (d : DescV) {n : Node} {o p : ℕ} → NodeEnds d P n o p → NodeEnds d Q n o p
  node_moved d h = at_last (node_late (λ k. Q) P lasting d h)

  pub reached_moved : {n : Node} {before : List ℕ} {i from o : ℕ} → PartReached P n before i from o → PartReached Q n before i from o
  reached_moved (reached_seq h) = reached_seq (parts_moved h)
  reached_moved (reached_trunc h) = reached_trunc (parts_moved h)
  reached_moved (reached_choice same) = reached_choice same
  reached_moved (reached_window same) = reached_window same
  reached_moved (reached_named same) = reached_named same
  reached_moved (reached_times m less h) = reached_times m less (times_moved h)
  reached_moved (reached_counted h) = reached_counted (many_moved h)
  reached_moved (reached_many h) = reached_many (many_moved h)
