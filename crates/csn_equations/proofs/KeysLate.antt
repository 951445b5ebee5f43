-- The keys of nodes, where their parts have theirs from some round on.
use Rattle.std.specs.Prelude.{ℕ, Bool, true, false, List}
use Rattle.csn_desc.specs.declared.node.Node.{Node}
use Rattle.csn_desc.specs.Nodes.{DescV}
use Rattle.csn_equations.specs.Keys.{PartsKeys, TimesKeys, NodeKeys, parts_none, parts_cut, parts_whole, times_none}
use Rattle.csn_equations.specs.Keys.{times_cut, times_whole, keys_lits, keys_spare, keys_field, keys_pad, keys_null}
use Rattle.csn_equations.specs.Keys.{keys_rest, keys_many, keys_trunc, keys_window, keys_counted_field}
use Rattle.csn_equations.specs.Keys.{keys_counted_times, keys_seq, keys_times, keys_choice, keys_named}
use Rattle.csn_equations.proofs.Late.{Late, always, then_late, both_late, at_last}

module _ (most : ℕ) (By : ℕ → ℕ → ℕ → List ℕ → Bool → Type 0) (P : ℕ → ℕ → List ℕ → Bool → Type 0)
    (late : (i o : ℕ) (x : List ℕ) (mark : Bool) → P i o x mark → Late (λ k. By k i o x mark)) where
  pub parts_late : {parts : List ℕ} {o : ℕ} {x : List ℕ} {mark : Bool} → PartsKeys most P parts o x mark
      → Late (λ k. PartsKeys most (By k) parts o x mark)
  parts_late (parts_none is whole) = always (λ k. parts_none is whole)
  parts_late (parts_cut {i = i} {o = o} {x = x} h short) = then_late (λ k first. parts_cut first short) (late i o x false h)
  parts_late (parts_whole {i = i} {o = o} w1 w2 rest h others c) =
      both_late (λ k first later. parts_whole w1 w2 rest first later c) (late i o w1 true h) (parts_late others)

  pub times_late : {n i o : ℕ} {x : List ℕ} {mark : Bool} → TimesKeys most P n i o x mark
      → Late (λ k. TimesKeys most (By k) n i o x mark)
  times_late (times_none over is whole) = always (λ k. times_none over is whole)
  times_late (times_cut {i = i} {o = o} {x = x} m over h short) =
      then_late (λ k first. times_cut m over first short) (late i o x false h)
  times_late (times_whole {i = i} {o = o} m over w1 w2 rest h others c) =
      both_late (λ k first later. times_whole m over w1 w2 rest first later c) (late i o w1 true h) (times_late others)

  pub node_late : (d : DescV) {n : Node} {o : ℕ} {x : List ℕ} {mark : Bool} → NodeKeys d most P n o x mark
      → Late (λ k. NodeKeys d most (By k) n o x mark)
  node_late d (keys_lits c) = always (λ k. keys_lits c)
  node_late d (keys_spare w one spare c) = always (λ k. keys_spare w one spare c)
  node_late d (keys_field w wide are c) = always (λ k. keys_field w wide are c)
  node_late d (keys_pad w one spare c) = always (λ k. keys_pad w one spare c)
  node_late d (keys_null is whole) = always (λ k. keys_null is whole)
  node_late d (keys_rest is short) = always (λ k. keys_rest is short)
  node_late d (keys_many is short) = always (λ k. keys_many is short)
  node_late d (keys_trunc is short) = always (λ k. keys_trunc is short)
  node_late d (keys_window is short) = always (λ k. keys_window is short)
  node_late d (keys_counted_field is short) = always (λ k. keys_counted_field is short)
  node_late d (keys_counted_times is short) = always (λ k. keys_counted_times is short)
  node_late d (keys_seq h) = then_late (λ k parts. keys_seq parts) (parts_late h)
  node_late d (keys_times h) = then_late (λ k turns. keys_times turns) (times_late h)
  node_late d (keys_choice {i = i} {o = o} {x = x} {mark = mark} j at h) =
      then_late (λ k part. keys_choice j at part) (late i o x mark h)
  node_late d (keys_named {i = i} {o = o} {x = x} {mark = mark} h) = then_late (λ k part. keys_named part) (late i o x mark h)

module _ (most : ℕ) (P Q : ℕ → ℕ → List ℕ → Bool → Type 0)
    (move : (i o : ℕ) (x : List ℕ) (mark : Bool) → P i o x mark → Q i o x mark) where
  lasting : (i o : ℕ) (x : List ℕ) (mark : Bool) → P i o x mark → Late (λ k. Q i o x mark)
  lasting i o x mark h = always (λ k. move i o x mark h)

  pub parts_moved : {parts : List ℕ} {o : ℕ} {x : List ℕ} {mark : Bool} → PartsKeys most P parts o x mark → PartsKeys most Q parts o x mark
  parts_moved h = at_last (parts_late most (λ k. Q) P lasting h)

  pub times_moved : {n i o : ℕ} {x : List ℕ} {mark : Bool} → TimesKeys most P n i o x mark → TimesKeys most Q n i o x mark
  times_moved h = at_last (times_late most (λ k. Q) P lasting h)

  pub node_moved : (d : DescV) {n : Node} {o : ℕ} {x : List ℕ} {mark : Bool} → NodeKeys d most P n o x mark → NodeKeys d most Q n o x mark
  node_moved d h = at_last (node_late most (λ k. Q) P lasting d h)
