-- What may stand behind parts, where it may behind their node from some round on.
use Rattle.std.specs.Prelude.{ℕ, List, Option}
use Rattle.csn_desc.specs.declared.node.Node.{Node}
use Rattle.csn_equations.specs.Reached.{PartFollow, follow_later, follow_seq, follow_kept, follow_trunc}
use Rattle.csn_equations.specs.Reached.{follow_times_again, follow_times, follow_many_again, follow_many, follow_choice}
use Rattle.csn_equations.specs.Reached.{follow_named, follow_window}
use Rattle.csn_equations.specs.Starts.{PartsStart}
use Rattle.csn_equations.proofs.NullableLate.{all_moved}
use Rattle.csn_equations.proofs.StartsLate.{parts_moved}
use Rattle.csn_equations.proofs.Late.{Late, always, then_late}

module _ (nullable : ℕ → Type 0) (ends starts : ℕ → ℕ → ℕ → Type 0) (By : ℕ → ℕ → ℕ → Option ℕ → Type 0)
    (P : ℕ → ℕ → Option ℕ → Type 0) (late : (i o : ℕ) (s : Option ℕ) → P i o s → Late (λ r. By r i o s)) where
  pub part_late : {n : Node} {k : ℕ} {after : List ℕ} {i o : ℕ} {s : Option ℕ}
      → PartFollow nullable ends starts P n k after i o s
      → Late (λ r. PartFollow nullable ends starts (By r) n k after i o s)
  part_late (follow_later h) = always (λ r. follow_later h)
  part_late (follow_seq {k = k} {o = o} {s = s} none h) = then_late (λ r above. follow_seq none above) (late k o s h)
  part_late (follow_kept h) = always (λ r. follow_kept h)
  part_late (follow_trunc {k = k} {o = o} {s = s} h) = then_late (λ r above. follow_trunc above) (late k o s h)
  part_late (follow_times_again h) = always (λ r. follow_times_again h)
  part_late (follow_times {k = k} {o = o} {s = s} h) = then_late (λ r above. follow_times above) (late k o s h)
  part_late (follow_many_again h) = always (λ r. follow_many_again h)
  part_late (follow_many {k = k} {o = o} {s = s} h) = then_late (λ r above. follow_many above) (late k o s h)
  part_late (follow_choice {k = k} {o = o} {s = s} h) = then_late (λ r above. follow_choice above) (late k o s h)
  part_late (follow_named {k = k} {o = o} {s = s} h) = then_late (λ r above. follow_named above) (late k o s h)
  part_late (follow_window end) = always (λ r. follow_window end)

module _ (N N' : ℕ → Type 0) (E E' S S' : ℕ → ℕ → ℕ → Type 0) (P Q : ℕ → ℕ → Option ℕ → Type 0)
    (move_null : (i : ℕ) → N i → N' i) (move_ends : (i o p : ℕ) → E i o p → E' i o p)
    (move_start : (i o bit : ℕ) → S i o bit → S' i o bit) (move : (i o : ℕ) (s : Option ℕ) → P i o s → Q i o s) where
  begin_moved : {parts : List ℕ} {o bit : ℕ} → PartsStart N E S parts o bit → PartsStart N' E' S' parts o bit
  begin_moved h = parts_moved N N' E E' S S' move_null move_ends move_start h

  pub part_moved : {n : Node} {k : ℕ} {after : List ℕ} {i o : ℕ} {s : Option ℕ}
      → PartFollow N E S P n k after i o s → PartFollow N' E' S' Q n k after i o s
  part_moved (follow_later h) = follow_later (begin_moved h)
  part_moved (follow_seq {k = k} {o = o} {s = s} none h) = follow_seq (all_moved N N' move_null none) (move k o s h)
  part_moved (follow_kept h) = follow_kept (begin_moved h)
  part_moved (follow_trunc {k = k} {o = o} {s = s} h) = follow_trunc (move k o s h)
  part_moved (follow_times_again {i = i} {o = o} {bit = bit} h) = follow_times_again (move_start i o bit h)
  part_moved (follow_times {k = k} {o = o} {s = s} h) = follow_times (move k o s h)
  part_moved (follow_many_again {i = i} {o = o} {bit = bit} h) = follow_many_again (move_start i o bit h)
  part_moved (follow_many {k = k} {o = o} {s = s} h) = follow_many (move k o s h)
  part_moved (follow_choice {k = k} {o = o} {s = s} h) = follow_choice (move k o s h)
  part_moved (follow_named {k = k} {o = o} {s = s} h) = follow_named (move k o s h)
  part_moved (follow_window end) = follow_window end
