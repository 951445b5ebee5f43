-- Which bits can be followed from what is open, and at which bit that ends.
use Rattle.std.proofs.Common.{◌≡◌, ℕ, suc, ◌+◌, ◌<◌, Bool, false, List, [], ◌∷◌, ◌++◌, length, refl, sym, ◌∙◌, ap, subst, arith, append_assoc, Some, slice_get}
use Rattle.std.proofs.lemmas.List.{append_cancel_left}
use Rattle.csn_desc.specs.declared.reading.Reading.{Reading}
use Rattle.csn_desc.specs.declared.reading.Reading.TheVariants.{Received, Sent}
use Rattle.csn_desc.specs.declared.symbol.Symbol.{Symbol}
use Rattle.csn_desc.specs.declared.symbol.Symbol.TheVariants.{Low}
use Rattle.csn_desc.specs.declared.moves.Move.{Move}
use Rattle.csn_desc.specs.declared.moves.Move.TheVariants.{Leave}
use Rattle.csn_desc.specs.declared.node.Node.TheVariants.{Choice}
use Rattle.csn_desc.specs.Nodes.{DescV}
use Rattle.csn_desc.specs.Spelled.{symbol_bit, spelled, IsSpare}
use Rattle.csn_desc.specs.Values.{Values}
use Rattle.csn_desc.specs.Means.{means_choice}
use Rattle.csn_desc.specs.Follows.{NFollow, NodeFollows, follows_whole, follows_choice}
use Rattle.csn_desc.proofs.Nodewise.{follow_at}
use Rattle.csn_judge.specs.Left.{Left, bits_left, symbols_left, spare_left, pad_left, rest_left, choice_left}
use Rattle.csn_judge.specs.Left.{window_left, Completes, completes_bits, completes_symbols, completes_spare}
use Rattle.csn_judge.specs.Left.{completes_pad, completes_rest, completes_window, Begins, begins_whole, begins_bits}
use Rattle.csn_judge.specs.Left.{begins_symbols, begins_spare, begins_pad, begins_choice, begins_window}
use Rattle.csn_judge.specs.Remains.{Within, Goes, goes_end, goes_next, goes_here}
use Rattle.csn_judge.proofs.Leaves.{spelled-append, spare_front}
use Rattle.csn_judge.proofs.Parts.{Moving, follow_whole}
use Rattle.csn_judge.proofs.Closing.{Full, goes_within, no_bits_full}

module _ (d : DescV) where
  -- ---- nothing is open

  pub nothing_follows : (done : List ℕ) (bit : ℕ) (rest : List ℕ) → ¬ Goes d [] done (bit ∷ rest)
  nothing_follows done bit rest (goes_end none) = absurd (cc)

  -- ---- where no bit may be taken

  -- a form that needs a bit
  pub stuck : {left : Left} {outer : List Left} {done : List ℕ} (bit : ℕ) (rest : List ℕ)
      → Full outer done → ((moves : List Move) → ¬ Completes d left done [] moves)
      → ¬ Goes d (left ∷ outer) done (bit ∷ rest)
  stuck {outer = outer} {done = done} bit rest full never (goes_here h within) = absurd (omega (arith, full (length done + length (bit ∷ rest)) within.1))
  stuck {left} {outer} {done} bit rest full never (goes_next b1 b2 first cut c g) =
      let none = no_bits_full d outer done b1 full (goes_within d g) in
      let P : List ℕ → Type 0 = λ l. Completes d left done l first in
      never first (subst P none c)

  pub bits_wanted : (n : ℕ) (done : List ℕ) → 0 < n → (moves : List Move) → ¬ Completes d (bits_left n) done [] moves
  bits_wanted n done some moves (completes_bits size good leave) = absurd (omega (arith, some, size))

  pub symbols_wanted : (s : Symbol) (run : List Symbol) (done : List ℕ) (moves : List Move) → ¬ Completes d (symbols_left (s ∷ run)) done [] moves
  symbols_wanted s run done moves (completes_symbols same leave) = absurd (cc)

  pub spare_wanted : (s : Symbol) (done : List ℕ) (moves : List Move) → ¬ Completes d (spare_left s) done [] moves
  spare_wanted s done moves (completes_spare one good leave) = absurd (omega arith)

  pub pad_wanted : (done : List ℕ) (moves : List Move) → ¬ Completes d (pad_left false) done [] moves
  pad_wanted done moves (completes_pad some good leave) = let one = some refl in absurd (omega arith)

  -- a window that does not end here
  pub window_stuck : {outer : List Left} {done : List ℕ} (end bit : ℕ) (rest : List ℕ) → ¬ (length done ≡ end)
      → ¬ Goes d (window_left end ∷ outer) done (bit ∷ rest)
  window_stuck end bit rest not (goes_here (begins_window none place) within) = absurd (cc)
  window_stuck end bit rest not (goes_here (begins_whole moves (completes_window none place leave)) within) = absurd (cc)
  window_stuck end bit rest not (goes_next b1 b2 first cut (completes_window none place leave) g) = not place

  -- ---- no bits are followed yet

  pub alive : {left : Left} {outer : List Left} {done : List ℕ} → Begins d left done [] → Within (left ∷ outer) (length done) → Goes d (left ∷ outer) done []
  alive {left} {outer} {done} h within =
      let same : length done ≡ length done + length {A = ℕ} [] = omega arith in
      let P : ℕ → Type 0 = λ n. Within (left ∷ outer) n in
      goes_here h (subst P same within)

  none_spare : (r : Reading) (s : Symbol) (o : ℕ) → IsSpare r s o []
  none_spare Received s o = tt
  none_spare Sent s o = refl

  pub bits_alive : (n : ℕ) (done : List ℕ) → Begins d (bits_left n) done []
  bits_alive n done = begins_bits (omega arith) tt

  pub symbols_alive : (run : List Symbol) (done : List ℕ) → Begins d (symbols_left run) done []
  symbols_alive run done = begins_symbols (spelled run (length done)) refl

  pub spare_alive : (s : Symbol) (done : List ℕ) → Begins d (spare_left s) done []
  spare_alive s done = begins_spare (omega arith) (none_spare d.reading s (length done))

  pub pad_alive : (begun : Bool) (done : List ℕ) → Begins d (pad_left begun) done []
  pad_alive begun done = begins_pad (none_spare d.reading Low (length done))

  pub rest_alive : (done : List ℕ) → Begins d rest_left done []
  rest_alive done = begins_whole (Leave ∷ []) (completes_rest tt refl)

  -- bits that a choice follows
  pub choice_begun : {k : ℕ} {parts : List ℕ} {v : Values} {done b : List ℕ}
      → Moving → slice_get d.nodes k ≡ Some (Choice parts) → NFollow d k (length done) v b
      → Begins d (choice_left parts v) done b
  choice_begun {parts = parts} {v} {done} {b} moving at f = by (follow_at d at f)
    where
      by : NodeFollows d (Choice parts) (length done) v b → Begins d (choice_left parts v) done b
      by (follows_choice {i = i} j here g) = begins_choice j i here g
      by (follows_whole t (means_choice {j = j} {i = i} here g)) = begins_choice j i here (follow_whole d moving g)

  -- ---- a literal and a spare part that differ

  pub symbols_follow : (run more : List Symbol) (outer : List Left) (done : List ℕ)
      → Within outer (length done + length (spelled run (length done)))
      → Goes d (symbols_left (run ++ more) ∷ outer) done (spelled run (length done))
  symbols_follow run more outer done within =
      goes_here (begins_symbols (spelled more (length done + length run)) (spelled-append run more (length done))) (tt, within)

  pub symbols_differ : (run more : List Symbol) (s : Symbol) (outer : List Left) (done : List ℕ) (bit : ℕ)
      (rest : List ℕ) → ¬ (bit ≡ symbol_bit s (length done + length run))
      → ¬ Goes d (symbols_left (run ++ s ∷ more) ∷ outer) done (spelled run (length done) ++ bit ∷ rest)
  symbols_differ run more s outer done bit rest not g = by g
    where
      front : List ℕ
      front = spelled run (length done)

      whole : spelled (run ++ s ∷ more) (length done) ≡ front ++ symbol_bit s (length done + length run) ∷ spelled more (suc (length done + length run))
      whole = spelled-append run (s ∷ more) (length done)

      clash : (x y : List ℕ) → front ++ bit ∷ x ≡ front ++ symbol_bit s (length done + length run) ∷ y → ⊥
      clash x y e =
          let cut = append_cancel_left front (bit ∷ x) (symbol_bit s (length done + length run) ∷ y) e in
          not (cc)

      by : Goes d (symbols_left (run ++ s ∷ more) ∷ outer) done (front ++ bit ∷ rest) → ⊥
      by (goes_here (begins_symbols later same) within) =
          clash (rest ++ later) (spelled more (suc (length done + length run))) (sym (append_assoc front (bit ∷ rest) later) ∙ sym same ∙ whole)
      by (goes_here (begins_whole moves (completes_symbols same leave)) within) = clash rest (spelled more (suc (length done + length run))) (same ∙ whole)
      by (goes_next b1 b2 first cut (completes_symbols same leave) h) =
          clash rest (spelled more (suc (length done + length run)) ++ b2) (cut ∙ ap (λ l. l ++ b2) (same ∙ whole)
          ∙ append_assoc front (symbol_bit s (length done + length run) ∷ spelled more
          (suc (length done + length run))) b2)

  pub spare_differs : (s : Symbol) (outer : List Left) (done : List ℕ) (bit : ℕ) (rest : List ℕ)
      → ¬ IsSpare d.reading s (length done) (bit ∷ []) → ¬ Goes d (spare_left s ∷ outer) done (bit ∷ rest)
  spare_differs s outer done bit rest not g = by g
    where
      by : Goes d (spare_left s ∷ outer) done (bit ∷ rest) → ⊥
      by (goes_here (begins_spare few good) within) = not (spare_front d.reading s (length done) (bit ∷ []) rest good)
      by (goes_here (begins_whole moves (completes_spare one good leave)) within) = not (spare_front d.reading s (length done) (bit ∷ []) rest good)
      by (goes_next [] b2 first cut (completes_spare one good leave) h) = absurd (omega arith)
      by (goes_next (a ∷ b1) b2 first cut (completes_spare one good leave) h) =
          let same : a ≡ bit = cc in
          let P : ℕ → Type 0 = λ x. IsSpare d.reading s (length done) (x ∷ []) in
          not (subst P same (spare_front d.reading s (length done) (a ∷ []) b1 good))

  pub pad_follows : (begun : Bool) (alike : List ℕ) (outer : List Left) (done : List ℕ)
      → IsSpare d.reading Low (length done) alike → Within outer (length done + length alike)
      → Goes d (pad_left begun ∷ outer) done alike
  pad_follows begun alike outer done good within = goes_here (begins_pad good) (tt, within)
