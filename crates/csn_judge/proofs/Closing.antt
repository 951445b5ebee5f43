-- Where no further bit may be taken, since a window is full or the block has ended: what can end with no bits does.
use Rattle.std.proofs.Common.{◌≡◌, ℕ, ◌+◌, ◌%◌, ◌<◌, ◌≤◌, Bool, true, List, [], ◌∷◌, ◌++◌, length, refl, sym, ◌∙◌, ap}
use Rattle.std.proofs.Common.{subst, arith, append-nil, length-append, Some, slice_get}
use Rattle.csn_desc.specs.declared.reading.Reading.{Reading}
use Rattle.csn_desc.specs.declared.reading.Reading.TheVariants.{Received, Sent}
use Rattle.csn_desc.specs.declared.symbol.Symbol.{Symbol}
use Rattle.csn_desc.specs.declared.symbol.Symbol.TheVariants.{Low}
use Rattle.csn_desc.specs.declared.moves.Move.{Move}
use Rattle.csn_desc.specs.declared.moves.Move.TheVariants.{Leave}
use Rattle.csn_desc.specs.declared.node.Node.TheVariants.{Choice}
use Rattle.csn_desc.specs.TreeV.{TreeV, Trees, alt}
use Rattle.csn_desc.specs.TreeV as tree
use Rattle.csn_desc.specs.Nodes.{DescV}
use Rattle.csn_desc.specs.Values.{Values}
use Rattle.csn_desc.specs.Means.{NodeMeans, ManyMean, LeadMean, means_at, many_end, many_next, lead_last, lead_next}
use Rattle.csn_desc.specs.Follows.{NFollow}
use Rattle.csn_desc.specs.Walks.{RepeatsWalk, repeats_end, repeats_next}
use Rattle.csn_desc.specs.Spelled.{IsSpare}
use Rattle.csn_desc.specs.Formed.{IsDescription}
use Rattle.csn_certify.specs.declared.pick.Pick.TheVariants.{Take}
use Rattle.csn_certify.specs.Conflicts.{Certified}
use Rattle.csn_certify.specs.Picks.{Picks}
use Rattle.csn_certify.specs.Ahead.{LiesAhead}
use Rattle.csn_certify.specs.Laws.{ChoicesTakeTheOne}
use Rattle.csn_judge.specs.Left.{Left, all_left, window_left, choice_left, none_left, pad_left, rest_left, free_left}
use Rattle.csn_judge.specs.Left.{cut_left, lead_left, Completes, completes_none, completes_window, completes_pad}
use Rattle.csn_judge.specs.Left.{completes_rest, completes_free, completes_cut, completes_lead, completes_cut_behind}
use Rattle.csn_judge.specs.Left.{completes_lead_behind, begins_whole, begins_all, begins_window}
use Rattle.csn_judge.specs.Remains.{IsUpTo, Within, Rest, rest_end, rest_next, Goes, goes_end, goes_next, goes_here, Steps, Passes}
use Rattle.csn_judge.specs.Inside.{IsReady}
use Rattle.csn_judge.proofs.StepFacts.{rest_from, Both, both_gone, completes_along, both_rest, both_goes, rest_both, steps_quietly}
use Rattle.csn_judge.proofs.LookAhead.{within_less}
use Rattle.csn_judge.proofs.Parts.{Moving}
use Rattle.std.proofs.lemmas.List.{nil_from_length}
use Rattle.csn_desc.proofs.Splits.{front_empty}
use Rattle.csn_judge.proofs.Alternatives.{chosen, unchosen, unchosen_goes}

-- every step passes
pub passes_of : {d : DescV} {old new : List Left} {done taken ahead : List ℕ} {made : List Move} (ended : Bool)
    → Steps d old new done taken ahead made → Passes d ended old new done taken ahead made
passes_of ended s =
    record {
      ends = λ later rest last h. s.ends later rest h;
      ended_by = λ later more last h. s.ended later more h;
      goes = λ b going agrees g. s.goes b agrees g;
      went = λ b going agrees g. s.went b agrees g;
    }

-- no place further on is inside all windows
abbrev pub Full : List Left → List ℕ → Type 0
Full stack done = (place : ℕ) → Within stack place → place ≤ length done

module _ (d : DescV) where
  -- what can be ended, or followed, lies inside all windows
  up_to : (left : Left) {done b : List ℕ} {moves : List Move} → Completes d left done b moves → IsUpTo left (length done)
  up_to (window_left end) (completes_window none place leave) = omega (arith, place)
  up_to _ c = tt

  pub rest_within : {stack : List Left} {done b : List ℕ} {moves : List Move} → Rest d stack done b moves → Within stack (length done)
  rest_within (rest_end none stays) = tt
  rest_within {done = done} (rest_next {left = left} {outer = outer} b1 b2 first others cut made c o) =
      (up_to left c, within_less outer (length done) (length (done ++ b1)) (omega (arith, length-append done b1)) (rest_within o))

  pub goes_within : {stack : List Left} {done b : List ℕ} → Goes d stack done b → Within stack (length done)
  goes_within (goes_end none) = tt
  goes_within {done = done} (goes_next {left = left} {outer = outer} b1 b2 first cut c g) =
      (up_to left c, within_less outer (length done) (length (done ++ b1)) (omega (arith, length-append done b1)) (goes_within g))
  goes_within {done = done} {b = b} (goes_here {left = left} {outer = outer} h within) =
      within_less (left ∷ outer) (length done) (length done + length b) (omega arith) within

  -- so where it is full no bits are
  pub no_bits_full : (outer : List Left) (done b1 : List ℕ) → Full outer done → Within outer (length (done ++ b1)) → b1 ≡ []
  no_bits_full outer done b1 full within = nil_from_length b1 (omega (arith, full (length (done ++ b1)) within, length-append done b1))

  -- a form that can end with no bits, by being left
  pub record Ends (left : Left) (done : List ℕ) : Type 0 where
    pub leave : (moves : List Move) → Completes d left done [] moves → moves ≡ Leave ∷ []
    pub can : Completes d left done [] (Leave ∷ [])
    pub up : (place : ℕ) → IsUpTo left place

  none_spare : (r : Reading) (s : Symbol) (o : ℕ) → IsSpare r s o []
  none_spare Received s o = tt
  none_spare Sent s o = refl

  pub pad_ends : (done : List ℕ) → Ends (pad_left true) done
  pad_ends done =
      record { leave = leave; can = completes_pad (λ e. absurd (cc)) (none_spare d.reading Low (length done)) refl; up = λ place. tt }
    where
      leave : (moves : List Move) → Completes d (pad_left true) done [] moves → moves ≡ Leave ∷ []
      leave moves (completes_pad some spare is) = is

  pub rest_ends : (done : List ℕ) → Ends rest_left done
  rest_ends done =
      record { leave = leave; can = completes_rest tt refl; up = λ place. tt }
    where
      leave : (moves : List Move) → Completes d rest_left done [] moves → moves ≡ Leave ∷ []
      leave moves (completes_rest bits is) = is

  pub free_ends : (part : ℕ) (v : Values) (done : List ℕ) → Ends (free_left part v) done
  free_ends part v done =
      record { leave = leave; can = completes_free tree.none (many_end refl) (repeats_end refl) refl; up = λ place. tt }
    where
      leave : (moves : List Move) → Completes d (free_left part v) done [] moves → moves ≡ Leave ∷ []
      leave moves (completes_free {inside = within} ts h ws is) = by h ws refl refl
        where
          by : {b : List ℕ} {us vs : Trees} → ManyMean d part (length done) v b us → RepeatsWalk d part (length done)
              vs within → us ≡ vs → b ≡ [] → moves ≡ Leave ∷ []
          by (many_end nothing) (repeats_end stays) e none = is ∙ ap (λ l. l ++ Leave ∷ []) stays
          by (many_end nothing) (repeats_next first rest made w ws) e none = absurd (cc)
          by (many_next b1 b2 cut has g others) ws e none = absurd (omega (arith, ap length cut, ap length none, length-append b1 b2))

  lead_bits : {parts : List ℕ} {o : ℕ} {v : Values} {b : List ℕ} {ts : Trees} → LeadMean d parts o v b ts → 0 < length b
  lead_bits (lead_last some h) = some
  lead_bits (lead_next b1 b2 cut h others) = omega (arith, ap length cut, lead_bits others, length-append b1 b2)

  pub cut_ends : (parts : List ℕ) (v : Values) (done : List ℕ) → Ends (cut_left parts v) done
  cut_ends parts v done =
      record { leave = leave; can = completes_cut refl refl; up = λ place. tt }
    where
      leave : (moves : List Move) → Completes d (cut_left parts v) done [] moves → moves ≡ Leave ∷ []
      leave moves (completes_cut none is) = is
      leave moves (completes_lead ts h ws is) = absurd (omega (arith, lead_bits h))

  pub lead_ends : (i from : ℕ) (parts : List ℕ) (v : Values) (done : List ℕ) → from < length done → Ends (lead_left i from parts v) done
  lead_ends i from parts v done took =
      record { leave = leave; can = completes_cut_behind took refl refl; up = λ place. tt }
    where
      leave : (moves : List Move) → Completes d (lead_left i from parts v) done [] moves → moves ≡ Leave ∷ []
      leave moves (completes_cut_behind some none is) = is
      leave moves (completes_lead_behind ts h ws is) = absurd (omega (arith, lead_bits h))

  none_of : {left : Left} {done b : List ℕ} {moves : List Move} → Ends left done → b ≡ [] → Completes d left done b moves → Completes d none_left done b moves
  none_of e none c = completes_none none (e.leave _ (completes_along d none c))

  back_of : {left : Left} {done b : List ℕ} {moves : List Move} → Ends left done → Completes d none_left done b moves → Completes d left done b moves
  back_of {left} {done} {b} {moves} e (completes_none none leave) =
      let P : List Move → Type 0 = λ l. Completes d left done b l in
      subst P (sym leave) (completes_along d (sym none) e.can)

  rest_back : {left : Left} {outer : List Left} {done x : List ℕ} {rest : List Move}
      → Ends left done → Rest d (none_left ∷ outer) done x rest → Rest d (left ∷ outer) done x rest
  rest_back e (rest_next b1 b2 first others cut made c o) = rest_next b1 b2 first others cut made (back_of e c) o

  -- it does, in a full window
  pub closed_full : {left : Left} {outer : List Left} {done : List ℕ} (ahead : List ℕ)
      → Ends left done → Full outer done → Steps d (left ∷ outer) (none_left ∷ outer) done [] ahead []
  closed_full {left} {outer} {done} ahead e full =
      steps_quietly d (λ later rest h. on _ rest h) back (λ b agrees g. forth b g) (λ b agrees g. home b g)
    where
      on : (x : List ℕ) (rest : List Move) → Rest d (left ∷ outer) done x rest → Rest d (none_left ∷ outer) done x rest
      on x rest (rest_next b1 b2 first others cut made c o) =
          rest_next b1 b2 first others cut made (none_of e (no_bits_full outer done b1 full (rest_within o)) c) o

      back : (x : List ℕ) (rest : List Move) → Rest d (none_left ∷ outer) done x rest → Rest d (left ∷ outer) done x rest
      back x rest h = rest_back e h

      forth : (b : List ℕ) → Goes d (left ∷ outer) done b → Goes d (none_left ∷ outer) done b
      forth b (goes_next b1 b2 first cut c g) = goes_next b1 b2 first cut (none_of e (no_bits_full outer done b1 full (goes_within g)) c) g
      forth b (goes_here h within) =
          let none = nil_from_length b (omega (arith, full (length done + length b) within.1)) in
          goes_here (begins_whole (Leave ∷ []) (completes_none none refl)) (tt, within.1)

      home : (b : List ℕ) → Goes d (none_left ∷ outer) done b → Goes d (left ∷ outer) done b
      home b (goes_next b1 b2 first cut c g) = goes_next b1 b2 first cut (back_of e c) g
      home b (goes_here (begins_whole moves c) within) = goes_here (begins_whole moves (back_of e c)) (e.up _, within.1)

  -- and at the end of the block
  pub closed_last : {left : Left} {outer : List Left} {done : List ℕ} → Ends left done → Passes d true (left ∷ outer) (none_left ∷ outer) done [] [] []
  closed_last {left} {outer} {done} e =
      record {
        ends = λ later rest last h. on (last refl) rest h;
        ended_by = λ later rest last h. rest_back e (rest_from d (append-nil done) h);
        goes = λ b going agrees g. absurd (cc);
        went = λ b going agrees g. absurd (cc);
      }
    where
      on : {x : List ℕ} → x ≡ [] → (rest : List Move) → Rest d (left ∷ outer) done x rest → (more : List Move)
          × (rest ≡ [] ++ more) × Rest d (none_left ∷ outer) (done ++ []) x more
      on none rest (rest_next b1 b2 first others cut made c o) =
          (rest, refl, rest_from d (sym (append-nil done)) (rest_next b1 b2 first others cut made (none_of e (front_empty b1 b2 (sym cut ∙ none)) c) o))

  -- ---- a window that is left

  pub window_alike : (end : ℕ) (outer : List Left) (done ahead : List ℕ)
      → length done ≡ end → Steps d (window_left end ∷ outer) (none_left ∷ outer) done [] ahead []
  window_alike end outer done ahead place =
      steps_quietly d (λ later rest h. on _ rest h) back (λ b agrees g. forth b g) (λ b agrees g. home b g)
    where
      on : (x : List ℕ) (rest : List Move) → Rest d (window_left end ∷ outer) done x rest → Rest d (none_left ∷ outer) done x rest
      on x rest (rest_next b1 b2 first others cut made (completes_window none there leave) o) =
          rest_next b1 b2 first others cut made (completes_none none leave) o

      back : (x : List ℕ) (rest : List Move) → Rest d (none_left ∷ outer) done x rest → Rest d (window_left end ∷ outer) done x rest
      back x rest (rest_next b1 b2 first others cut made (completes_none none leave) o) =
          rest_next b1 b2 first others cut made (completes_window none place leave) o

      forth : (b : List ℕ) → Goes d (window_left end ∷ outer) done b → Goes d (none_left ∷ outer) done b
      forth b (goes_next b1 b2 first cut (completes_window none there leave) g) = goes_next b1 b2 first cut (completes_none none leave) g
      forth b (goes_here (begins_window none there) within) = goes_here (begins_whole (Leave ∷ []) (completes_none none refl)) (tt, within.1)
      forth b (goes_here (begins_whole moves (completes_window none there leave)) within) =
          goes_here (begins_whole moves (completes_none none leave)) (tt, within.1)

      home : (b : List ℕ) → Goes d (none_left ∷ outer) done b → Goes d (window_left end ∷ outer) done b
      home b (goes_next b1 b2 first cut (completes_none none leave) g) = goes_next b1 b2 first cut (completes_window none place leave) g
      home b (goes_here (begins_whole moves (completes_none none leave)) within) =
          goes_here (begins_window none (omega (arith, place))) (omega (arith, place, ap length none), within.1)

module _ (d : DescV) (most : ℕ) (is : IsDescription d) (certified : Certified d most) (moving : Moving) (takes : ChoicesTakeTheOne) where
  -- ---- the alternative of no bits, where no further bit may be taken

  module _ (k part j : ℕ) (parts : List ℕ) (v : Values) (outer : List Left) (done : List ℕ)
      (at : slice_get d.nodes k ≡ Some (Choice parts)) (here : slice_get parts j ≡ Some part)
      (ready : IsReady d k (length done) (length outer) v) (picks : Picks d most k (length done % 8) [] true (Take j))
    where
      lies_none : {t : TreeV} {b : List ℕ} → b ≡ [] → NodeMeans d (Choice parts) (length done) v b t → LiesAhead d k (length done) v ([] ++ []) t
      lies_none {b = b} none h = record {
        own = b;
        others = [];
        split = sym (append-nil b ∙ none);
        means =
            means_at (Choice parts) at h;
        behind = λ bit rest e. absurd (cc);
      }

      null_of : {b : List ℕ} {moves : List Move} → b ≡ [] → Completes d (choice_left parts v) done b moves → Both d (all_left part v) none_left done b moves
      null_of none c =
          chosen d j here c (λ t means. takes d most k (length done) j v parts [] [] true t is certified at
          ready.reached ready.widths (λ e. refl) (lies_none none means) picks)

      pub null_full : (ahead : List ℕ) → Full outer done → NFollow d part (length done) v []
          → Steps d (choice_left parts v ∷ outer) (all_left part v ∷ none_left ∷ outer) done [] ahead []
      null_full ahead full empty =
          steps_quietly d (λ later rest h. on _ rest h) (λ x rest h. rest_both d [] (unchosen d j here) h)
          (λ b agrees g. forth b g) (λ b agrees g. unchosen_goes d j here moving b (both_gone d g))
        where
          on : (x : List ℕ) (rest : List Move) → Rest d (choice_left parts v ∷ outer) done x rest → Rest d (all_left part v ∷ none_left ∷ outer) done x rest
          on x rest (rest_next b1 b2 first others cut made c o) = both_rest d cut made (null_of (no_bits_full d outer done b1 full (rest_within d o)) c) o

          forth : (b : List ℕ) → Goes d (choice_left parts v ∷ outer) done b → Goes d (all_left part v ∷ none_left ∷ outer) done b
          forth b (goes_next b1 b2 first cut c g) = both_goes d cut (null_of (no_bits_full d outer done b1 full (goes_within d g)) c) g
          forth b (goes_here h within) =
              let none = nil_from_length b (omega (arith, full (length done + length b) within.1)) in
              let P : List ℕ → Type 0 = λ l. NFollow d part (length done) v l in
              goes_here (begins_all (subst P (sym none) empty)) (tt, (tt, within.1))

      pub null_last : Passes d true (choice_left parts v ∷ outer) (all_left part v ∷ none_left ∷ outer) done [] [] []
      null_last =
          record {
            ends = λ later rest final h. (rest, refl, rest_from d (sym (append-nil done)) (on (final refl) rest h));
            ended_by = λ later rest final h. rest_both d [] (unchosen d j here) (rest_from d (append-nil done) h);
            goes = λ b going agrees g. absurd (cc);
            went = λ b going agrees g. absurd (cc);
          }
        where
          on : {x : List ℕ} → x ≡ [] → (rest : List Move) → Rest d (choice_left parts v ∷ outer) done x rest
              → Rest d (all_left part v ∷ none_left ∷ outer) done x rest
          on none rest (rest_next b1 b2 first others cut made c o) = both_rest d cut made (null_of (front_empty b1 b2 (sym cut ∙ none)) c) o
