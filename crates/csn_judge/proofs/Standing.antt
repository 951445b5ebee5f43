-- What stands behind a node that is read inside others: the first of the bits there, up to the end of each window
-- that is open, may follow the node.
use Rattle.std.proofs.Common.{◌≡◌, ℕ, zero, suc, ◌+◌, ◌-◌, ◌^◌, ◌%◌, ◌<◌, ◌≤◌, ◌==◌, Bool, true, false, if◌then◌else◌}
use Rattle.std.proofs.Common.{eqb-true, List, [], ◌∷◌, ◌++◌, length, drop, take, refl, sym, ◌∙◌, ap, subst, arith}
use Rattle.std.proofs.Common.{append-nil, length-append, Option, Some, slice_get}
use Rattle.csn_bits.specs.Numbers.{number_of}
use Rattle.csn_desc.specs.declared.moves.Move.{Move}
use Rattle.csn_desc.specs.declared.node.Count.{Count}
use Rattle.csn_desc.specs.declared.node.Node.TheVariants.{Seq, Choice, Times, Many, Trunc, Window, Named}
use Rattle.csn_desc.specs.Nodes.{DescV}
use Rattle.csn_desc.specs.Values.{Values, value_of, with_value, is_named}
use Rattle.csn_desc.specs.Formed.{value_width, width_of, IsDescription, FitWidths}
use Rattle.csn_bits.proofs.NumberFacts.{number_of-lt}
use Rattle.csn_look.specs.Reached.{MayStandBehind}
use Rattle.csn_judge.specs.Left.{Left, behind, completes_none, completes_window, completes_parts, completes_turns}
use Rattle.csn_judge.specs.Left.{completes_free, completes_cut_behind, completes_lead_behind, begins_whole}
use Rattle.csn_judge.specs.Left.{begins_window, begins_parts, begins_turns, begins_free, begins_lead}
use Rattle.csn_judge.specs.Left.{begins_lead_none}
use Rattle.csn_judge.specs.Remains.{Within, Rest, rest_end, rest_next, Goes, goes_end, goes_next, goes_here}
use Rattle.csn_judge.specs.Inside.{Inside, inside_none, inside_choice, inside_label, inside_window, inside_parts}
use Rattle.csn_judge.specs.Inside.{inside_turns, inside_free, inside_lead, HasWidth}
use Rattle.csn_judge.specs.Known.{Known}

-- ---- first bits

-- the first few of two pieces begin as the first piece and the first few of the second do
record First (b1 b2 : List ℕ) (n bit : ℕ) : Type 0 where
  pub rest : List ℕ
  pub is : b1 ++ take (n - length b1) b2 ≡ bit ∷ rest

first_of : (b1 b2 : List ℕ) (n bit : ℕ) (rest : List ℕ) → take n (b1 ++ b2) ≡ bit ∷ rest → First b1 b2 n bit
first_of [] b2 n bit rest e = record { rest = rest; is = let same : n - length {A = ℕ} [] ≡ n = omega arith in ap (λ k. take k b2) same ∙ e }
first_of (a ∷ b1) b2 zero bit rest e = absurd (cc)
first_of (a ∷ b1) b2 (suc n) bit rest e =
    let same : a ≡ bit = cc in
    record { rest = b1 ++ take (suc n - length (a ∷ b1)) b2; is = ap (λ k. k ∷ (b1 ++ take (suc n - length (a ∷ b1)) b2)) same }

module _ (d : DescV) where
  -- a place from which to look on, in two pieces
  room_behind : (m : ℕ) (done b1 : List ℕ) → m - length (done ++ b1) ≡ (m - length done) - length b1
  room_behind m done b1 = omega (arith, length-append done b1)

  -- what may stand behind two pieces together may stand behind their first few
  pub first_few : (i o m : ℕ) (done b1 b2 : List ℕ) {b : List ℕ}
      → b ≡ b1 ++ b2 → MayStandBehind d i o (b1 ++ take (m - length (done ++ b1)) b2)
      → MayStandBehind d i o (take (m - length done) b)
  first_few i o m done b1 b2 cut h bit rest e =
      let first = first_of b1 b2 (m - length done) bit rest (ap (λ l. take (m - length done) l) (sym cut) ∙ e) in
      h bit first.rest (ap (λ k. b1 ++ take k b2) (room_behind m done b1) ∙ first.is)

  pub few_of : (i o n : ℕ) (b : List ℕ) → MayStandBehind d i o b → MayStandBehind d i o (take n b)
  few_of i o zero b h bit rest e = absurd (cc)
  few_of i o (suc n) [] h bit rest e = absurd (cc)
  few_of i o (suc n) (a ∷ b) h bit rest e = let same : a ≡ bit = cc in h bit b (ap (λ k. k ∷ b) same)

  pub stands_at : {i : ℕ} (o p : ℕ) (b : List ℕ) → o ≡ p → MayStandBehind d i o b → MayStandBehind d i p b
  stands_at {i} o p b e h = let P : ℕ → Type 0 = λ k. MayStandBehind d i k b in subst P e h

  -- nodes with parts have no width, but for labels
  pub sequence_width : {k : ℕ} {parts b : List ℕ} → slice_get d.nodes k ≡ Some (Seq parts) → HasWidth d k b
  sequence_width at = record { field = λ w e. absurd (grind (arith, at, e)); label = λ w e. absurd (grind (arith, at, e)) }

  pub choice_width : {k : ℕ} {parts b : List ℕ} → slice_get d.nodes k ≡ Some (Choice parts) → HasWidth d k b
  choice_width at = record { field = λ w e. absurd (grind (arith, at, e)); label = λ w e. absurd (grind (arith, at, e)) }

  pub times_width : {k i : ℕ} {count : Count} {b : List ℕ} → slice_get d.nodes k ≡ Some (Times count i) → HasWidth d k b
  times_width at = record { field = λ w e. absurd (grind (arith, at, e)); label = λ w e. absurd (grind (arith, at, e)) }

  pub many_width : {k i : ℕ} {b : List ℕ} → slice_get d.nodes k ≡ Some (Many i) → HasWidth d k b
  many_width at = record { field = λ w e. absurd (grind (arith, at, e)); label = λ w e. absurd (grind (arith, at, e)) }

  pub truncation_width : {k : ℕ} {parts b : List ℕ} → slice_get d.nodes k ≡ Some (Trunc parts) → HasWidth d k b
  truncation_width at = record { field = λ w e. absurd (grind (arith, at, e)); label = λ w e. absurd (grind (arith, at, e)) }

  pub window_width : {k unit i : ℕ} {count : Count} {b : List ℕ} → slice_get d.nodes k ≡ Some (Window unit count i) → HasWidth d k b
  window_width at = record { field = λ w e. absurd (grind (arith, at, e)); label = λ w e. absurd (grind (arith, at, e)) }

  -- a label is as wide as its part
  pub label_width : {k i : ℕ} {label b : List ℕ} → slice_get d.nodes k ≡ Some (Named label i) → HasWidth d i b → HasWidth d k b
  label_width {k} {i} at h =
      record {
        field = λ w e. absurd (grind (arith, at, e));
        label = λ w e. h.field w (same_width w e);
      }
    where
      same_width : (w : ℕ) → value_width d.nodes k ≡ Some w → width_of (slice_get d.nodes i) ≡ Some w
      same_width w e = grind (arith, at, e)

  -- what the parts behind a part see fits its widths
  pub fits_behind : (i : ℕ) (b : List ℕ) (v : Values) → HasWidth d i b → FitWidths d v → FitWidths d (with_value d.nodes i b v)
  fits_behind i b v width fits = record { fit = λ field value wide. behind_it field value wide (is_named d.nodes i) }
    where
      small : (wide : ℕ) → value_width d.nodes i ≡ Some wide → number_of b < 2 ^ wide
      small wide is =
          let known = width.label wide is in
          let P : ℕ → Type 0 = λ w. number_of b < 2 ^ w in
          subst P known.0 (number_of-lt b known.1)

      first : (field value wide : ℕ) (same : Bool)
          → (i == field) ≡ same → (if same then Some (number_of b) else value_of v field) ≡ Some value
          → value_width d.nodes field ≡ Some wide → value < 2 ^ wide
      first field value wide true same at is =
          let here : number_of b ≡ value = cc in
          let field_is : i ≡ field = eqb-true i field same in
          let bound = small wide (ap (λ k. value_width d.nodes k) field_is ∙ is) in
          rw (← here) bound
      first field value wide false same at is = fits.fit field value wide at is

      behind_it : (field value wide : ℕ) (labelled : Bool)
          → value_of (if labelled then (i, b) ∷ v else v) field ≡ Some value → value_width d.nodes field ≡ Some wide
          → value < 2 ^ wide
      behind_it field value wide true at is = first field value wide (i == field) refl at is
      behind_it field value wide false at is = fits.fit field value wide at is

  width_along : {i : ℕ} {b c : List ℕ} → b ≡ c → HasWidth d i b → HasWidth d i c
  width_along {i} e h = let P : List ℕ → Type 0 = λ l. HasWidth d i l in subst P e h

module _ (d : DescV) (is : IsDescription d) (laws : Known d) where
  no_stand : (i o : ℕ) (b : List ℕ) → b ≡ [] → MayStandBehind d i o b
  no_stand i o b none bit rest e = absurd (cc)

  -- behind the end of a window that is open nothing is looked at
  no_room : (m n : ℕ) → m ≤ n → (b : List ℕ) → take (m - n) b ≡ []
  no_room m n less b = let same : m - n ≡ 0 = omega (arith, less) in ap (λ k. take k b) same

  outer_on : (i m : ℕ) (done b1 b2 : List ℕ) {b : List ℕ}
      → b ≡ b1 ++ b2 → b1 ≡ [] → MayStandBehind d i (length (done ++ b1) % 8) (take (m - length (done ++ b1)) b2)
      → MayStandBehind d i (length done % 8) (take (m - length done) b)
  outer_on i m done b1 b2 {b} cut none h =
      let size : length (done ++ b1) ≡ length done = ap (λ l. length (done ++ l)) none ∙ ap length (append-nil done) in
      let same : b2 ≡ b = ap (λ l. l ++ b2) (sym none) ∙ sym cut in
      let P : ℕ → Type 0 = λ k. MayStandBehind d i (k % 8) (take (m - k) b2) in
      let Q : List ℕ → Type 0 = λ l. MayStandBehind d i (length done % 8) (take (m - length done) l) in
      subst Q same (subst P size h)

  window_behind : (i m end : ℕ) (done b : List ℕ) → length done ≡ end → m ≤ end → MayStandBehind d i (length done % 8) (take (m - length done) b)
  window_behind i m end done b place less = no_stand i (length done % 8) (take (m - length done) b) (no_room m (length done) (omega (arith, place, less)) b)

  alone : (i : ℕ) {o : ℕ} (b : List ℕ) → MayStandBehind d i o (b ++ []) → MayStandBehind d i o b
  alone i {o} b h = let P : List ℕ → Type 0 = λ l. MayStandBehind d i o l in subst P (append-nil b) h

  module _ (m : ℕ) where
    -- of bits that end what is open
    pub rest_stands : {fresh : Option ℕ} {stack : List Left} {i from : ℕ} {v : Values} {done b : List ℕ}
        {moves : List Move} → Inside d fresh stack i from v → HasWidth d i (drop from done)
        → Within stack m → Rest d stack done b moves → MayStandBehind d i (length done % 8) (take (m - length done) b)
    rest_stands {i = i} {done = done} (inside_none stale root start sees) width within (rest_end none stays) =
        few_of d i (length done % 8) (m - length done) _ (no_stand i (length done % 8) _ none)
    rest_stands {i = i} {done = done} (inside_choice k j parts at here ready inner) width within
        (rest_next b1 b2 first others cut made (completes_none none leave) o) =
        let outer = laws.alternative d k j i (length (done ++ b1) % 8) parts _ at here (rest_stands inner (choice_width d at) within.1 o) in
        outer_on i m done b1 b2 cut none outer
    rest_stands {i = i} {from} {done = done} (inside_label {label = label} k at ready inner) width within
        (rest_next b1 b2 first others cut made (completes_none none leave) o) =
        let same : drop from done ≡ drop from (done ++ b1) = ap (λ l. drop from l) (sym (append-nil done) ∙ ap (λ l. done ++ l) (sym none)) in
        let outer = laws.label d k i (length (done ++ b1) % 8) label _ at (rest_stands inner (label_width d at (width_along d same width)) within.1 o) in
        outer_on i m done b1 b2 cut none outer
    rest_stands {i = i} {done = done} (inside_window {end = end} k n at counts ends ready inner) width within
        (rest_next b1 b2 first others cut made (completes_window none place leave) o) =
        window_behind i m end done _ place within.0
    rest_stands {i = i} {from} {done = done} (inside_parts {after = after} {v = v} k start v0 parts before at split
        so_far order empty fits formed ready inner) width within
        (rest_next b1 b2 first others cut made (completes_parts ts h ws leave) o) =
        let outer = rest_stands inner (sequence_width d at) within.1 o in
        let place : length (done ++ b1) % 8 ≡ (length done + length b1) % 8 = ap (λ k. k % 8) (length-append done b1) in
        first_few d i (length done % 8) m done b1 b2 cut (laws.sequence d k i (length done) parts before after
        (behind d i from v done) b1 _ ts is at split (fits_behind d i (drop from done) v width fits) h
        (stands_at d _ _ _ place outer))
    rest_stands {i = i} {done = done} (inside_turns {count = count} {v = v} k start at turn order empty ready was
        turns inner) width within (rest_next b1 b2 first others cut made (completes_turns ts h ws leave) o) =
        let outer = rest_stands inner (times_width d at) within.1 o in
        let place : length (done ++ b1) % 8 ≡ (length done + length b1) % 8 = ap (λ k. k % 8) (length-append done b1) in
        first_few d i (length done % 8) m done b1 b2 cut
        (laws.turns d k i (length done) _ count v b1 _ ts is at ready.widths h (stands_at d _ _ _ place outer))
    rest_stands {i = i} {done = done} (inside_free {v = v} k start at so_far order ready was turns inner) width within
        (rest_next b1 b2 first others cut made (completes_free ts h ws leave) o) =
        let outer = rest_stands inner (many_width d at) within.1 o in
        let place : length (done ++ b1) % 8 ≡ (length done + length b1) % 8 = ap (λ k. k % 8) (length-append done b1) in
        first_few d i (length done % 8) m done b1 b2 cut (laws.free d k i (length done) v b1 _ ts is at ready.widths h (stands_at d _ _ _ place outer))
    rest_stands {i = i} {from} {done = done}
        (inside_lead {after = after} {v = v} k start v0 parts before at split so_far order fits formed ready inner)
        width within (rest_next b1 b2 first others cut made (completes_lead_behind ts h ws leave) o) =
        let outer = rest_stands inner (truncation_width d at) within.1 o in
        let place : length (done ++ b1) % 8 ≡ (length done + length b1) % 8 = ap (λ k. k % 8) (length-append done b1) in
        first_few d i (length done % 8) m done b1 b2 cut (laws.truncation d k i (length done) parts before after
        (behind d i from v done) b1 _ ts is at split (fits_behind d i (drop from done) v width fits) h
        (stands_at d _ _ _ place outer))
    rest_stands {i = i} {from} {done = done}
        (inside_lead {after = after} {v = v} k start v0 parts before at split so_far order fits formed ready inner)
        width within (rest_next b1 b2 first others cut made (completes_cut_behind some none leave) o) =
        let outer = rest_stands inner (truncation_width d at) within.1 o in
        outer_on i m done b1 b2 cut none (laws.truncation_last d k i (length (done ++ b1) % 8) parts before after _ at split outer)

    -- of bits that can be followed
    pub goes_stands : {fresh : Option ℕ} {stack : List Left} {i from : ℕ} {v : Values} {done b : List ℕ}
        → Inside d fresh stack i from v → HasWidth d i (drop from done) → Within stack m → Goes d stack done b
        → MayStandBehind d i (length done % 8) (take (m - length done) b)
    goes_stands {i = i} {done = done} (inside_none stale root start sees) width within (goes_end none) =
        few_of d i (length done % 8) (m - length done) _ (no_stand i (length done % 8) _ none)
    goes_stands {i = i} {done = done} (inside_choice k j parts at here ready inner) width within (goes_next b1 b2 first cut (completes_none none leave) o) =
        let outer = laws.alternative d k j i (length (done ++ b1) % 8) parts _ at here (goes_stands inner (choice_width d at) within.1 o) in
        outer_on i m done b1 b2 cut none outer
    goes_stands {i = i} {done = done} (inside_choice k j parts at here ready inner) width within
        (goes_here (begins_whole moves (completes_none none leave)) room) =
        few_of d i (length done % 8) (m - length done) _ (no_stand i (length done % 8) _ none)
    goes_stands {i = i} {from} {done = done} (inside_label {label = label} k at ready inner) width within
        (goes_next b1 b2 first cut (completes_none none leave) o) =
        let same : drop from done ≡ drop from (done ++ b1) = ap (λ l. drop from l) (sym (append-nil done) ∙ ap (λ l. done ++ l) (sym none)) in
        let outer = laws.label d k i (length (done ++ b1) % 8) label _ at (goes_stands inner (label_width d at (width_along d same width)) within.1 o) in
        outer_on i m done b1 b2 cut none outer
    goes_stands {i = i} {done = done} (inside_label k at ready inner) width within (goes_here (begins_whole moves (completes_none none leave)) room) =
        few_of d i (length done % 8) (m - length done) _ (no_stand i (length done % 8) _ none)
    goes_stands {i = i} {done = done} (inside_window {end = end} k n at counts ends ready inner) width within
        (goes_next b1 b2 first cut (completes_window none place leave) o) =
        window_behind i m end done _ place within.0
    goes_stands {i = i} {done = done} (inside_window {end = end} k n at counts ends ready inner) width within (goes_here (begins_window none place) room) =
        few_of d i (length done % 8) (m - length done) _ (no_stand i (length done % 8) _ none)
    goes_stands {i = i} {done = done} (inside_window {end = end} k n at counts ends ready inner) width within
        (goes_here (begins_whole moves (completes_window none place leave)) room) =
        few_of d i (length done % 8) (m - length done) _ (no_stand i (length done % 8) _ none)
    goes_stands {i = i} {from} {done = done} (inside_parts {after = after} {v = v} k start v0 parts before at split
        so_far order empty fits formed ready inner) width within
        (goes_next b1 b2 first cut (completes_parts ts h ws leave) o) =
        let outer = goes_stands inner (sequence_width d at) within.1 o in
        let place : length (done ++ b1) % 8 ≡ (length done + length b1) % 8 = ap (λ k. k % 8) (length-append done b1) in
        first_few d i (length done % 8) m done b1 b2 cut (laws.sequence d k i (length done) parts before after
        (behind d i from v done) b1 _ ts is at split (fits_behind d i (drop from done) v width fits) h
        (stands_at d _ _ _ place outer))
    goes_stands {i = i} {from} {done = done} (inside_parts {after = after} {v = v} k start v0 parts before at split
        so_far order empty fits formed ready inner) width within (goes_here (begins_parts f) room) =
        few_of d i (length done % 8) (m - length done) _ (laws.sequence_followed d k i (length done)
        parts before after (behind d i from v done) _ is at split (fits_behind d i (drop from done) v width fits)
        f)
    goes_stands {i = i} {from} {done = done} {b = b}
        (inside_parts {after = after} {v = v} k start v0 parts before at split so_far order empty fits formed ready
        inner) width within (goes_here (begins_whole moves (completes_parts ts h ws leave)) room) =
        let outer = no_stand k ((length done + length b) % 8) [] refl in
        few_of d i (length done % 8) (m - length done) b
        (alone i b (laws.sequence d k i (length done) parts before after (behind d i from v done)
        b [] ts is at split (fits_behind d i (drop from done) v width fits) h outer))
    goes_stands {i = i} {done = done} (inside_turns {count = count} {v = v} k start at turn order empty ready was
        turns inner) width within (goes_next b1 b2 first cut (completes_turns ts h ws leave) o) =
        let outer = goes_stands inner (times_width d at) within.1 o in
        let place : length (done ++ b1) % 8 ≡ (length done + length b1) % 8 = ap (λ k. k % 8) (length-append done b1) in
        first_few d i (length done % 8) m done b1 b2 cut
        (laws.turns d k i (length done) _ count v b1 _ ts is at ready.widths h (stands_at d _ _ _ place outer))
    goes_stands {i = i} {done = done} (inside_turns {count = count} {v = v} k start at turn order empty ready was
        turns inner) width within (goes_here (begins_turns f) room) =
        few_of d i (length done % 8) (m - length done) _ (laws.turns_followed d k i (length done) _ count v _ is at ready.widths f)
    goes_stands {i = i} {done = done} {b = b} (inside_turns {count = count} {v = v} k start at turn order empty ready
        was turns inner) width within (goes_here (begins_whole moves (completes_turns ts h ws leave)) room) =
        let outer = no_stand k ((length done + length b) % 8) [] refl in
        few_of d i (length done % 8) (m - length done) b (alone i b (laws.turns d k i (length done) _ count v b [] ts is at ready.widths h outer))
    goes_stands {i = i} {done = done} (inside_free {v = v} k start at so_far order ready was turns inner) width within
        (goes_next b1 b2 first cut (completes_free ts h ws leave) o) =
        let outer = goes_stands inner (many_width d at) within.1 o in
        let place : length (done ++ b1) % 8 ≡ (length done + length b1) % 8 = ap (λ k. k % 8) (length-append done b1) in
        first_few d i (length done % 8) m done b1 b2 cut (laws.free d k i (length done) v b1 _ ts is at ready.widths h (stands_at d _ _ _ place outer))
    goes_stands {i = i} {done = done} (inside_free {v = v} k start at so_far order ready was turns inner) width within (goes_here (begins_free f) room) =
        few_of d i (length done % 8) (m - length done) _ (laws.free_followed d k i (length done) v _ is at ready.widths f)
    goes_stands {i = i} {done = done} {b = b} (inside_free {v = v} k start at so_far order ready was turns inner)
        width within (goes_here (begins_whole moves (completes_free ts h ws leave)) room) =
        let outer = no_stand k ((length done + length b) % 8) [] refl in
        few_of d i (length done % 8) (m - length done) b (alone i b (laws.free d k i (length done) v b [] ts is at ready.widths h outer))
    goes_stands {i = i} {from} {done = done}
        (inside_lead {after = after} {v = v} k start v0 parts before at split so_far order fits formed ready inner)
        width within (goes_next b1 b2 first cut (completes_lead_behind ts h ws leave) o) =
        let outer = goes_stands inner (truncation_width d at) within.1 o in
        let place : length (done ++ b1) % 8 ≡ (length done + length b1) % 8 = ap (λ k. k % 8) (length-append done b1) in
        first_few d i (length done % 8) m done b1 b2 cut (laws.truncation d k i (length done) parts before after
        (behind d i from v done) b1 _ ts is at split (fits_behind d i (drop from done) v width fits) h
        (stands_at d _ _ _ place outer))
    goes_stands {i = i} {from} {done = done}
        (inside_lead {after = after} {v = v} k start v0 parts before at split so_far order fits formed ready inner)
        width within (goes_next b1 b2 first cut (completes_cut_behind some none leave) o) =
        let outer = goes_stands inner (truncation_width d at) within.1 o in
        outer_on i m done b1 b2 cut none (laws.truncation_last d k i (length (done ++ b1) % 8) parts before after _ at split outer)
    goes_stands {i = i} {from} {done = done}
        (inside_lead {after = after} {v = v} k start v0 parts before at split so_far order fits formed ready inner)
        width within (goes_here (begins_lead f) room) =
        few_of d i (length done % 8) (m - length done) _ (laws.truncation_followed d k i (length done)
        parts before after (behind d i from v done) _ is at split (fits_behind d i (drop from done) v width fits)
        f)
    goes_stands {i = i} {done = done} (inside_lead k start v0 parts before at split so_far order fits formed ready
        inner) width within (goes_here (begins_lead_none none) room) =
        few_of d i (length done % 8) (m - length done) _ (no_stand i (length done % 8) _ none)
    goes_stands {i = i} {from} {done = done} {b = b}
        (inside_lead {after = after} {v = v} k start v0 parts before at split so_far order fits formed ready inner)
        width within (goes_here (begins_whole moves (completes_lead_behind ts h ws leave)) room) =
        let outer = no_stand k ((length done + length b) % 8) [] refl in
        few_of d i (length done % 8) (m - length done) b
        (alone i b (laws.truncation d k i (length done) parts before after (behind d i from v done)
        b [] ts is at split (fits_behind d i (drop from done) v width fits) h outer))
    goes_stands {i = i} {done = done} (inside_lead k start v0 parts before at split so_far order fits formed ready
        inner) width within (goes_here (begins_whole moves (completes_cut_behind some none leave)) room) =
        few_of d i (length done % 8) (m - length done) _ (no_stand i (length done % 8) _ none)
