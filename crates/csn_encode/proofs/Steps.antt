-- What becomes of a draft at a node, part by part.
use Rattle.std.proofs.Common.{◌≡◌, ℕ, suc, ◌+◌, ◌-◌, ◌*◌, ◌<◌, ◌≤◌, ◌⊎◌, inl, inr, Bool, true, false, if◌then◌else◌}
use Rattle.std.proofs.Common.{List, [], ◌∷◌, ◌++◌, length, length-append, take, drop, take_all, append_assoc}
use Rattle.std.proofs.Common.{append-nil, refl, sym, ◌∙◌, ap, subst, arith, Some, slice_get}
use Rattle.std.specs.Prelude.{IsTrue}
use Rattle.csn_bits.specs.Octets.{most_bits}
use Rattle.csn_bits.specs.Numbers.{number_of}
use Rattle.csn_desc.specs.declared.node.Count.{Count}
use Rattle.csn_desc.specs.declared.node.Node.{Node}
use Rattle.csn_desc.specs.declared.node.Node.TheVariants.{Field, Seq, Choice, Times, Many, Trunc, Window, Named}
use Rattle.csn_desc.specs.TreeV.{TreeV, row, alt, named, trees_of}
use Rattle.csn_desc.specs.Nodes.{DescV, parts_of}
use Rattle.csn_desc.specs.Values.{Values, count_of, with_value}
use Rattle.csn_desc.specs.Means.{NMeans, NodeMeans, means_at, means_seq, means_choice, means_times, means_many}
use Rattle.csn_desc.specs.Means.{means_window, means_named, TimesMean, times_end, times_next}
use Rattle.csn_desc.specs.Formed.{is_counted, shows_earlier, Formed, PartsFormed, formed, IsDescription}
use Rattle.std.proofs.lemmas.Option.{slice_get_within}
use Rattle.std.proofs.lemmas.List.{take_at, drop_at, take-append-le}
use Rattle.csn_desc.proofs.ValuesKept.{fits_kept}
use Rattle.csn_certify.specs.CountedValues.{fields_of}
use Rattle.csn_certify.proofs.CountedValues.{has_number, formed_head, fields_behind}
use Rattle.csn_encode.specs.declared.misfit.MisfitWhy.{MisfitWhy}
use Rattle.csn_encode.specs.declared.misfit.MisfitWhy.TheVariants.{WrongLabel, WrongCount, NoSuchAlternative, WindowLength}
use Rattle.csn_certify.specs.declared.numbers.Number.{Number}
use Rattle.csn_encode.specs.declared.draft.Draft.{Draft}
use Rattle.csn_encode.specs.Misfits.{kept_count, HavePieces, pieces_end, pieces_next, MissesNode, wrong_seq}
use Rattle.csn_encode.specs.Misfits.{wrong_times, wrong_trunc, idle_trunc, wrong_window, no_alternative, wrong_label}
use Rattle.csn_encode.specs.Misfits.{Misses, misses_at, MissesIn, misses_here, misses_named, misses_choice}
use Rattle.csn_encode.specs.Misfits.{misses_window, misses_seq, misses_trunc, misses_times, misses_many, MissesParts}
use Rattle.csn_encode.specs.Misfits.{parts_here, parts_later, MissesRepeats, repeats_here, repeats_later}
use Rattle.csn_certify.specs.KeptNumbers.{KeepsCount}
use Rattle.csn_encode.specs.Writing.{joined, IsReady, Stands, StandsAtPart, StandsAtParts, Added, Missed, AddsNode}
use Rattle.csn_encode.specs.Writing.{StopsAtNode, Adds, StopsAt, MissesBelow, AddsParts}
use Rattle.csn_desc.proofs.Nodewise.{parts_formed, first_formed, rest_formed, choice_formed}
use Rattle.csn_certify.proofs.KeptNumbers.{number_room}
use Rattle.csn_encode.proofs.Counting.{counted_few, numbers_behind, formed_few}
use Rattle.csn_encode.proofs.Rows.{drop_here, nothing_behind, joined-append, kept_behind, pieces_count, pieces_parts}
use Rattle.csn_encode.proofs.Rows.{pieces_trunc, times_many, times_as, count-trees_of}

-- ---- of any meaning

pub added_as : {P Q : List ℕ → Type 0} {old new : Draft} → ((b : List ℕ) → P b → Q b) → Added P old new → Added Q old new
added_as by h = record { added = h.added; meant = by h.added h.meant; bits = h.bits; within = h.within; path = h.path; numbers = h.numbers }

pub missed_as : {P Q : List ℕ → MisfitWhy → Type 0} {old new : Draft} {why : MisfitWhy}
    → ((path : List ℕ) (why : MisfitWhy) → P path why → Q path why) → Missed P old new why → Missed Q old new why
missed_as {why = why} by h = record { below = h.below; misfit = by h.below why h.misfit; path = h.path }

pub added_only : {P Q : List ℕ → Type 0} {old new : Draft} → (h : Added P old new) → Q h.added → Added Q old new
added_only h m = record { added = h.added; meant = m; bits = h.bits; within = h.within; path = h.path; numbers = h.numbers }

-- the misfit is at the node where the draft stands
pub missed_here : {P : List ℕ → MisfitWhy → Type 0} {old new : Draft} {why : MisfitWhy} → P [] why → new.path ≡ old.path → Missed P old new why
missed_here {old = old} h same = record { below = []; misfit = h; path = same ∙ sym (append-nil old.path) }

module _ (d : DescV) where
  pub node_adds : {i : ℕ} {n : Node} {v : Values} {t : TreeV} {old new : Draft} → slice_get d.nodes i ≡ Some n
      → AddsNode d n v t old new → Adds d i v t old new
  node_adds {n = n} at h = added_as (λ b m. means_at n at m) h

  pub node_misses : {i : ℕ} {n : Node} {v : Values} {t : TreeV} {old new : Draft} {why : MisfitWhy}
      → slice_get d.nodes i ≡ Some n → StopsAtNode d n v t old new why → StopsAt d i v t old new why
  node_misses {n = n} at h = missed_as (λ path reason m. misses_at n at m) h

  -- ---- where the draft stands

  pub stands_at_part : {i part round : ℕ} {v : Values} {draft : Draft} (n : Node) → slice_get d.nodes i ≡ Some n
      → parts_of n ≡ part ∷ [] → Stands d i round v draft → StandsAtPart d part round v draft
  stands_at_part {round = round} {v = v} n at one s =
      let P : List ℕ → Type 0 = λ l. PartsFormed d.nodes (shows_earlier n) (fields_of v) (suc round) l in
      record { ready = s.ready; is_formed = first_formed d.nodes (subst P one (parts_formed d.nodes at s.is_formed)) }

  pub stands_at_parts : {i round : ℕ} {shows : Bool} {parts : List ℕ} {v : Values} {draft : Draft} (n : Node)
      → slice_get d.nodes i ≡ Some n → parts_of n ≡ parts → shows_earlier n ≡ shows → Stands d i round v draft
      → StandsAtParts d shows parts round v draft
  stands_at_parts {round = round} {shows = shows} {v = v} n at all shown s =
      let P : List ℕ → Type 0 = λ l. PartsFormed d.nodes (shows_earlier n) (fields_of v) (suc round) l in
      let Q : Bool → Type 0 = λ b. PartsFormed d.nodes b (fields_of v) (suc round) (parts_of n) in
      let R : List ℕ → Type 0 = λ l. PartsFormed d.nodes shows (fields_of v) (suc round) l in
      record { ready = s.ready; are_formed = subst R all (subst Q shown (parts_formed d.nodes at s.is_formed)) }

  -- one node further in, with the step to the part or without it
  formed_inside : {seen : List ℕ} {round i : ℕ} → Formed d.nodes seen (suc round) i → Formed d.nodes seen (round + 1) i
  formed_inside {seen = seen} {round = round} {i = i} h =
      let e : suc round ≡ round + 1 = omega arith in
      let P : ℕ → Type 0 = λ k. Formed d.nodes seen k i in
      subst P e h

  few_inside : {seen : List ℕ} {round i : ℕ} → Formed d.nodes seen (suc round) i → round + 1 < 64
  few_inside h = let few = formed_few d h in omega (arith, few)

  -- the draft is ready where a node more or none was written, and what counts stand on is as it was
  ready_on : {round : ℕ} {v : Values} {old new : Draft} (next : ℕ) → IsReady d round v old → next < 64
      → new.numbers.items ≡ old.numbers.items → length new.path ≤ next → length new.bits ≤ most_bits
      → IsReady d next v new
  ready_on next r few numbers steps within =
      record {
        description = r.description;
        certified = r.certified;
        widths = r.widths;
        numbers = numbers ∙ r.numbers;
        steps = steps;
        few = few;
        within = within;
      }

  pub stands_inside : {i round : ℕ} {v : Values} {old new : Draft} (step : ℕ) → StandsAtPart d i round v old
      → new.bits ≡ old.bits → new.numbers.items ≡ old.numbers.items → new.path ≡ old.path ++ step ∷ []
      → Stands d i (round + 1) v new
  stands_inside {round = round} {old = old} step s bits numbers path =
      let long = ap length path ∙ length-append old.path (step ∷ []) in
      let size = ap length bits in
      record {
        ready = ready_on (round + 1) s.ready (few_inside s.is_formed) numbers (omega (arith, long, s.ready.steps)) (omega (arith, size, s.ready.within));
        is_formed = formed_inside s.is_formed;
      }

  pub stands_in_window : {i round : ℕ} {v : Values} {draft : Draft} → StandsAtPart d i round v draft → Stands d i (round + 1) v draft
  stands_in_window {round = round} s =
      record {
        ready = ready_on (round + 1) s.ready (few_inside s.is_formed) refl (omega (arith, s.ready.steps)) s.ready.within;
        is_formed = formed_inside s.is_formed;
      }

  pub some_in_window : {i round : ℕ} {draft : Draft} → ((v : Values) × StandsAtPart d i round v draft) → (v : Values) × Stands d i (round + 1) v draft
  some_in_window (v, s) = (v, stands_in_window s)

  -- ---- below a step

  pub adds_below : {i : ℕ} {v : Values} {t : TreeV} {old stepped written new : Draft} (step : ℕ)
      → stepped.bits ≡ old.bits → stepped.numbers.items ≡ old.numbers.items → stepped.path ≡ old.path ++ step ∷ []
      → Adds d i v t stepped written → new.bits ≡ written.bits → new.numbers.items ≡ written.numbers.items
      → new.path ≡ take (length written.path - 1) written.path
      → Adds d i v t old new
  adds_below {i = i} {v = v} {t = t} {old = old} {stepped = stepped} {written = written} {new = new} step bits numbers path h bits2 numbers2 path2 =
      let P : ℕ → Type 0 = λ o. NMeans d i o v h.added t in
      let size = ap length bits2 in
      let long : length written.path ≡ length old.path + 1 = ap length (h.path ∙ path) ∙ length-append old.path (step ∷ []) in
      let count : length written.path - 1 ≡ length old.path = omega (arith, long) in
      record {
        added = h.added;
        meant = subst P (ap length bits) h.meant;
        bits = bits2 ∙ h.bits ∙ ap (λ l. l ++ h.added) bits;
        within = omega (arith, size, h.within);
        path = path2 ∙ ap (λ n. take n written.path) count ∙ ap (λ l. take (length old.path) l) (h.path ∙ path)
            ∙ take_at old.path (step ∷ []) (length old.path) refl;
        numbers = numbers2 ∙ h.numbers ∙ numbers;
      }

  pub misses_below : {i : ℕ} {v : Values} {t : TreeV} {old stepped new : Draft} {step : ℕ} {why : MisfitWhy}
      → stepped.bits ≡ old.bits → stepped.path ≡ old.path ++ step ∷ [] → StopsAt d i v t stepped new why
      → MissesBelow d step i v t old new why
  misses_below {i = i} {v = v} {t = t} {old = old} {step = step} {why = why} bits path h =
      let P : ℕ → Type 0 = λ o. Misses d i o v t h.below why in
      record {
        below = step ∷ h.below;
        misfit = (h.below, refl, subst P (ap length bits) h.misfit);
        path = h.path ∙ ap (λ l. l ++ h.below) path ∙ append_assoc old.path (step ∷ []) h.below;
      }

  -- ---- parts one after another

  -- the numbers from before stay in front
  front_kept : (c : Bool) (l xs m : List Number) (x : Number) → m ≡ (if c then l ++ x ∷ [] else l) → take (length xs) l ≡ xs → length xs ≤ length l
      → (take (length xs) m ≡ xs) × (length xs ≤ length m)
  front_kept true l xs m x is front least =
      let long = ap length is ∙ length-append l (x ∷ []) in
      (ap (λ k. take (length xs) k) is ∙ take-append-le (length xs) l (x ∷ []) least ∙ front, omega (arith, least, long))
  front_kept false l xs m x is front least = (ap (λ k. take (length xs) k) is ∙ front, omega (arith, least, ap length is))

  own_number : (c : Bool) (part : ℕ) (l m : List Number) (b bits : List ℕ) (from : ℕ) → drop from bits ≡ b
      → m ≡ (if c then l ++ record { field = part; value = number_of (drop from bits) } ∷ [] else l)
      → m ≡ (if c then l ++ record { field = part; value = number_of b } ∷ [] else l)
  own_number c part l m b bits from own is = is ∙ ap (λ w. if c then l ++ record { field = part; value = number_of w } ∷ [] else l) own

  sized : (before after added at kept kept2 : ℕ) → ((before < after) × (kept2 ≡ at + 1)) ⊎ ((after ≤ before) × (kept2 ≡ kept)) → after ≡ before + added
      → ((0 < added) × (kept2 ≡ at + 1)) ⊎ ((added ≡ 0) × (kept2 ≡ kept))
  sized before after added at kept kept2 (inl some) size = inl (omega (arith, some.0, size), some.1)
  sized before after added at kept kept2 (inr empty) size = inr (omega (arith, empty.0, size), empty.1)

  -- a part more before pieces, and before a part that misses
  have_before : (parts : List ℕ) (rows : List TreeV) (at part o next : ℕ) (t : TreeV) (v : Values) (b : List ℕ) (later : List (List ℕ))
      → slice_get parts at ≡ Some part → slice_get rows at ≡ Some t → next ≡ o + length b → next ≤ most_bits → NMeans d part o v b t
      → HavePieces d (drop (at + 1) parts) next (with_value d.nodes part b v) (trees_of (drop (at + 1) rows)) later
      → HavePieces d (drop at parts) o v (trees_of (drop at rows)) (b ∷ later)
  have_before parts rows at part o next t v b later here there size within h hs =
      let P : List ℕ → Type 0 = λ l. HavePieces d l o v (trees_of (drop at rows)) (b ∷ later) in
      let Q : List TreeV → Type 0 = λ l. HavePieces d (part ∷ drop (at + 1) parts) o v (trees_of l) (b ∷ later) in
      let R : ℕ → Type 0 = λ k. HavePieces d (drop (at + 1) parts) k (with_value d.nodes part b v) (trees_of (drop (at + 1) rows)) later in
      subst P (sym (drop_here parts at part here)) (subst Q (sym (drop_here rows at t there))
      (pieces_next b later refl h (omega (arith, size, within)) (subst R size hs)))

  miss_before : (parts : List ℕ) (rows : List TreeV) (at part o next : ℕ) (t : TreeV) (v : Values) (b path : List ℕ) (why : MisfitWhy)
      → slice_get parts at ≡ Some part → slice_get rows at ≡ Some t → next ≡ o + length b → next ≤ most_bits → NMeans d part o v b t
      → MissesParts d (drop (at + 1) parts) (at + 1) next (with_value d.nodes part b v) (trees_of (drop (at + 1) rows)) path why
      → MissesParts d (drop at parts) at o v (trees_of (drop at rows)) path why
  miss_before parts rows at part o next t v b path why here there size within h hs =
      let P : List ℕ → Type 0 = λ l. MissesParts d l at o v (trees_of (drop at rows)) path why in
      let Q : List TreeV → Type 0 = λ l. MissesParts d (part ∷ drop (at + 1) parts) at o v (trees_of l) path why in
      let R : ℕ → Type 0 = λ k. MissesParts d (drop (at + 1) parts) (at + 1) k (with_value d.nodes part b v) (trees_of (drop (at + 1) rows)) path why in
      let S : ℕ → Type 0 = λ k. MissesParts d (drop (at + 1) parts) k (o + length b) (with_value d.nodes part b v) (trees_of (drop (at + 1) rows)) path why in
      let one : at + 1 ≡ suc at = omega arith in
      subst P (sym (drop_here parts at part here)) (subst Q (sym (drop_here rows at t there))
      (parts_later b h (omega (arith, size, within)) (subst S one (subst R size hs))))

  module _ (parts : List ℕ) (rows : List TreeV) (round : ℕ) where
    -- the first `at` parts are written, and are `kept` without those at the end that have no bits
    pub record PartsDone (v : Values) (old : Draft) (at kept : ℕ) (new : Draft) : Type 0 where
      pub now : Values
      pub pieces : List (List ℕ)
      pub bits : new.bits ≡ old.bits ++ joined pieces
      pub kept_is : kept ≡ kept_count pieces
      pub count : at ≡ length pieces
      pub path : new.path ≡ old.path
      pub front : take (length old.numbers.items) new.numbers.items ≡ old.numbers.items
      pub longer : length old.numbers.items ≤ length new.numbers.items
      pub ready : IsReady d round now new
      pub are_formed : PartsFormed d.nodes true (fields_of now) (suc round) (drop at parts)
      pub have : (later : List (List ℕ))
          → HavePieces d (drop at parts) (length new.bits) now (trees_of (drop at rows)) later
          → HavePieces d parts (length old.bits) v (trees_of rows) (pieces ++ later)
      pub miss : (path : List ℕ) (why : MisfitWhy)
          → MissesParts d (drop at parts) at (length new.bits) now (trees_of (drop at rows)) path why
          → MissesParts d parts 0 (length old.bits) v (trees_of rows) path why

    pub parts_begin : {v : Values} {old : Draft} → StandsAtParts d true parts round v old → PartsDone v old 0 0 old
    parts_begin {v = v} {old = old} s =
        record {
          now = v;
          pieces = [];
          bits = sym (append-nil old.bits);
          kept_is = refl;
          count = refl;
          path = refl;
          front = take_all (length old.numbers.items) old.numbers.items (omega arith);
          longer = omega arith;
          ready = s.ready;
          are_formed = s.are_formed;
          have = λ later h. h;
          miss = λ path why h. h;
        }

    -- the part that is next
    pub part_stands : {v : Values} {old new : Draft} {at kept part : ℕ} → (done : PartsDone v old at kept new)
        → slice_get parts at ≡ Some part → StandsAtPart d part round done.now new
    part_stands {at = at} {part = part} done here =
        let P : List ℕ → Type 0 = λ l. PartsFormed d.nodes true (fields_of done.now) (suc round) l in
        record { ready = done.ready; is_formed = first_formed d.nodes (subst P (drop_here parts at part here) done.are_formed) }

    pub part_misses : {v : Values} {old new next : Draft} {at kept part : ℕ} {t : TreeV} {why : MisfitWhy}
        → (done : PartsDone v old at kept new) → slice_get parts at ≡ Some part → slice_get rows at ≡ Some t
        → MissesBelow d at part done.now t new next why
        → Missed (λ path reason. MissesParts d parts 0 (length old.bits) v (trees_of rows) path reason)
        old next why
    part_misses {new = new} {at = at} {part = part} {t = t} {why = why} done here there h =
        let P : List ℕ → Type 0 = λ l. MissesParts d l at (length new.bits) done.now (trees_of (drop at rows)) h.below why in
        let Q : List TreeV → Type 0 = λ l. MissesParts d (part ∷ drop (at + 1) parts) at (length new.bits) done.now (trees_of l) h.below why in
        record {
          below = h.below;
          misfit = done.miss h.below why (subst P (sym (drop_here parts at part here))
              (subst Q (sym (drop_here rows at t there)) (parts_here h.misfit.0 h.misfit.1 h.misfit.2)));
          path = h.path ∙ ap (λ l. l ++ h.below) done.path;
        }

    -- a part more is written, and its number is kept where counts stand on it
    pub parts_more : {v : Values} {old new written next : Draft} {at kept kept2 part : ℕ} {t : TreeV} (from : ℕ)
        → from ≡ length new.bits → (done : PartsDone v old at kept new) → slice_get parts at ≡ Some part
        → slice_get rows at ≡ Some t
        → (h : Adds d part done.now t new written) → next.bits ≡ written.bits → next.path ≡ written.path
        → next.numbers.items ≡ (if is_counted d.nodes part then written.numbers.items ++ record {
          field =
              part;
          value = number_of (drop from written.bits);
        } ∷ [] else written.numbers.items)
        → ((length new.bits < length next.bits) × (kept2 ≡ at + 1)) ⊎ ((length next.bits ≤ length new.bits) × (kept2 ≡ kept))
        → PartsDone v old (at + 1) kept2 next
    parts_more {v = v} {old = old} {new = new} {written = written} {next = next} {at = at} {kept = kept}
        {kept2 = kept2} {part = part} {t = t} from begins done here there h bits path numbers which =
        let r = done.ready in
        let behind : Values = with_value d.nodes part h.added done.now in
        let all : next.bits ≡ new.bits ++ h.added = bits ∙ h.bits in
        let size : length next.bits ≡ length new.bits + length h.added = ap length all ∙ length-append new.bits h.added in
        let within : length next.bits ≤ most_bits = omega (arith, ap length bits, h.within) in
        let own : drop from written.bits ≡ h.added = ap (λ n. drop n written.bits) begins
        ∙ ap (λ l. drop (length new.bits) l) h.bits ∙ drop_at new.bits h.added (length new.bits) refl in
        let kept_numbers : next.numbers.items ≡ (if is_counted d.nodes part then new.numbers.items ++ record {
          field =
              part;
          value = number_of h.added;
        } ∷ [] else new.numbers.items) =
        own_number (is_counted d.nodes part) part written.numbers.items next.numbers.items h.added written.bits from own numbers
        ∙ ap (λ l. if is_counted d.nodes part then l ++ record { field = part; value = number_of h.added } ∷ [] else l) h.numbers in
        let front = front_kept (is_counted d.nodes part) new.numbers.items old.numbers.items next.numbers.items
        (record { field = part; value = number_of h.added }) kept_numbers done.front done.longer in
        let P : List ℕ → Type 0 = λ l. PartsFormed d.nodes true (fields_of done.now) (suc round) l in
        let R : List ℕ → Type 0 = λ l. PartsFormed d.nodes true l (suc round) (drop (at + 1) parts) in
        record {
          now = behind;
          pieces = done.pieces ++ h.added ∷ [];
          bits = all ∙ ap (λ l. l ++ h.added) done.bits ∙ append_assoc old.bits (joined done.pieces) h.added
              ∙ ap (λ l. old.bits ++ l) (sym (joined-append done.pieces h.added));
          kept_is = kept_behind done.pieces h.added kept kept2 at done.kept_is done.count
              (sized (length new.bits) (length next.bits) (length h.added) at kept kept2 which size);
          count = ap (λ n. n + 1) done.count ∙ sym (length-append done.pieces (h.added ∷ []));
          path = path ∙ h.path ∙ done.path;
          front = front.0;
          longer = front.1;
          ready =
              record {
                description = r.description;
                certified = r.certified;
                widths = fits_kept d r.widths h.meant;
                numbers = kept_numbers
                    ∙ ap (λ l. if is_counted d.nodes part then l ++ record { field = part; value = number_of h.added }
                    ∷ [] else l) r.numbers ∙ sym (numbers_behind d r.description part h.added done.now);
                steps = omega (arith, r.steps, ap length (path ∙ h.path));
                few = r.few;
                within = within;
              };
          are_formed = subst R (sym (fields_behind d part h.added done.now)) (rest_formed d.nodes (subst P (drop_here parts at part here) done.are_formed));
          have = λ later hs.
              let S : List (List ℕ) → Type 0 = λ l. HavePieces d parts (length old.bits) v (trees_of rows) l in
              subst S (sym (append_assoc done.pieces (h.added ∷ []) later))
              (done.have (h.added ∷ later) (have_before parts rows at part (length new.bits) (length next.bits)
              t done.now h.added later here there size within h.meant hs));
          miss = λ way why hs. done.miss way why (miss_before parts rows at part (length new.bits) (length next.bits)
              t done.now h.added way why here there size within h.meant hs);
        }

    -- all trees are written
    pub parts_all : {v : Values} {old new next : Draft} {at kept : ℕ} → PartsDone v old at kept new → at ≡ length rows
        → next.bits ≡ new.bits → next.path ≡ new.path
        → next.numbers.items ≡ take (length old.numbers.items) new.numbers.items → AddsParts d parts v (trees_of rows) old next kept
    parts_all {v = v} {old = old} {new = new} {at = at} done last bits path numbers =
        let over : drop at rows ≡ [] = ap (λ n. drop n rows) last ∙ nothing_behind rows in
        let P : List TreeV → Type 0 = λ l. HavePieces d (drop at parts) (length new.bits) done.now (trees_of l) [] in
        let Q : List (List ℕ) → Type 0 = λ l. HavePieces d parts (length old.bits) v (trees_of rows) l in
        record {
          added = joined done.pieces;
          meant = (done.pieces, refl, subst Q (append-nil done.pieces) (done.have [] (subst P (sym over) (pieces_end refl))), done.kept_is);
          bits = bits ∙ done.bits;
          within = omega (arith, ap length bits, done.ready.within);
          path = path ∙ done.path;
          numbers = numbers ∙ done.front;
        }

  -- ---- turns

  module _ (part : ℕ) (rows : List TreeV) (round : ℕ) where
    -- the first `at` turns are written
    pub record TurnsDone (v : Values) (old : Draft) (at : ℕ) (new : Draft) : Type 0 where
      pub added : List ℕ
      pub bits : new.bits ≡ old.bits ++ added
      pub path : new.path ≡ old.path
      pub numbers : new.numbers.items ≡ old.numbers.items
      pub stands : StandsAtPart d part round v new
      pub mean : (n : ℕ) (c : List ℕ) → TimesMean d n part (length new.bits) v c (trees_of (drop at rows))
          → TimesMean d (at + n) part (length old.bits) v (added ++ c) (trees_of rows)
      pub miss : (path : List ℕ) (why : MisfitWhy)
          → MissesRepeats d part at (length new.bits) v (trees_of (drop at rows)) path why
          → MissesRepeats d part 0 (length old.bits) v (trees_of rows) path why

    pub turns_begin : {v : Values} {old : Draft} → StandsAtPart d part round v old → TurnsDone v old 0 old
    turns_begin {v = v} {old = old} s =
        record {
          added = [];
          bits = sym (append-nil old.bits);
          path = refl;
          numbers = refl;
          stands = s;
          mean = λ n c h. times_as d (omega arith) refl h;
          miss = λ path why h. h;
        }

    pub turn_misses : {v : Values} {old new next : Draft} {at : ℕ} {t : TreeV} {why : MisfitWhy} → (done : TurnsDone v old at new) → slice_get rows at ≡ Some t
        → MissesBelow d at part v t new next why → Missed (λ path reason. MissesRepeats d part 0 (length old.bits) v (trees_of rows) path reason) old next why
    turn_misses {v = v} {new = new} {at = at} {t = t} {why = why} done there h =
        let Q : List TreeV → Type 0 = λ l. MissesRepeats d part at (length new.bits) v (trees_of l) h.below why in
        record {
          below = h.below;
          misfit = done.miss h.below why (subst Q (sym (drop_here rows at t there)) (repeats_here h.misfit.0 h.misfit.1 h.misfit.2));
          path = h.path ∙ ap (λ l. l ++ h.below) done.path;
        }

    pub turns_more : {v : Values} {old new next : Draft} {at : ℕ} {t : TreeV} → (done : TurnsDone v old at new)
        → slice_get rows at ≡ Some t → (h : Adds d part v t new next) → TurnsDone v old (at + 1) next
    turns_more {v = v} {old = old} {new = new} {next = next} {at = at} {t = t} done there h =
        let r = done.stands.ready in
        let size : length next.bits ≡ length new.bits + length h.added = ap length h.bits ∙ length-append new.bits h.added in
        let cut = drop_here rows at t there in
        record {
          added = done.added ++ h.added;
          bits = h.bits ∙ ap (λ l. l ++ h.added) done.bits ∙ append_assoc old.bits done.added h.added;
          path = h.path ∙ done.path;
          numbers = h.numbers ∙ done.numbers;
          stands =
              record {
                ready = ready_on round r r.few h.numbers (omega (arith, r.steps, ap length h.path)) h.within;
                is_formed = done.stands.is_formed;
              };
          mean = λ n c hs.
              let P : ℕ → Type 0 = λ k. TimesMean d n part k v c (trees_of (drop (at + 1) rows)) in
              let Q : List TreeV → Type 0 = λ l. TimesMean d (suc n) part (length new.bits) v (h.added ++ c) (trees_of l) in
              times_as d (omega arith) (sym (append_assoc done.added h.added c))
              (done.mean (suc n) (h.added ++ c)
              (subst Q (sym cut) (times_next n refl h.added c refl h.meant (subst P size hs))));
          miss = λ way why hs.
              let P : ℕ → Type 0 = λ k. MissesRepeats d part (at + 1) k v (trees_of (drop (at + 1) rows)) way why in
              let S : ℕ → Type 0 = λ k. MissesRepeats d part k (length new.bits + length h.added) v (trees_of (drop (at + 1) rows)) way why in
              let Q : List TreeV → Type 0 = λ l. MissesRepeats d part at (length new.bits) v (trees_of l) way why in
              let one : at + 1 ≡ suc at = omega arith in
              done.miss way why (subst Q (sym cut) (repeats_later h.added h.meant (omega (arith, size, h.within)) (subst S one (subst P size hs))));
        }

    pub turns_all : {v : Values} {old new : Draft} {at : ℕ} → TurnsDone v old at new → at ≡ length rows
        → Added (λ b. TimesMean d (length rows) part (length old.bits) v b (trees_of rows)) old new
    turns_all {v = v} {new = new} {at = at} done last =
        let over : drop at rows ≡ [] = ap (λ n. drop n rows) last ∙ nothing_behind rows in
        let P : List TreeV → Type 0 = λ l. TimesMean d 0 part (length new.bits) v [] (trees_of l) in
        record {
          added = done.added;
          meant = times_as d (omega (arith, last)) (append-nil done.added) (done.mean 0 [] (subst P (sym over) (times_end refl refl)));
          bits = done.bits;
          within = done.stands.ready.within;
          path = done.path;
          numbers = done.numbers;
        }

  -- ---- the kinds of node

  pub seq_adds : {parts : List ℕ} {v : Values} {t : TreeV} {old new : Draft} {kept : ℕ} (rows : List TreeV)
      → t ≡ row (trees_of rows) → length rows ≡ length parts → AddsParts d parts v (trees_of rows) old new kept
      → AddsNode d (Seq parts) v t old new
  seq_adds {parts = parts} {v = v} {old = old} rows is all h =
      let P : TreeV → Type 0 = λ u. NodeMeans d (Seq parts) (length old.bits) v h.added u in
      let Q : List ℕ → Type 0 = λ b. NodeMeans d (Seq parts) (length old.bits) v b (row (trees_of rows)) in
      added_only h (subst P (sym is) (subst Q (sym h.meant.1) (means_seq (pieces_parts d h.meant.2 (count-trees_of rows ∙ all)))))

  pub seq_misses : {parts : List ℕ} {v : Values} {t : TreeV} {old new : Draft} {why : MisfitWhy} (rows : List TreeV)
      → t ≡ row (trees_of rows) → length rows ≡ length parts
      → Missed (λ path reason. MissesParts d parts 0 (length old.bits) v (trees_of rows) path reason) old new why → StopsAtNode d (Seq parts) v t old new why
  seq_misses {parts = parts} {v = v} {old = old} rows is all h =
      missed_as (λ path reason m. let P : TreeV → Type 0 = λ u. MissesIn d (Seq parts) (length old.bits)
      v u path reason in subst P (sym is) (misses_seq (count-trees_of rows ∙ all) m)) h

  pub seq_wrong : {parts : List ℕ} {v : Values} {t : TreeV} {old : Draft} (rows : List TreeV) (wanted found : ℕ)
      → t ≡ row (trees_of rows) → wanted ≡ length parts → found ≡ length rows → ¬ (found ≡ wanted)
      → StopsAtNode d (Seq parts) v t old old (WrongCount wanted found)
  seq_wrong {parts = parts} {v = v} {old = old} rows wanted found is all many wrong =
      let P : TreeV → Type 0 = λ u. MissesNode d (Seq parts) (length old.bits) v u (WrongCount wanted found) in
      let count = count-trees_of rows in
      missed_here (misses_here refl (subst P (sym is) (wrong_seq (λ same. wrong (many ∙ sym count ∙ same ∙ sym all)) (cc)))) refl

  pub trunc_adds : {parts : List ℕ} {v : Values} {t : TreeV} {old new : Draft} {kept : ℕ} (rows : List TreeV)
      → t ≡ row (trees_of rows) → length rows ≤ kept → AddsParts d parts v (trees_of rows) old new kept
      → AddsNode d (Trunc parts) v t old new
  trunc_adds {parts = parts} {v = v} {old = old} rows is all h =
      let P : TreeV → Type 0 = λ u. NodeMeans d (Trunc parts) (length old.bits) v h.added u in
      let Q : List ℕ → Type 0 = λ b. NodeMeans d (Trunc parts) (length old.bits) v b (row (trees_of rows)) in
      let count = pieces_count d h.meant.2 ∙ count-trees_of rows in
      added_only h (subst P (sym is) (subst Q (sym h.meant.1) (pieces_trunc d h.meant.2 (omega (arith, all, count, h.meant.3)))))

  pub trunc_misses : {parts : List ℕ} {v : Values} {t : TreeV} {old new : Draft} {why : MisfitWhy} (rows : List TreeV)
      → t ≡ row (trees_of rows) → length rows ≤ length parts
      → Missed (λ path reason. MissesParts d parts 0 (length old.bits) v (trees_of rows) path reason) old new why
      → StopsAtNode d (Trunc parts) v t old new why
  trunc_misses {parts = parts} {v = v} {old = old} rows is few h =
      let count = count-trees_of rows in
      missed_as (λ path reason m. let P : TreeV → Type 0 = λ u. MissesIn d (Trunc parts) (length old.bits)
      v u path reason in subst P (sym is) (misses_trunc (omega (arith, few, count)) m)) h

  pub trunc_wrong : {parts : List ℕ} {v : Values} {t : TreeV} {old : Draft} (rows : List TreeV) (wanted found : ℕ)
      → t ≡ row (trees_of rows) → wanted ≡ length parts → found ≡ length rows → wanted < found
      → StopsAtNode d (Trunc parts) v t old old (WrongCount wanted found)
  trunc_wrong {parts = parts} {v = v} {old = old} rows wanted found is all many over =
      let P : TreeV → Type 0 = λ u. MissesNode d (Trunc parts) (length old.bits) v u (WrongCount wanted found) in
      let count = count-trees_of rows in
      missed_here (misses_here refl (subst P (sym is) (wrong_trunc (omega (arith, all, many, over, count)) (cc)))) refl

  pub trunc_idle : {parts : List ℕ} {v : Values} {t : TreeV} {old new : Draft} (rows : List TreeV) (wanted found : ℕ)
      → t ≡ row (trees_of rows) → found ≡ length rows → wanted < found
      → AddsParts d parts v (trees_of rows) old new wanted → StopsAtNode d (Trunc parts) v t old new (WrongCount wanted found)
  trunc_idle {parts = parts} {v = v} {old = old} rows wanted found is many less h =
      let P : TreeV → Type 0 = λ u. MissesNode d (Trunc parts) (length old.bits) v u (WrongCount wanted found) in
      let count : length h.meant.0 ≡ found = pieces_count d h.meant.2 ∙ count-trees_of rows ∙ sym many in
      let kept = h.meant.3 in
      missed_here (misses_here refl (subst P (sym is) (idle_trunc h.meant.0 h.meant.2 (omega (arith, count, kept, less)) (cc)))) h.path

  pub choice_adds : {parts : List ℕ} {i : ℕ} {v : Values} {t : TreeV} {old new : Draft} (j : ℕ) (u : TreeV)
      → t ≡ alt j u → slice_get parts j ≡ Some i → Adds d i v u old new → AddsNode d (Choice parts) v t old new
  choice_adds {parts = parts} {v = v} {old = old} j u is there h =
      added_as (λ b m. let P : TreeV → Type 0 = λ w. NodeMeans d (Choice parts) (length old.bits) v b w in subst P (sym is) (means_choice there m)) h

  pub choice_misses : {parts : List ℕ} {i : ℕ} {v : Values} {t : TreeV} {old new : Draft} {why : MisfitWhy} (j : ℕ)
      (u : TreeV) → t ≡ alt j u → slice_get parts j ≡ Some i → MissesBelow d 0 i v u old new why
      → StopsAtNode d (Choice parts) v t old new why
  choice_misses {parts = parts} {v = v} {old = old} j u is there h =
      missed_as (λ path reason m. let P : TreeV → Type 0 = λ w. MissesIn d (Choice parts) (length old.bits)
      v w path reason in subst P (sym is) (misses_choice m.0 m.1 there m.2)) h

  pub choice_none : {parts : List ℕ} {v : Values} {t : TreeV} {old : Draft} (j : ℕ) (u : TreeV)
      → t ≡ alt j u → length parts ≤ j → StopsAtNode d (Choice parts) v t old old NoSuchAlternative
  choice_none {parts = parts} {v = v} {old = old} j u is few =
      let P : TreeV → Type 0 = λ w. MissesNode d (Choice parts) (length old.bits) v w NoSuchAlternative in
      missed_here (misses_here refl (subst P (sym is) (no_alternative few refl))) refl

  pub named_adds : {label : List ℕ} {i : ℕ} {v : Values} {t : TreeV} {old new : Draft} (other : List ℕ) (u : TreeV)
      → t ≡ named other u → other ≡ label → Adds d i v u old new → AddsNode d (Named label i) v t old new
  named_adds {label = label} {i = i} {v = v} {old = old} other u is same h =
      added_as (λ b m. let P : TreeV → Type 0 = λ w. NodeMeans d (Named label i) (length old.bits) v b w in
      subst P (sym (is ∙ ap (λ l. named l u) same)) (means_named m)) h

  pub named_misses : {label : List ℕ} {i : ℕ} {v : Values} {t : TreeV} {old new : Draft} {why : MisfitWhy}
      (other : List ℕ) (u : TreeV) → t ≡ named other u → other ≡ label → MissesBelow d 0 i v u old new why
      → StopsAtNode d (Named label i) v t old new why
  named_misses {label = label} {i = i} {v = v} {old = old} other u is same h =
      missed_as (λ path reason m. let P : TreeV → Type 0 = λ w. MissesIn d (Named label i) (length old.bits)
      v w path reason in subst P (sym is) (misses_named m.0 m.1 same m.2)) h

  pub named_wrong : {label : List ℕ} {i : ℕ} {v : Values} {t : TreeV} {old : Draft} (other : List ℕ) (u : TreeV)
      → t ≡ named other u → ¬ (other ≡ label) → StopsAtNode d (Named label i) v t old old WrongLabel
  named_wrong {label = label} {i = i} {v = v} {old = old} other u is differ =
      let P : TreeV → Type 0 = λ w. MissesNode d (Named label i) (length old.bits) v w WrongLabel in
      missed_here (misses_here refl (subst P (sym is) (wrong_label differ refl))) refl

  pub times_adds : {count : Count} {i : ℕ} {v : Values} {t : TreeV} {old new : Draft} (rows : List TreeV) (n : ℕ)
      → t ≡ row (trees_of rows) → count_of v count ≡ Some n → length rows ≡ n
      → Added (λ b. TimesMean d (length rows) i (length old.bits) v b (trees_of rows)) old new → AddsNode d (Times count i) v t old new
  times_adds {count = count} {i = i} {v = v} {old = old} rows n is counted all h =
      added_as (λ b m.
      let P : TreeV → Type 0 = λ w. NodeMeans d (Times count i) (length old.bits) v b w in
      subst P (sym is) (means_times n counted (times_as d all refl m))) h

  pub times_misses : {count : Count} {i : ℕ} {v : Values} {t : TreeV} {old new : Draft} {why : MisfitWhy}
      (rows : List TreeV) (n : ℕ) → t ≡ row (trees_of rows) → count_of v count ≡ Some n → length rows ≡ n
      → Missed (λ path reason. MissesRepeats d i 0 (length old.bits) v (trees_of rows) path reason) old new why
      → StopsAtNode d (Times count i) v t old new why
  times_misses {count = count} {i = i} {v = v} {old = old} rows n is counted all h =
      missed_as (λ path reason m. let P : TreeV → Type 0 = λ w. MissesIn d (Times count i) (length old.bits)
      v w path reason in subst P (sym is) (misses_times n counted (count-trees_of rows ∙ all) m)) h

  pub times_wrong : {count : Count} {i : ℕ} {v : Values} {t : TreeV} {old : Draft} (rows : List TreeV)
      (wanted found : ℕ) → t ≡ row (trees_of rows) → count_of v count ≡ Some wanted → found ≡ length rows
      → ¬ (found ≡ wanted)
      → StopsAtNode d (Times count i) v t old old (WrongCount wanted found)
  times_wrong {count = count} {i = i} {v = v} {old = old} rows wanted found is counted many wrong =
      let P : TreeV → Type 0 = λ w. MissesNode d (Times count i) (length old.bits) v w (WrongCount wanted found) in
      let all = count-trees_of rows in
      missed_here (misses_here refl (subst P (sym is) (wrong_times wanted counted (λ same. wrong (many ∙ sym all ∙ same)) (cc)))) refl

  pub many_adds : {i : ℕ} {v : Values} {t : TreeV} {old new : Draft} (rows : List TreeV) → t ≡ row (trees_of rows)
      → ((o : ℕ) (b : List ℕ) (u : TreeV) → NMeans d i o v b u → 0 < length b)
      → Added (λ b. TimesMean d (length rows) i (length old.bits) v b (trees_of rows)) old new → AddsNode d (Many i) v t old new
  many_adds {i = i} {v = v} {old = old} rows is some h =
      added_as (λ b m. let P : TreeV → Type 0 = λ w. NodeMeans d (Many i) (length old.bits) v b w in subst P (sym is) (means_many (times_many d some m))) h

  pub many_misses : {i : ℕ} {v : Values} {t : TreeV} {old new : Draft} {why : MisfitWhy} (rows : List TreeV) → t ≡ row (trees_of rows)
      → Missed (λ path reason. MissesRepeats d i 0 (length old.bits) v (trees_of rows) path reason) old new why → StopsAtNode d (Many i) v t old new why
  many_misses {i = i} {v = v} {old = old} rows is h =
      missed_as (λ path reason m. let P : TreeV → Type 0 = λ w. MissesIn d (Many i) (length old.bits) v w path reason in subst P (sym is) (misses_many m)) h

  pub window_adds : {unit : ℕ} {count : Count} {i : ℕ} {v : Values} {t : TreeV} {old new : Draft} (n wanted : ℕ)
      → count_of v count ≡ Some n → wanted ≡ unit * n → length new.bits - length old.bits ≡ wanted
      → Adds d i v t old new → AddsNode d (Window unit count i) v t old new
  window_adds {old = old} n wanted counted all found h =
      let long = ap length h.bits ∙ length-append old.bits h.added in
      added_only h (means_window n counted (omega (arith, long, found, all)) h.meant)

  pub window_misses : {unit : ℕ} {count : Count} {i : ℕ} {v : Values} {t : TreeV} {old new : Draft} {why : MisfitWhy}
      → StopsAt d i v t old new why → StopsAtNode d (Window unit count i) v t old new why
  window_misses h = missed_as (λ path reason m. misses_window m) h

  pub window_wrong : {unit : ℕ} {count : Count} {i : ℕ} {v : Values} {t : TreeV} {old new : Draft}
      (n wanted found : ℕ) → count_of v count ≡ Some n → wanted ≡ unit * n → found ≡ length new.bits - length old.bits
      → ¬ (found ≡ wanted)
      → Adds d i v t old new → StopsAtNode d (Window unit count i) v t old new (WindowLength wanted found)
  window_wrong {old = old} n wanted found counted all size wrong h =
      let long = ap length h.bits ∙ length-append old.bits h.added in
      let own : length h.added ≡ found = omega (arith, long, size) in
      missed_here (misses_here refl (wrong_window n h.added counted h.meant (omega (arith, long, h.within))
      (λ same. wrong (sym own ∙ same ∙ sym all)) (cc))) h.path

  -- ---- counts, and alternatives

  pub field_keeps : {i round unit : ℕ} {count : Count} {v : Values} {draft : Draft}
      → slice_get d.nodes i ≡ Some (Field unit count)
      → Stands d i round v draft → KeepsCount d v draft.numbers.items count
  field_keeps {i = i} {unit = unit} {count = count} at s =
      let head = formed_head d (Field unit count) at s.is_formed in
      record { kept = s.ready.numbers; has = has_number d i (Field unit count) count s.ready.widths at head.1 (λ field on. on) }

  pub times_keeps : {i round part : ℕ} {count : Count} {v : Values} {draft : Draft}
      → slice_get d.nodes i ≡ Some (Times count part)
      → Stands d i round v draft → KeepsCount d v draft.numbers.items count
  times_keeps {i = i} {part = part} {count = count} at s =
      let head = formed_head d (Times count part) at s.is_formed in
      record { kept = s.ready.numbers; has = has_number d i (Times count part) count s.ready.widths at head (λ field on. on) }

  pub window_keeps : {i round unit part : ℕ} {count : Count} {v : Values} {draft : Draft}
      → slice_get d.nodes i ≡ Some (Window unit count part)
      → Stands d i round v draft → KeepsCount d v draft.numbers.items count
  window_keeps {i = i} {unit = unit} {part = part} {count = count} at s =
      let head = formed_head d (Window unit count part) at s.is_formed in
      record { kept = s.ready.numbers; has = has_number d i (Window unit count part) count s.ready.widths at head.1 (λ field on. on) }

  pub alternative_stands : {parts : List ℕ} {i round : ℕ} {v : Values} {draft : Draft} (j : ℕ)
      → slice_get parts j ≡ Some i → StandsAtParts d false parts round v draft → StandsAtPart d i round v draft
  alternative_stands {i = i} j there s = record { ready = s.ready; is_formed = choice_formed d.nodes j i s.are_formed there }

  -- ---- a part that was written

  pub part_within : {seen : List ℕ} {round i : ℕ} → Formed d.nodes seen round i → i < length d.nodes
  part_within {i = i} (formed n at few head have room parts) = slice_get_within d.nodes i n at

  pub part_behind : {i : ℕ} {v : Values} {t : TreeV} {old new : Draft} (from : ℕ) → from ≡ length old.bits → Adds d i v t old new → from ≤ length new.bits
  part_behind {old = old} from begins h = let long = ap length h.bits ∙ length-append old.bits h.added in omega (arith, long, begins)

  pub part_few : {i : ℕ} {v : Values} {t : TreeV} {old new : Draft} (from : ℕ)
      → from ≡ length old.bits → IsDescription d → Adds d i v t old new → IsTrue (is_counted d.nodes i)
      → length new.bits ≤ from + 16
  part_few {old = old} from begins is h counted =
      let long = ap length h.bits ∙ length-append old.bits h.added in
      let few = counted_few d is counted h.meant in
      omega (arith, long, few, begins)

  pub part_room : {i round : ℕ} {v : Values} {t : TreeV} {old new : Draft} → StandsAtPart d i round v old
      → Adds d i v t old new → IsTrue (is_counted d.nodes i) → length new.numbers.items < 64
  part_room {v = v} s h counted =
      let few = number_room d v s.is_formed counted in
      let same = ap length (h.numbers ∙ s.ready.numbers) in
      omega (arith, few, same)
