-- Turns of the frames of leaves.
use Rattle.std.proofs.Common.{inl, inr, ◌≡◌, ◌⊎◌, ℕ, ◌+◌, ◌<◌, ◌≤◌, nat_lt, Bool, true, false, if◌then◌else◌, List}
use Rattle.std.proofs.Common.{[], ◌∷◌, ◌++◌, length, map, refl, sym, ◌∙◌, ap, subst, arith, append-nil, length-append}
use Rattle.std.proofs.Common.{Option, Some, None, slice_get}
use Rattle.std.proofs.lemmas.Bool.{ltb-true}
use Rattle.std.proofs.lemmas.Option.{slice_get_within}
use Rattle.csn_desc.specs.declared.moves.Move.{Move}
use Rattle.csn_desc.specs.declared.moves.Move.TheVariants.{Bit, Leave}
use Rattle.csn_desc.specs.declared.node.Node.{Node}
use Rattle.csn_desc.specs.declared.node.Node.TheVariants.{Lits, Spare, Pad, Field}
use Rattle.csn_desc.specs.declared.node.Node.TheVariants as kind
use Rattle.csn_desc.specs.Nodes.{DescV}
use Rattle.csn_desc.specs.Values.{is_named}
use Rattle.csn_judge.specs.declared.frame.Frame.{Frame}
use Rattle.csn_judge.specs.declared.frame.Frame.TheVariants as frame
use Rattle.csn_judge.specs.declared.leaf.Leaf.{Leaf}
use Rattle.csn_judge.specs.declared.leaf.Read.TheVariants as read
use Rattle.csn_certify.specs.declared.numbers.Number.{Number}
use Rattle.csn_judge.specs.declared.pace.Pace.{Pace}
use Rattle.csn_judge.specs.declared.turn.Turn.{Turn}
use Rattle.csn_judge.specs.declared.turn.Turn.TheVariants.{Moved, Waits, Refused}
use Rattle.csn_judge.specs.Known.{Known}
use Rattle.csn_judge.specs.Coming.{Coming}
use Rattle.csn_judge.specs.Told.{BitsTold, Tells, tells_none, tells_bit, tells_leave}
use Rattle.csn_judge.specs.Left.{Left, none_left, Completes}
use Rattle.csn_judge.specs.Remains.{Goes, Rest, Passes}
use Rattle.csn_judge.specs.Inside.{IsStack, stack_end, stack_node, AreOwed}
use Rattle.csn_certify.specs.KeptNumbers.{numbers_of}
use Rattle.csn_judge.specs.Shown.{seen_in, limit_in, Round, LeafShows, shows_lits, shows_spare, shows_pad, shows_field, shows_rest, Shows, shows_leaf}
use Rattle.csn_judge.specs.Reads.{MayBeLeft, may_lits, may_spare, may_pad, may_field, may_rest, AtLeaf, Takes, Stays, Keeps, Differs, ReadsLeaf}
use Rattle.csn_judge.specs.Turns.{IsStopped, Turns, fresh_at, StateV, Stands, GoesOn, RefusesAt, around_of}
use Rattle.csn_judge.proofs.StepFacts.{popped, steps_then}
use Rattle.csn_judge.proofs.Closing.{Full, passes_of}
use Rattle.csn_judge.proofs.Refusing.{stuck}
use Rattle.csn_judge.proofs.Choosing.{nothing_goes}
use Rattle.csn_judge.proofs.Stacks.{stale}
use Rattle.csn_judge.proofs.LeafStacks.{full_at}
use Rattle.csn_judge.proofs.Turning.{moving, shown_behind, unnamed, kept_unnamed, left_stack, stops}
use Rattle.csn_judge.proofs.TurningOn.{waits_then, refuses_then}
use Rattle.std.proofs.lemmas.List.{nil_from_length}
use Rattle.csn_judge.proofs.Verdicts.{never_ends}

-- how far the nodes have been gone through, where bits were taken or none
abbrev pub paced : Bool → Pace → Pace
paced took pace = record { next = pace.next; again = if took then false else pace.again }

-- no place further on was reached
pub not_less : (a b : ℕ) → b ≤ a → nat_lt a b ≡ false
not_less a b less = by (nat_lt a b) refl
  where
    by : (x : Bool) → nat_lt a b ≡ x → x ≡ false
    by true e = absurd (omega (arith, less, ltb-true a b e))
    by false e = refl

module _ (d : DescV) where
  -- ---- what is told of bits

  pub tells_bits : {S : Type 0} (takes : S → Move → Node → S → Type 0) (node : Node) (i : ℕ) (around : List ℕ)
      (bits : List ℕ) {rest : List Move} {others : List ℕ} {s t u : S}
      → slice_get d.nodes i ≡ Some node → BitsTold takes node bits s t → Tells d takes (i ∷ around) rest others t u
      → Tells d takes (i ∷ around) (map Bit bits ++ rest) others s u
  tells_bits takes node i around [] {rest} {others} {s} {t} {u} at same later = subst (λ x. Tells d takes (i ∷ around) rest others x u) same later
  tells_bits takes node i around (bit ∷ bits) at (next, first, told) later = tells_bit node next at first (tells_bits takes node i around bits at told later)

  -- ---- once bits are taken no turn is fresh

  stale_stack : {next : ℕ} {fresh : Option ℕ} {stack : List Left} {done : List ℕ} → IsStack d next fresh stack done → IsStack d next None stack done
  stale_stack (stack_end good) = stack_end good
  stale_stack (stack_node i from v good ready left inner) = stack_node i from v good ready left (stale d inner)

  pub paced_stack : (took : Bool) (pace : Pace) {stack : List Left} (done taken : List ℕ) → (took ≡ false → taken ≡ [])
      → IsStack d pace.next (fresh_at pace (length done)) stack (done ++ taken)
      → IsStack d (paced took pace).next (fresh_at (paced took pace) (length (done ++ taken))) stack (done ++ taken)
  paced_stack true pace done taken none is = stale_stack is
  paced_stack false pace {stack} done taken none is =
      let same : length done ≡ length (done ++ taken) = omega (arith, ap length (none refl), length-append done taken) in
      let P : ℕ → Type 0 = λ k. IsStack d pace.next (fresh_at pace k) stack (done ++ taken) in
      subst P same is

  -- ---- a leaf

  pub record LeafStands (i : ℕ) (form : Leaf) (frames : List Frame) (values : List Number) (stack : List Left) : Type 0 where
    pub outer : List Left
    pub left : Left
    pub is : stack ≡ left ∷ outer
    pub shows : LeafShows d i form left
    pub kept : values ≡ numbers_of d (seen_in outer)
    pub round : Round d frames outer i

  pub leaf_stands : {i : ℕ} {form : Leaf} {frames : List Frame} {values : List Number} {stack : List Left} {done : List ℕ}
      → Shows d (frame.Leaf i form ∷ frames) values stack done → LeafStands i form frames values stack
  leaf_stands (shows_leaf shows kept round) = record { outer = _; left = _; is = refl; shows = shows; kept = kept; round = round }

  -- it is no window, nor a truncation
  leaf_limit : {i : ℕ} {form : Leaf} {left : Left} (outer : List Left) → LeafShows d i form left → limit_in (left ∷ outer) ≡ limit_in outer
  leaf_limit outer (shows_lits run at less is) = refl
  leaf_limit outer (shows_spare at) = refl
  leaf_limit outer (shows_pad at) = refl
  leaf_limit outer (shows_field unit count at) = refl
  leaf_limit outer (shows_rest at) = refl

  leaf_owes : {i : ℕ} {form : Leaf} {left : Left} (outer : List Left) (done ahead : List ℕ)
      → LeafShows d i form left → AreOwed (left ∷ outer) done ahead ≡ AreOwed outer done ahead
  leaf_owes outer done ahead (shows_lits run at less is) = refl
  leaf_owes outer done ahead (shows_spare at) = refl
  leaf_owes outer done ahead (shows_pad at) = refl
  leaf_owes outer done ahead (shows_field unit count at) = refl
  leaf_owes outer done ahead (shows_rest at) = refl

  -- nor a label
  leaf_plain : {i : ℕ} {form : Leaf} {left : Left} → LeafShows d i form left → is_named d.nodes i ≡ false
  leaf_plain (shows_lits run at less is) = unnamed d _ at refl
  leaf_plain (shows_spare at) = unnamed d _ at refl
  leaf_plain (shows_pad at) = unnamed d _ at refl
  leaf_plain (shows_field unit count at) = unnamed d _ at refl
  leaf_plain (shows_rest at) = unnamed d _ at refl

  module _ {S : Type 0} (takes : S → Move → Node → S → Type 0) (before after : S) (values : List Number) (pace : Pace)
      (old new : Coming) (i : ℕ) (frames : List Frame) (node : Node) where
    abbrev pub leaf_state : Leaf → StateV
    leaf_state form = record { frames = frame.Leaf i form ∷ frames; values = values; pace = pace; coming = old }

    pub at_leaf : {form : Leaf} {stack : List Left} {done : List ℕ} → slice_get d.nodes i ≡ Some node → Stands d (leaf_state form) stack done
        → (t : LeafStands i form frames values stack) → AtLeaf d pace.next (fresh_at pace (length done)) i form node old t.left t.outer done
    at_leaf {done = done} at stands t =
        record {
          at = at;
          shows = t.shows;
          stack_is = subst (λ (l : List Left). IsStack d pace.next (fresh_at pace (length done)) l done) t.is stands.stack_is;
          place = stands.place;
          limit = stands.limit ∙ ap (λ (l : List Left). limit_in l) t.is ∙ leaf_limit t.outer t.shows;
          owed = subst (λ (X : Type 0). X) (leaf_owes t.outer done old.bits t.shows) (subst (λ (l : List Left). AreOwed l done old.bits) t.is stands.owed);
        }

    -- some bits of it are taken
    pub leaf_goes_on : {form other : Leaf} {stack : List Left} {done : List ℕ} (took : Bool) → slice_get d.nodes i ≡ Some node → Known d
        → (took ≡ false → new.place ≤ old.place)
        → Stands d (leaf_state form) stack done → (t : LeafStands i form frames values stack)
        → Keeps d pace.next (fresh_at pace (length done)) takes node old new before after t.left t.outer done i other
        → GoesOn d takes (leaf_state form) (record {
          frames = frame.Leaf i other ∷ frames;
          values = values;
          pace =
              paced took pace;
          coming = new;
        }) before after stack done
    leaf_goes_on {form} {other} {stack} {done} took at known still stands t k =
        let on = k.on in
        let P : List Left → Type 0 = λ l. Passes d old.ended l (k.now ∷ t.outer) done on.taken new.bits (map Bit on.taken) in
        let Q : List Move → Type 0 = λ m. Tells d takes (i ∷ around_of frames) m (i ∷ around_of frames) before after in
        record {
          now = k.now ∷ t.outer;
          taken = on.taken;
          made = map Bit on.taken;
          stands = record {
            shows = shows_leaf k.shows t.kept t.round;
            stack_is = paced_stack took pace done on.taken (λ e. nil_from_length on.taken (omega (arith, still e, on.place))) on.stack_is;
            place = on.place ∙ ap (λ p. p + length on.taken) stands.place ∙ sym (length-append done on.taken);
            limit = on.limit ∙ stands.limit ∙ ap (λ (l : List Left). limit_in l) t.is ∙ leaf_limit t.outer t.shows ∙ sym (leaf_limit t.outer k.shows);
            owed = subst (λ (X : Type 0). X) (sym (leaf_owes t.outer (done ++ on.taken) new.bits k.shows)) on.owed;
          };
          bits = on.bits;
          ended = on.ended;
          steps = subst P (sym t.is) on.steps;
          tells = subst Q (append-nil (map Bit on.taken)) (tells_bits takes node i (around_of frames) on.taken at on.told (tells_none refl refl));
        }

    -- all of them, and it is left
    pub leaf_ends : {form : Leaf} {stack : List Left} {done : List ℕ} (told : S) (took : Bool) → slice_get d.nodes i ≡ Some node → Known d
        → (took ≡ false → new.place ≤ old.place)
        → Stands d (leaf_state form) stack done → (t : LeafStands i form frames values stack)
        → Takes d pace.next (fresh_at pace (length done)) takes node old new before told t.left t.outer done none_left
        → takes told Leave node after
        → GoesOn d takes (leaf_state form) (record { frames = frames; values = values; pace = paced took pace; coming = new }) before after stack done
    leaf_ends {form} {stack} {done} told took at known still stands t on leave =
        let here = done ++ on.taken in
        let whole = paced_stack took pace done on.taken (λ e. nil_from_length on.taken (omega (arith, still e, on.place))) on.stack_is in
        let left = left_stack d (paced took pace) known whole in
        let P : List Left → Type 0 = λ l. Passes d old.ended l t.outer done on.taken new.bits (map Bit on.taken ++ Leave ∷ []) in
        let Q : List ℕ → Type 0 = λ l. Passes d old.ended (t.left ∷ t.outer) t.outer done l new.bits (map Bit on.taken ++ Leave ∷ []) in
        record {
          now = t.outer;
          taken = on.taken;
          made = map Bit on.taken ++ Leave ∷ [];
          stands = record {
            shows = shown_behind d here t.round (t.kept ∙ sym (kept_unnamed d here t.round (leaf_plain t.shows)));
            stack_is = left;
            place = on.place ∙ ap (λ p. p + length on.taken) stands.place ∙ sym (length-append done on.taken);
            limit = on.limit ∙ stands.limit ∙ ap (λ (l : List Left). limit_in l) t.is ∙ leaf_limit t.outer t.shows;
            owed = on.owed;
          };
          bits = on.bits;
          ended = on.ended;
          steps =
              subst P (sym t.is)
              (subst Q (append-nil on.taken)
              (steps_then d on.taken [] on.steps (passes_of old.ended (popped d new.bits (nothing_goes d (moving d known) known.empties left)))));
          tells = tells_bits takes node i (around_of frames) on.taken at on.told (tells_leave node _ at leave (tells_none refl refl));
        }

    -- its bits differ
    pub leaf_refuses : {form : Leaf} {stack : List Left} {done : List ℕ} {next : StateV} (place : ℕ)
        → Stands d (leaf_state form) stack done → (t : LeafStands i form frames values stack)
        → Differs d pace.next (fresh_at pace (length done)) takes node old new before after t.left t.outer done place
        → RefusesAt d takes (leaf_state form) next before after stack done place
    leaf_refuses {form} {stack} {done} place stands t m =
        let P : List Left → Type 0 = λ l. Goes d l done m.alike in
        let Q : List Left → Type 0 = λ l. ¬ Goes d l done (m.alike ++ m.bit ∷ []) in
        record {
          made = [];
          around = i ∷ around_of frames;
          alike = m.alike;
          bit = m.bit;
          later = m.later;
          bits = m.bits;
          place_is = m.place_is;
          followed = subst P (sym t.is) m.followed;
          no_further = subst Q (sym t.is) m.no_further;
          tells = tells_none refl m.untold;
        }

  -- ---- no bit can be taken

  -- the innermost node takes none, and where none can come one is missing
  pub record IsShort (stack : List Left) (done : List ℕ) (coming : Coming) : Type 0 where
    pub left : Left
    pub outer : List Left
    pub is : stack ≡ left ∷ outer
    pub limited : limit_in stack ≡ limit_in outer
    pub stops : (coming.bits ≡ []) ⊎ (coming.place ≡ coming.limit)
    pub wants : (coming.ended ≡ true) ⊎ (coming.place ≡ coming.limit) → (moves : List Move) → ¬ Completes d left done [] moves

  short_unended : {stack : List Left} {done : List ℕ} {coming : Coming} {rest : List Move}
      → (t : IsShort stack done coming) → coming.ended ≡ true → ¬ Rest d stack done [] rest
  short_unended {done = done} {rest = rest} t over h = let P : List Left → Type 0 = λ l. Rest d l done [] rest in
      never_ends d (t.wants (inl over)) (subst P t.is h)

  short_stuck : {stack : List Left} {done : List ℕ} {coming : Coming} (bit : ℕ) (t : IsShort stack done coming)
      → Full t.outer done → coming.place ≡ coming.limit → ¬ Goes d stack done (bit ∷ [])
  short_stuck {done = done} bit t full closed g = let P : List Left → Type 0 = λ l. Goes d l done (bit ∷ []) in
      stuck d bit [] full (t.wants (inr closed)) (subst P t.is g)

  module _ {S : Type 0} (takes : S → Move → Node → S → Type 0) (before : S) (values : List Number) (pace : Pace) (coming : Coming) (frames : List Frame) where
    abbrev stopped_state : StateV
    stopped_state = record { frames = frames; values = values; pace = pace; coming = coming }

    pub stops_short : (turn : Turn) → IsStopped coming turn → Known d → coming.place + length coming.bits < 4294967295
        → ((stack : List Left) (done : List ℕ) → Stands d stopped_state stack done → IsShort stack done coming)
        → Turns d takes stopped_state stopped_state before before turn
    stops_short turn stopped known small short =
        stops d takes before values pace coming frames turn stopped known
        (λ stack done stands bit rest is.
        let t = short stack done stands in
        let closed = at_limit t.stops is in
        short_stuck bit t (full_at t.outer done (sym stands.place ∙ closed ∙ stands.limit ∙ t.limited) (omega (arith, small, stands.place))) closed)
        (λ stack done stands ended. inr (λ rest h. short_unended (short stack done stands) ended h))
      where
        at_limit : {bit : ℕ} {rest : List ℕ} → (coming.bits ≡ []) ⊎ (coming.place ≡ coming.limit) → coming.bits ≡ bit ∷ rest → coming.place ≡ coming.limit
        at_limit (inl none) is = absurd (cc)
        at_limit (inr full) is = full

  module _ {S : Type 0} (takes : S → Move → Node → S → Type 0) (before : S) (values : List Number) (pace : Pace)
      (coming : Coming) (i : ℕ) (frames : List Frame) where
    abbrev leaf_here : Leaf → StateV
    leaf_here form = record { frames = frame.Leaf i form ∷ frames; values = values; pace = pace; coming = coming }

    pub leaf_stops : {form : Leaf} (turn : Turn) → IsStopped coming turn → Known d → coming.place + length coming.bits < 4294967295 → Stays d i form coming
        → Turns d takes (leaf_here form) (leaf_here form) before before turn
    leaf_stops {form} turn stopped known small stays =
        stops_short takes before values pace coming (frame.Leaf i form ∷ frames) turn stopped known small
        (λ stack done stands.
        let t = leaf_stands stands.shows in
        record {
          left = t.left;
          outer = t.outer;
          is = t.is;
          limited = ap (λ (l : List Left). limit_in l) t.is ∙ leaf_limit t.outer t.shows;
          stops = stays.stops;
          wants = λ closed. stays.wants closed t.left done t.shows;
        })

  -- ---- the turns

  -- what may be left of it
  pub may_be_left : {i : ℕ} {form : Leaf} {node : Node} {left : Left} → slice_get d.nodes i ≡ Some node → LeafShows d i form left → MayBeLeft form node
  may_be_left {node = node} at (shows_lits run look less is) = let e : node ≡ Lits run = cc in may_lits run e less
  may_be_left {node = node} at (shows_spare {s = s} look) = let e : node ≡ Spare s = cc in may_spare e
  may_be_left {node = node} at (shows_pad look) = let e : node ≡ Pad = cc in may_pad e
  may_be_left {node = node} at (shows_field unit count look) = let e : node ≡ Field unit count = cc in may_field e
  may_be_left {node = node} at (shows_rest look) = let e : node ≡ kind.Rest = cc in may_rest e

  module _ {S : Type 0} (takes : S → Move → Node → S → Type 0) (before : S) (values : List Number) (pace : Pace)
      (old new : Coming) (i : ℕ) (frames : List Frame) (node : Node) where
    abbrev leaf_from : Leaf → StateV
    leaf_from form = record { frames = frame.Leaf i form ∷ frames; values = values; pace = pace; coming = old }

    -- it has all its bits
    pub turns_all : {form : Leaf} {next : Pace} (told after : S) (took : Bool) → slice_get d.nodes i ≡ Some node → Known d → next ≡ paced took pace
        → (took ≡ false → new.place ≤ old.place) → ReadsLeaf d takes form node old new before told read.All → takes told Leave node after
        → (stack : List Left) (done : List ℕ) → Stands d (leaf_from form) stack done
        → GoesOn d takes (leaf_from form) (record { frames = frames; values = values; pace = next; coming = new }) before after stack done
    turns_all {form} {next} told after took at known paced_by still reads leave stack done stands =
        let t = leaf_stands stands.shows in
        let P : Pace → Type 0 = λ p. GoesOn d takes (leaf_from form)
        (record { frames = frames; values = values; pace = p; coming = new }) before after stack done in
        subst P (sym paced_by)
        (leaf_ends takes before after values pace old new i frames node told took at known still stands t
        (reads pace.next (fresh_at pace (length done)) i t.left t.outer done known (at_leaf takes before told values pace old new i frames node at stands t))
        leave)

    -- some of them
    pub turns_some : {form other : Leaf} {next : Pace} {others : List Frame} (after : S) (took : Bool)
        → slice_get d.nodes i ≡ Some node → Known d → next ≡ paced took pace
        → (took ≡ false → new.place ≤ old.place) → others ≡ frame.Leaf i other ∷ frames → ReadsLeaf d takes form node old new before after (read.Some other)
        → (stack : List Left) (done : List ℕ) → Stands d (leaf_from form) stack done
        → GoesOn d takes (leaf_from form) (record { frames = others; values = values; pace = next; coming = new }) before after stack done
    turns_some {form} {other} {next} {others} after took at known paced_by still put reads stack done stands =
        let t = leaf_stands stands.shows in
        let P : Pace → Type 0 = λ p. GoesOn d takes (leaf_from form)
        (record { frames = others; values = values; pace = p; coming = new }) before after stack done in
        let Q : List Frame → Type 0 = λ l. GoesOn d takes (leaf_from form)
        (record { frames = l; values = values; pace = paced took pace; coming = new }) before after stack done in
        subst P (sym paced_by) (subst Q (sym put)
        (leaf_goes_on takes before after values pace old new i frames node took at known still stands t
        (reads pace.next (fresh_at pace (length done)) i t.left t.outer done known
        (at_leaf takes before after values pace old new i frames node at stands t))))

    -- none
    turns_none : {form other : Leaf} (after : S) (turn : Turn) → slice_get d.nodes i ≡ Some node → Known d → new.place ≤ old.place
        → new.place + length new.bits < 4294967295 → (new.ended ≡ true → new.bits ≡ [])
        → IsStopped new turn → ReadsLeaf d takes form node old new before after (read.Some other)
        → Turns d takes (leaf_from form) (record {
          frames = frame.Leaf i other ∷ frames;
          values = values;
          pace =
              paced false pace;
          coming = new;
        }) before after turn
    turns_none after Moved at known still small quiet stopped reads = absurd stopped
    turns_none {form} {other} after Waits at known still small quiet stopped reads = λ stack done stands.
        let t = leaf_stands stands.shows in
        let k = reads pace.next (fresh_at pace (length done)) i t.left t.outer done known
        (at_leaf takes before after values pace old new i frames node at stands t) in
        let on = leaf_goes_on takes before after values pace old new i frames node false at known (λ e. still) stands t k in
        waits_then d takes on (leaf_stops takes after values (paced false pace) new i frames Waits stopped known small
        (k.stays (omega (arith, still, k.on.place))) on.now (done ++ on.taken) on.stands)
    turns_none {form} {other} after (Refused place) at known still small quiet stopped reads = λ stack done stands.
        let t = leaf_stands stands.shows in
        let k = reads pace.next (fresh_at pace (length done)) i t.left t.outer done known
        (at_leaf takes before after values pace old new i frames node at stands t) in
        let on = leaf_goes_on takes before after values pace old new i frames node false at known (λ e. still) stands t k in
        refuses_then d takes on (going old.ended (λ e. quiet (on.ended ∙ e)) stopped.2)
        (leaf_stops takes after values (paced false pace) new i frames (Refused place) stopped known small
        (k.stays (omega (arith, still, k.on.place))) on.now (done ++ on.taken) on.stands)
      where
        going : {bit : ℕ} {rest : List ℕ} (e : Bool) → (e ≡ true → new.bits ≡ []) → new.bits ≡ bit ∷ rest → e ≡ false
        going true none is = let no = none refl in absurd (cc)
        going false none is = refl

    pub turns_stopped : {form other : Leaf} {next : Pace} {others : List Frame} (after : S) (turn : Turn)
        (took : Bool) → slice_get d.nodes i ≡ Some node → Known d → next ≡ paced took pace → took ≡ false
        → new.place ≤ old.place → new.place + length new.bits < 4294967295 → (new.ended ≡ true → new.bits ≡ []) → IsStopped new turn
        → others ≡ frame.Leaf i other ∷ frames → ReadsLeaf d takes form node old new before after (read.Some other)
        → Turns d takes (leaf_from form) (record { frames = others; values = values; pace = next; coming = new }) before after turn
    turns_stopped {form} {other} {next} {others} after turn took at known paced_by none still small quiet stopped put reads =
        let P : Pace → Type 0 = λ p. Turns d takes (leaf_from form) (record { frames = others; values = values; pace = p; coming = new }) before after turn in
        let Q : List Frame → Type 0 = λ l. Turns d takes (leaf_from form)
        (record { frames = l; values = values; pace = paced false pace; coming = new }) before after turn in
        subst P (sym (paced_by ∙ ap (λ b. paced b pace) none)) (subst Q (sym put) (turns_none after turn at known still small quiet stopped reads))

    -- a bit differs
    pub turns_refused : {form : Leaf} {next : StateV} (after : S) (place : ℕ) → slice_get d.nodes i ≡ Some node
        → Known d → ReadsLeaf d takes form node old new before after (read.Refused place)
        → (stack : List Left) (done : List ℕ) → Stands d (leaf_from form) stack done → RefusesAt d takes (leaf_from form) next before after stack done place
    turns_refused after place at known reads stack done stands =
        let t = leaf_stands stands.shows in
        leaf_refuses takes before after values pace old new i frames node place stands t
        (reads pace.next (fresh_at pace (length done)) i t.left t.outer done known (at_leaf takes before after values pace old new i frames node at stands t))

  pub leaf_within : {i : ℕ} {form : Leaf} {left : Left} → LeafShows d i form left → i < length d.nodes
  leaf_within (shows_lits run at less is) = slice_get_within d.nodes _ _ at
  leaf_within (shows_spare at) = slice_get_within d.nodes _ _ at
  leaf_within (shows_pad at) = slice_get_within d.nodes _ _ at
  leaf_within (shows_field unit count at) = slice_get_within d.nodes _ _ at
  leaf_within (shows_rest at) = slice_get_within d.nodes _ _ at
