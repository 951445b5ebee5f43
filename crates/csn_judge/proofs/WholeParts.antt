-- All bits of a node that begins are read at once, where its strings are laid out.
use Rattle.std.proofs.Common.{◌≡◌, ℕ, ◌+◌, ◌*◌, ◌%◌, ◌<◌, ◌≤◌, Bool, true, false, List, [], ◌∷◌, ◌++◌, length, take}
use Rattle.std.proofs.Common.{drop, refl, sym, ◌∙◌, ap, subst, arith, append-nil, length-append, take-append-drop}
use Rattle.std.proofs.Common.{nat_lt, reverse, Option, Some, slice_get}
use Rattle.std.proofs.lemmas.List.{nil_from_length, length-take-le}
use Rattle.std.proofs.lemmas.Bool.{ltb-true, ltb-false}
use Rattle.csn_bits.specs.Octets.{IsBits}
use Rattle.csn_bits.proofs.Packing.{IsBits-append}
use Rattle.csn_desc.specs.declared.moves.Move.{Move}
use Rattle.csn_desc.specs.declared.moves.Move.TheVariants.{Enter, Leave}
use Rattle.csn_desc.specs.declared.node.Count.TheVariants.{Fixed}
use Rattle.csn_desc.specs.declared.node.Node.{Node}
use Rattle.csn_desc.specs.TreeV.{TreeV}
use Rattle.csn_desc.specs.Nodes.{DescV}
use Rattle.csn_desc.specs.Values.{Values}
use Rattle.csn_desc.specs.Formed.{width_of}
use Rattle.csn_desc.specs.Means.{NMeans, NodeMeans, means_at, means_field}
use Rattle.csn_desc.specs.Walks.{Walk, walk_at}
use Rattle.csn_look.specs.Ends.{InEnds}
use Rattle.csn_certify.specs.KeptNumbers.{numbers_of}
use Rattle.csn_certify.specs.Layouts.{IsLaid}
use Rattle.csn_certify.specs.declared.numbers.Number.{Number}
use Rattle.csn_judge.specs.declared.frame.Frame.{Frame}
use Rattle.csn_judge.specs.declared.frame.Frame.TheVariants as frame
use Rattle.csn_judge.specs.declared.pace.Pace.{Pace}
use Rattle.csn_judge.specs.declared.machine.Machine.{Machine}
use Rattle.csn_judge.specs.declared.turn.Turn.{Turn}
use Rattle.csn_judge.specs.Credit.{credit_in, credit_of, Pays, TurnPays}
use Rattle.csn_judge.specs.Known.{Known}
use Rattle.csn_judge.specs.Coming.{Coming, IsSame}
use Rattle.csn_judge.specs.Told.{WholeTold}
use Rattle.csn_judge.specs.Left.{Left, all_left, none_left, Completes, completes_all, completes_none, Begins, begins_whole, begins_all}
use Rattle.csn_judge.specs.Remains.{Passes}
use Rattle.csn_judge.specs.Inside.{HasWidth, IsRead, of_read, IsStack, stack_node, AreOwed}
use Rattle.csn_judge.specs.Turns.{fresh_at, around_of, state_with, StateV, Stands, StandsSomewhere, GoesOn, Turns}
use Rattle.csn_judge.proofs.StepFacts.{Replaces, replaced, as_many, popped, steps_then}
use Rattle.csn_judge.proofs.Closing.{passes_of}
use Rattle.csn_judge.proofs.Choosing.{nothing_goes}
use Rattle.csn_judge.proofs.LeafStacks.{owed_taken}
use Rattle.csn_judge.proofs.Stacks.{Begun, up_here}
use Rattle.csn_judge.proofs.Turning.{moving, left_stack, shown_behind, kept_behind, state}
use Rattle.csn_judge.proofs.PayingBits.{taken_pays, same_pays}
use Rattle.csn_judge.proofs.TurningEntry.{at_begin}
use Rattle.csn_judge.proofs.TurningLeaves.{paced, paced_stack}
use Rattle.csn_judge.proofs.TurningSame.{stands_on, turns_since}

-- the moves of a tree, but for the leaving of its node
record Opens (i : ℕ) (moves : List Move) : Type 0 where
  pub inside : List Move
  pub is : moves ≡ (Enter i ∷ inside) ++ Leave ∷ []

module _ (d : DescV) where
  opens : {i o : ℕ} {t : TreeV} {moves : List Move} → Walk d i o t moves → Opens i moves
  opens (walk_at n inside at walks is) = record { inside = inside; is = is }

  means_along : {i o : ℕ} {v : Values} {b c : List ℕ} {t : TreeV} → b ≡ c → NMeans d i o v b t → NMeans d i o v c t
  means_along {i} {o} {v} {t = t} e h = let P : List ℕ → Type 0 = λ l. NMeans d i o v l t in subst P e h

  -- ---- a string that is read to its end

  field_width : {i o : ℕ} {v : Values} {b : List ℕ} {t : TreeV} (width : ℕ) → Known d → NMeans d i o v b t
      → width_of (slice_get d.nodes i) ≡ Some width → (length b ≡ width) × IsBits b
  field_width {i} {o} {v} {b} width known h is = (by h, known.good d _ _ _ _ _ h)
    where
      of_node : {n : Node} {t : TreeV} → NodeMeans d n o v b t → width_of (Some n) ≡ Some width → length b ≡ width
      of_node (means_field {unit = unit} {count = Fixed n} m counted many good) e =
          let same : n ≡ m = cc in
          let wide : unit * n ≡ width = cc in
          omega (arith, many, wide, ap (λ k. unit * k) same)
      of_node h e = absurd (cc)

      by : {t : TreeV} → NMeans d i o v b t → length b ≡ width
      by (means_at n at h) = of_node h (sym (ap (λ x. width_of x) at) ∙ is)

  meant_width : {i o : ℕ} {v : Values} {b : List ℕ} {t : TreeV} → Known d → NMeans d i o v b t → HasWidth d i b
  meant_width {i} {o} {v} {b} {t} known h =
      record {
        field = λ width is. field_width width known h is;
        label = λ width is. (known.value_widths d i o v b t width is h, known.good d i o v b t h);
      }

  no_bits : {b : List ℕ} (done : List ℕ) → length done ≡ length (done ++ b) → b ≡ []
  no_bits {b} done same = nil_from_length b (omega (arith, same, length-append done b))

  meant_read : {i : ℕ} {v : Values} {outer : List Left} {fresh : Option ℕ} {done b : List ℕ} {t : TreeV}
      → Known d → Begun d fresh i v outer done → NMeans d i (length done) v b t → IsRead d i (length done) (done ++ b)
  meant_read {i} {v} {done = done} {b} {t} known begun h =
      let P : ℕ → Type 0 = λ k. InEnds d i (length done % 8) (k % 8) in
      record {
        order = omega (arith, length-append done b);
        ends = subst P (sym (length-append done b)) (known.meant_end d i (length done) v b t known.description begun.ready.widths h);
        empty = λ same. known.nullable d i (length done) v t known.description (means_along (no_bits done same) h);
        width = let Q : List ℕ → Type 0 = λ l. HasWidth d i l in subst Q (sym (drop_front done b)) (meant_width known h);
      }
    where
      drop_front : (a c : List ℕ) → drop (length a) (a ++ c) ≡ c
      drop_front [] c = refl
      drop_front (x ∷ a) c = drop_front a c

  -- ---- and what is left of its node

  module _ {i others : ℕ} {front : List ℕ} {v : Values} (done : List ℕ) {b : List ℕ} {t : TreeV} {moves : List Move}
      (known : Known d) (laid : IsLaid d i front others)
      (h : NMeans d i (length done) v b t) (walk : Walk d i (length done) t moves) where
    as_long : {o : ℕ} {w : Values} {c : List ℕ} {u : TreeV} → NMeans d i o w c u → length c ≡ length b
    as_long {o} {w} {c} {u} m =
        let here = laid.string o w c u m in
        let there = laid.string (length done) v b t h in
        omega (arith, ap length here.cut, ap length there.cut, length-append front here.rest, length-append front there.rest, here.count, there.count)

    none_behind : {o : ℕ} {w : Values} {u : TreeV} (c : List ℕ) → NMeans d i o w (b ++ c) u → c ≡ []
    none_behind c m = nil_from_length c (omega (arith, as_long m, length-append b c))

    same_moves : {c : List ℕ} {u : TreeV} {all : List Move} → c ≡ b → NMeans d i (length done) v c u → Walk d i (length done) u all → all ≡ moves
    same_moves {u = u} {all} same m w =
        let P : TreeV → Type 0 = λ s. Walk d i (length done) s all in
        known.one_list d i (length done) t all moves (subst P (laid.one_tree (length done) v b u t (means_along same m) h) w) walk

    behind_none : (c : List ℕ) → c ≡ [] → b ++ c ≡ b
    behind_none c none = ap (λ l. b ++ l) none ∙ append-nil b

    abbrev made : List Move
    made = Enter i ∷ (opens walk).inside

    whole_replaces : Replaces d (all_left i v) none_left done b made
    whole_replaces = record { completes = on; completed = back; begins = forth; begun = home; up_old = λ place. tt; up_new = λ place. tt }
      where
        on : (c : List ℕ) (all : List Move) → Completes d (all_left i v) done (b ++ c) all → (more : List Move)
            × (all ≡ made ++ more) × Completes d none_left (done ++ b) c more
        on c all (completes_all u m w) =
            let none = none_behind c m in
            (Leave ∷ [], same_moves (behind_none c none) m w ∙ (opens walk).is, completes_none none refl)

        whole : (c : List ℕ) → c ≡ [] → Completes d (all_left i v) done (b ++ c) moves
        whole c none = completes_all t (means_along (sym (behind_none c none)) h) walk

        back : (c : List ℕ) (more : List Move) → Completes d none_left (done ++ b) c more → Completes d (all_left i v) done (b ++ c) (made ++ more)
        back c more (completes_none none leave) =
            let P : List Move → Type 0 = λ l. Completes d (all_left i v) done (b ++ c) l in
            subst P ((opens walk).is ∙ ap (λ l. made ++ l) (sym leave)) (whole c none)

        left : (c : List ℕ) → c ≡ [] → Begins d none_left (done ++ b) c
        left c none = begins_whole (Leave ∷ []) (completes_none none refl)

        forth : (c : List ℕ) → Begins d (all_left i v) done (b ++ c) → Begins d none_left (done ++ b) c
        forth c (begins_whole all (completes_all u m w)) = left c (none_behind c m)
        forth c (begins_all f) =
            let string = laid.begins (length done) v (b ++ c) f in
            left c (nil_from_length c (omega (arith, as_long string.means, length-append (b ++ c) string.rest, length-append b c)))

        home : (c : List ℕ) → Begins d none_left (done ++ b) c → Begins d (all_left i v) done (b ++ c)
        home c (begins_whole all (completes_none none leave)) = begins_whole moves (whole c none)

  -- ---- the turn

  module _ {S : Type 0} (takes : S → Move → Node → S → Type 0) (before after : S) (values : List Number) (pace : Pace)
      (old new : Coming) (i : ℕ) (frames : List Frame) where
    -- these bits are read, which are a string of the node, and told
    pub whole_read : {others : ℕ} {front b : List ℕ} {stack : List Left} {done : List ℕ} (took : Bool) → Known d → IsLaid d i front others
        → ((o : ℕ) (v : Values) → (t : TreeV) × NMeans d i o v b t) → WholeTold d takes i b before after → (took ≡ false → b ≡ [])
        → old.bits ≡ b ++ new.bits → new.place ≡ old.place + length b → new.limit ≡ old.limit → new.ended ≡ old.ended
        → Stands d (state d takes before values pace old (frame.Begin i ∷ frames)) stack done
        → GoesOn d takes (state d takes before values pace old (frame.Begin i ∷ frames))
        (state d takes after values (paced took pace) new frames) before after stack done
    whole_read {front = front} {b} {stack} {done} took known laid string told untaken bits place limit ended stands =
        let a = at_begin d takes before values pace old stands in
        let outer = a.stands.outer in
        let v = a.stands.v in
        let meant = string (length done) v in
        let walked = known.have_moves d i (length done) v b meant.0 meant.1 in
        let inner = a.here.begun.inner in
        let good = IsBits-append done b a.here.begun.good (known.good d i (length done) v b meant.0 meant.1) in
        let Q : ℕ → Type 0 = λ n. IsStack d n (fresh_at pace (length done)) (none_left ∷ outer) (done ++ b) in
        let read = subst Q (sym a.here.just) (stack_node i (length done) v good a.here.begun.ready
        (of_read (meant_read known a.here.begun meant.1) (up_here d i)) inner) in
        let left = left_stack d (paced took pace) known (paced_stack d took pace done b untaken read) in
        let step = passes_of old.ended
        (replaced d new.bits (as_many d (λ c moves h. long_enough known laid meant.1 walked.1 h))
        (whole_replaces done known laid meant.1 walked.1)) in
        let P : List Left → Type 0 =
        λ l. GoesOn d takes (state d takes before values pace old (frame.Begin i ∷ frames))
        (state d takes after values (paced took pace) new frames) before after l done in
        let R : List ℕ → Type 0 = λ l. Passes d old.ended (all_left i v ∷ outer) outer done l new.bits (made done known laid meant.1 walked.1 ++ Leave ∷ []) in
        let T : List Move → Type 0 = λ l. Passes d old.ended (all_left i v ∷ outer) outer done b new.bits l in
        subst P (sym a.stands.is)
        (record {
          now = outer;
          taken = b;
          made = walked.0;
          stands = record {
            shows = shown_behind d (done ++ b) a.stands.round (a.stands.kept ∙ ap (λ w. numbers_of d w) a.stands.seen
                ∙ sym (kept_behind d (done ++ b) a.stands.round laid.plain));
            stack_is = left;
            place = place ∙ ap (λ p. p + length b) a.here.place ∙ sym (length-append done b);
            limit = limit ∙ a.here.limit;
            owed = owed_taken d done b new.bits inner (omega arith) (subst (λ (l : List ℕ). AreOwed outer done l) bits a.here.owed);
          };
          bits = bits;
          ended = ended;
          steps = subst T (sym (opens walked.1).is)
              (subst R (append-nil b)
              (steps_then d b [] step
              (passes_of old.ended (popped d new.bits (nothing_goes d (moving d known) known.empties left)))));
          tells = told (length done) v meant.0 walked.0 (around_of frames) meant.1 walked.1;
        })
      where
        long_enough : {v : Values} {c : List ℕ} {t : TreeV} {moves all : List Move} {others : ℕ} {front : List ℕ}
            (known : Known d) (laid : IsLaid d i front others) (h : NMeans d i (length done) v b t)
            (walk : Walk d i (length done) t moves) → Completes d (all_left i v) done c all → length b ≤ length c
        long_enough known laid h walk (completes_all u m w) = omega (arith, as_long done known laid h walk m)

-- ---- what is taken, and paid for

-- so many bits and those behind them
pub all_taken : {front behind : List ℕ} (n : ℕ) (all : List ℕ) → front ≡ take n all → behind ≡ drop n all → all ≡ front ++ behind
all_taken {front} {behind} n all first rest = sym (take-append-drop n all) ∙ ap (λ l. l ++ drop n all) (sym first) ∙ ap (λ l. front ++ l) (sym rest)

pub as_many_taken : {front : List ℕ} (n : ℕ) (all : List ℕ) → front ≡ take n all → n ≤ length all → length front ≡ n
as_many_taken n all first long = ap (λ l. length l) first ∙ length-take-le n all long

-- none are, where the width says so
pub none_wide : {front : List ℕ} (width : ℕ) → length front ≡ width → nat_lt 0 width ≡ false → front ≡ []
none_wide {front} width many none = nil_from_length front (omega (arith, many, ltb-false 0 width none))

pub whole_cheaper : {old_bits : ℕ} {next : Pace} (nodes new_bits i width : ℕ) (frames : List Frame) (pace : Pace)
    → next ≡ paced (nat_lt 0 width) pace → old_bits ≡ width + new_bits
    → credit_of nodes frames next new_bits < credit_of nodes (frame.Begin i ∷ frames) pace old_bits
whole_cheaper {old_bits} {next} nodes new_bits i width frames pace paced_by sum = by (nat_lt 0 width) refl
  where
    by : (took : Bool) → nat_lt 0 width ≡ took → credit_of nodes frames next new_bits < credit_of nodes (frame.Begin i ∷ frames) pace old_bits
    by true e = (taken_pays nodes new_bits 0 0 (frame.Begin i ∷ frames) frames pace refl
        (paced_by ∙ ap (λ b. paced b pace) e) sum (ltb-true 0 width e) (omega arith) (omega arith)).1
    by false e = (same_pays nodes new_bits 0 0 (frame.Begin i ∷ frames) frames pace refl
        (paced_by ∙ ap (λ b. paced b pace) e) (omega (arith, sum, ltb-false 0 width e)) (omega arith) (omega arith)).1

-- ---- where nothing is read

module _ {S : Type 0} (takes : S → Move → Node → S → Type 0) (i : ℕ) {machine other : Machine} {old new : Coming}
    (kept : other ≡ machine) (same : IsSame old new) where
  -- the node begins as before
  pub unread_stands : S → StandsSomewhere machine.plan.now (state_with (frame.Begin i) machine old)
      → StandsSomewhere other.plan.now (state_with (frame.Begin i) other new)
  unread_stands track some =
      let P : Machine → Type 0 = λ m. StandsSomewhere m.plan.now (state_with (frame.Begin i) m new) in
      subst P (sym kept)
      (record {
        known = some.known;
        stack = some.stack;
        done = some.done;
        stands = stands_on machine.plan.now takes track track (frame.Begin i ∷ reverse machine.frames.items)
            machine.values.items machine.pace same some.stands;
      })

  -- so what is done then is done from the state before
  pub unread_turns : {before told : S} (turn : Turn) (next : StateV) (after : S) → told ≡ before
      → Turns other.plan.now takes (state_with (frame.Begin i) other new) next told after turn
      → Turns machine.plan.now takes (state_with (frame.Begin i) machine old) next before after turn
  unread_turns {before} turn next after untold turns =
      let P : Machine → Type 0 = λ m. Turns m.plan.now takes (state_with (frame.Begin i) m new) next before after turn in
      let Q : S → Type 0 = λ s. Turns other.plan.now takes (state_with (frame.Begin i) other new) next s after turn in
      turns_since machine.plan.now takes before after (frame.Begin i ∷ reverse machine.frames.items)
      machine.values.items machine.pace same next turn (subst P kept (subst Q untold turns))

  pub unread_pays : (steps steps_after : ℕ) (turn : Turn) (next : StateV)
      → TurnPays other.plan.now (state_with (frame.Begin i) other new) next steps steps_after turn
      → TurnPays machine.plan.now (state_with (frame.Begin i) machine old) next steps steps_after turn
  unread_pays steps steps_after turn next pays =
      let P : Machine → Type 0 = λ m. TurnPays m.plan.now (state_with (frame.Begin i) m new) next steps steps_after turn in
      let Q : List ℕ → Type 0 =
      λ l. Pays (credit_of (length machine.plan.now.nodes) (frame.Begin i ∷ reverse machine.frames.items)
      machine.pace (length l)) (credit_in machine.plan.now next) steps steps_after turn in
      subst Q same.bits (subst P kept pays)
