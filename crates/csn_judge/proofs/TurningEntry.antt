-- A node is entered.
use Rattle.std.proofs.Common.{inl, inr, ◌≡◌, ℕ, suc, ◌+◌, ◌*◌, ◌<◌, ◌≤◌, ◌⊎◌, false, List, take, [], ◌∷◌, ◌++◌}
use Rattle.std.proofs.Common.{length, min, refl, sym, ◌∙◌, ap, subst, arith, append-nil, Some, slice_get}
use Rattle.std.proofs.lemmas.List.{take_all}
use Rattle.std.proofs.lemmas.Option.{slice_get_within}
use Rattle.csn_desc.specs.declared.moves.Move.{Move}
use Rattle.csn_desc.specs.declared.moves.Move.TheVariants.{Enter, Leave}
use Rattle.csn_desc.specs.declared.symbol.Symbol.{Symbol}
use Rattle.csn_desc.specs.declared.node.Count.{Count}
use Rattle.csn_desc.specs.declared.node.Node.{Node}
use Rattle.csn_desc.specs.declared.node.Node.TheVariants.{Lits, Spare, Pad, Null, Field, Rest, Seq, Choice, Times, Many, Trunc, Window}
use Rattle.csn_desc.specs.Nodes.{DescV, parts_of}
use Rattle.csn_desc.specs.Values.{Values, count_of}
use Rattle.csn_desc.specs.Formed.{Formed, formed}
use Rattle.csn_desc.proofs.Nodewise.{parts_there}
use Rattle.csn_certify.proofs.CountedValues.{formed_head, has_number}
use Rattle.csn_judge.specs.declared.frame.Frame.{Frame}
use Rattle.csn_judge.specs.declared.frame.Frame.TheVariants as frame
use Rattle.csn_judge.specs.declared.leaf.Leaf.TheVariants as leaf
use Rattle.csn_certify.specs.declared.numbers.Number.{Number}
use Rattle.csn_judge.specs.declared.pace.Pace.{Pace}
use Rattle.csn_judge.specs.Known.{Known}
use Rattle.csn_judge.specs.Coming.{Coming}
use Rattle.csn_judge.specs.Remains.{Passes}
use Rattle.csn_judge.specs.Told.{tells_none, tells_enter, tells_leave}
use Rattle.csn_judge.specs.Left.{Left, all_left, bits_left, symbols_left, spare_left, pad_left, rest_left}
use Rattle.csn_judge.specs.Left.{choice_left, none_left, turns_left, free_left, cut_left}
use Rattle.csn_judge.specs.Inside.{IsStack, AreOwed}
use Rattle.csn_certify.specs.KeptNumbers.{numbers_of, KeepsCount}
use Rattle.csn_judge.specs.Shown.{seen_in, limit_in, HasNext, Cuts, shows_lits, shows_spare, shows_pad, shows_field}
use Rattle.csn_judge.specs.Shown.{shows_rest, Round, round_seq, round_window, Shows, shows_begin, shows_leaf}
use Rattle.csn_judge.specs.Shown.{shows_open, shows_turns, shows_free, shows_cut}
use Rattle.csn_judge.specs.Turns.{fresh_at, begun_by, around_of, StateV, Stands, StandsSomewhere, GoesOn}
use Rattle.csn_judge.proofs.StepFacts.{replaced, none_taken, split, popped, steps_then}
use Rattle.csn_judge.proofs.Closing.{passes_of}
use Rattle.csn_judge.proofs.Choosing.{nothing_goes}
use Rattle.csn_judge.proofs.Entering.{Enters, enters, enter_literal, enter_null, enter_choice, enter_turns}
use Rattle.csn_judge.proofs.Entering.{enter_free, enter_cut, enter_field, enter_spare, enter_pad, enter_rest}
use Rattle.csn_judge.proofs.Parts.{enter_sequence}
use Rattle.csn_judge.proofs.Wholes.{enter_window}
use Rattle.csn_judge.proofs.Stacks.{begun_of, just_begun, of_begun, first_next, field_stack, literal_stack}
use Rattle.csn_judge.proofs.Stacks.{spare_stack, pad_stack, rest_stack, null_stack, choice_stack, turns_stack}
use Rattle.csn_judge.proofs.Stacks.{free_stack, cut_stack, sequence_begun, window_begun}
use Rattle.csn_judge.proofs.Turning.{IsHere, moving, risen, left_stack, shown_behind, kept_unnamed, unnamed, state, still, still_until}

module _ {S : Type 0} (takes : S → Move → Node → S → Type 0) where
  -- a node has this form, and it was told that it is entered
  abbrev pub IsEntered : List Node → S → ℕ → Node → S → Type 0
  IsEntered nodes before i form after = (slice_get nodes i ≡ Some form) × takes before (Enter i) form after

  pub entered : {before after : S} {i : ℕ} {node form : Node} (nodes : List Node)
      → node ≡ form → slice_get nodes i ≡ Some node → takes before (Enter i) node after
      → IsEntered nodes before i form after
  entered {before} {after} {i} nodes is here told = (here ∙ ap (λ n. Some n) is, subst (λ (n : Node). takes before (Enter i) n after) is told)

module _ (d : DescV) where
  pub record BeginStands (i : ℕ) (frames : List Frame) (values : List Number) (stack : List Left) : Type 0 where
    pub outer : List Left
    pub v : Values
    pub is : stack ≡ all_left i v ∷ outer
    pub seen : v ≡ seen_in outer
    pub kept : values ≡ numbers_of d v
    pub round : Round d frames outer i

  pub begin_stands : {i : ℕ} {frames : List Frame} {values : List Number} {stack : List Left} {done : List ℕ}
      → Shows d (frame.Begin i ∷ frames) values stack done → BeginStands i frames values stack
  begin_stands (shows_begin seen kept round) = record { outer = _; v = _; is = refl; seen = seen; kept = kept; round = round }

  -- a sequence has parts
  has_parts : {seen : List ℕ} {round k : ℕ} (parts : List ℕ) → slice_get d.nodes k ≡ Some (Seq parts) → Formed d.nodes seen round k → 2 ≤ length parts
  has_parts parts at is = parts_there d.nodes at is

  unit_fits : (unit n : ℕ) → (unit ≡ 1) ⊎ (unit ≡ 8) → n < 16777216 → unit * n < 4294967296
  unit_fits unit n (inl one) small = omega (arith, small, ap (λ k. k * n) one)
  unit_fits unit n (inr eight) small = omega (arith, small, ap (λ k. k * n) eight)

  module _ {S : Type 0} (takes : S → Move → Node → S → Type 0) (before : S) (values : List Number) (pace : Pace) (coming : Coming) where
    -- a node that begins
    pub record AtBegin (i : ℕ) (frames : List Frame) (stack : List Left) (done : List ℕ) : Type 0 where
      pub stands : BeginStands i frames values stack
      pub here : IsHere d pace coming i stands.v stands.outer done

    pub at_begin : {i : ℕ} {frames : List Frame} {stack : List Left} {done : List ℕ}
        → Stands d (state d takes before values pace coming (frame.Begin i ∷ frames)) stack done → AtBegin i frames stack done
    at_begin {done = done} stands =
        let t = begin_stands stands.shows in
        let is = subst (λ (l : List Left). IsStack d pace.next (fresh_at pace (length done)) l done) t.is stands.stack_is in
        record {
          stands = t;
          here = record {
            begun = begun_of d is;
            just = just_begun d is;
            place = stands.place;
            limit = stands.limit ∙ ap (λ (l : List Left). limit_in l) t.is;
            owed = subst (λ (l : List Left). AreOwed l done coming.bits) t.is stands.owed;
          };
        }

    -- it is entered, and this is left of it
    enters_as : {i : ℕ} {frames : List Frame} {top : Frame} {after : S} {stack : List Left} {done : List ℕ}
        (node : Node) (form : Left) (at : AtBegin i frames stack done)
        → slice_get d.nodes i ≡ Some node → takes before (Enter i) node after → around_of (top ∷ frames) ≡ i ∷ around_of frames
        → Shows d (top ∷ frames) values (form ∷ at.stands.outer) done
        → IsStack d (suc i) (fresh_at pace (length done)) (form ∷ at.stands.outer) done
        → limit_in (form ∷ at.stands.outer) ≡ limit_in at.stands.outer → AreOwed (form ∷ at.stands.outer) done coming.bits
        → Enters d node at.stands.v done form
        → GoesOn d takes (state d takes before values pace coming (frame.Begin i ∷ frames))
        (state d takes before values pace coming (top ∷ frames)) before after stack done
    enters_as {i} {frames} {top} {after} {stack} {done} node form at here told around shows is limit owed how =
        let P : List Left → Type 0 =
        λ l. GoesOn d takes (state d takes before values pace coming (frame.Begin i ∷ frames))
        (state d takes before values pace coming (top ∷ frames)) before after l done in
        let Q : ℕ → Type 0 = λ n. IsStack d n (fresh_at pace (length done)) (form ∷ at.stands.outer) done in
        subst P (sym at.stands.is)
        (still d takes before values pace coming pace at.here.place shows (subst Q (sym at.here.just) is) (at.here.limit ∙ sym limit) owed
        (passes_of coming.ended (replaced d coming.bits (none_taken d) (enters d i here how)))
        (rw around (tells_enter node _ here told (tells_none refl refl))))

    module _ {i : ℕ} {frames : List Frame} {stack : List Left} {done : List ℕ} (known : Known d)
        (stands : Stands d (state d takes before values pace coming (frame.Begin i ∷ frames)) stack done) where
      pub node_within : i < length d.nodes
      node_within = by (at_begin stands).here.begun.ready.formed
        where
          by : {seen : List ℕ} {round k : ℕ} → Formed d.nodes seen round k → k < length d.nodes
          by (formed n here few head have bound others) = slice_get_within d.nodes _ n here

      pub some_parts : (parts : List ℕ) → slice_get d.nodes i ≡ Some (Seq parts) → 0 < length parts
      some_parts parts here = omega (arith, has_parts parts here (at_begin stands).here.begun.ready.formed)

      pub field_fits : (unit n : ℕ) (count : Count) → slice_get d.nodes i ≡ Some (Field unit count) → n < 16777216 → unit * n < 4294967296
      field_fits unit n count here small = unit_fits unit n (formed_head d _ here (at_begin stands).here.begun.ready.formed).0 small

      pub keeps_field : (unit : ℕ) (count : Count) → slice_get d.nodes i ≡ Some (Field unit count) → (v : Values) × KeepsCount d v values count
      keeps_field unit count here =
          let a = at_begin stands in (
            a.stands.v,
            record {
              kept = a.stands.kept;
              has = has_number d _ (Field unit count)
                  count a.here.begun.ready.widths here (formed_head d _ here a.here.begun.ready.formed).1 (λ field e. e);
            },
          )

      pub keeps_turns : (part : ℕ) (count : Count) → slice_get d.nodes i ≡ Some (Times count part) → (v : Values) × KeepsCount d v values count
      keeps_turns part count here =
          let a = at_begin stands in (
            a.stands.v,
            record {
              kept = a.stands.kept;
              has = has_number d _ (Times count part)
                  count a.here.begun.ready.widths here (formed_head d _ here a.here.begun.ready.formed) (λ field e. e);
            },
          )

      pub keeps_window : (unit part : ℕ) (count : Count) → slice_get d.nodes i ≡ Some (Window unit count part) → (v : Values) × KeepsCount d v values count
      keeps_window unit part count here =
          let a = at_begin stands in (
            a.stands.v,
            record {
              kept = a.stands.kept;
              has = has_number d _ (Window unit count part)
                  count a.here.begun.ready.widths here (formed_head d _ here a.here.begun.ready.formed).1 (λ field e. e);
            },
          )

      -- its first part is the node behind it
      pub first_rises : (j : ℕ) (parts : List ℕ) (node : Node) → slice_get d.nodes i ≡ Some node
          → parts_of node ≡ parts → slice_get parts 0 ≡ Some j → pace.next ≤ j
      first_rises j [] node here is first = absurd (cc)
      first_rises j (p ∷ ps) node here is first =
          let same : p ≡ j = cc in
          let a = at_begin stands in
          omega (arith, a.here.just, same, first_next d 12 known.description known.certified here is)

      pub window_fits : (unit n part : ℕ) (count : Count) → slice_get d.nodes i ≡ Some (Window unit count part) → n < 16777216 → unit * n < 4294967296
      window_fits unit n part count here small = unit_fits unit n (formed_head d _ here (at_begin stands).here.begun.ready.formed).0 small

    module _ {i : ℕ} {frames : List Frame} {after : S} {stack : List Left} {done : List ℕ} (known : Known d)
        (stands : Stands d (state d takes before values pace coming (frame.Begin i ∷ frames)) stack done) where
      pub literal : (run : List Symbol) → IsEntered takes d.nodes before i (Lits run) after
          → GoesOn d takes (state d takes before values pace coming (frame.Begin i ∷ frames))
          (state d takes before values pace coming (frame.Leaf i (leaf.Lits 0) ∷ frames)) before after stack done
      literal run (here, told) =
          let a = at_begin stands in
          let some : 0 < length run = omega (arith, formed_head d _ here a.here.begun.ready.formed) in
          enters_as (Lits run) (symbols_left run) a here told refl (shows_leaf (shows_lits run here some refl)
          (a.stands.kept ∙ ap (λ v. numbers_of d v) a.stands.seen) a.stands.round)
          (literal_stack d 12 known.description known.certified here a.here.begun) refl a.here.owed (enter_literal d run a.stands.v done)

      -- and the pace is this
      pub literal_at : {now : Pace} (run : List Symbol) → now ≡ pace → IsEntered takes d.nodes before i (Lits run) after
          → GoesOn d takes (state d takes before values pace coming (frame.Begin i ∷ frames))
          (state d takes before values now coming (frame.Leaf i (leaf.Lits 0) ∷ frames)) before after stack done
      literal_at run paced told =
          let P : Pace → Type 0 =
          λ p. GoesOn d takes (state d takes before values pace coming (frame.Begin i ∷ frames))
          (state d takes before values p coming (frame.Leaf i (leaf.Lits 0) ∷ frames)) before after stack done in
          subst P (sym paced) (literal run told)

      pub spare : (symbol : Symbol) → IsEntered takes d.nodes before i (Spare symbol) after
          → GoesOn d takes (state d takes before values pace coming (frame.Begin i ∷ frames))
          (state d takes before values pace coming (frame.Leaf i leaf.Spare ∷ frames)) before after stack done
      spare symbol (here, told) =
          let a = at_begin stands in
          enters_as (Spare symbol) (spare_left symbol) a here told refl
          (shows_leaf (shows_spare here) (a.stands.kept ∙ ap (λ v. numbers_of d v) a.stands.seen) a.stands.round)
          (spare_stack d 12 known.description known.certified here a.here.begun) refl a.here.owed (enter_spare d symbol a.stands.v done)

      pub pad : IsEntered takes d.nodes before i Pad after
          → GoesOn d takes (state d takes before values pace coming (frame.Begin i ∷ frames))
          (state d takes before values pace coming (frame.Leaf i (leaf.Pad false) ∷ frames))
          before after stack done
      pad (here, told) =
          let a = at_begin stands in
          enters_as Pad (pad_left false) a here told refl (shows_leaf (shows_pad here) (a.stands.kept ∙ ap (λ v. numbers_of d v) a.stands.seen) a.stands.round)
          (pad_stack d 12 known.description known.certified here a.here.begun) refl a.here.owed (enter_pad d a.stands.v done)

      pub rest : IsEntered takes d.nodes before i Rest after
          → GoesOn d takes (state d takes before values pace coming (frame.Begin i ∷ frames))
          (state d takes before values pace coming (frame.Leaf i leaf.Rest ∷ frames)) before after stack done
      rest (here, told) =
          let a = at_begin stands in
          enters_as Rest rest_left a here told refl (shows_leaf (shows_rest here) (a.stands.kept ∙ ap (λ v. numbers_of d v) a.stands.seen) a.stands.round)
          (rest_stack d 12 known.description known.certified here a.here.begun) refl a.here.owed (enter_rest d a.stands.v done)

      pub field : (unit n m : ℕ) (count : Count) → IsEntered takes d.nodes before i (Field unit count) after
          → ((v : Values) → values ≡ numbers_of d v → count_of v count ≡ Some n) → m ≡ unit * n
          → GoesOn d takes (state d takes before values pace coming (frame.Begin i ∷ frames))
          (state d takes before values pace coming (frame.Leaf i (leaf.Field m) ∷ frames)) before after stack done
      field unit n m count (here, told) number size =
          let a = at_begin stands in
          let counts = number a.stands.v a.stands.kept in
          let P : ℕ → Type 0 = λ k. GoesOn d takes (state d takes before values pace coming (frame.Begin i ∷ frames))
          (state d takes before values pace coming (frame.Leaf i (leaf.Field k) ∷ frames))
          before after stack done in
          subst P (sym size)
          (enters_as (Field unit count) (bits_left (unit * n)) a here told refl
          (shows_leaf (shows_field unit count here) (a.stands.kept ∙ ap (λ v. numbers_of d v) a.stands.seen)
          a.stands.round)
          (field_stack d 12 known.description known.certified here counts a.here.begun) refl a.here.owed (enter_field d unit count n a.stands.v done counts))

      pub choice : (parts : List ℕ) → IsEntered takes d.nodes before i (Choice parts) after
          → GoesOn d takes (state d takes before values pace coming (frame.Begin i ∷ frames))
          (state d takes before values pace coming (frame.Open i ∷ frames)) before after stack done
      choice parts (here, told) =
          let a = at_begin stands in
          enters_as (Choice parts) (choice_left parts a.stands.v) a here told refl (shows_open here a.stands.seen a.stands.kept a.stands.round)
          (choice_stack d 12 known.description known.certified here a.here.begun) refl a.here.owed (enter_choice d parts a.stands.v done)

      pub turns : (n part : ℕ) (count : Count) → IsEntered takes d.nodes before i (Times count part) after
          → ((v : Values) → values ≡ numbers_of d v → count_of v count ≡ Some n)
          → GoesOn d takes (state d takes before values pace coming (frame.Begin i ∷ frames))
          (state d takes before values pace coming (frame.Times i part n ∷ frames)) before after stack done
      turns n part count (here, told) number =
          let a = at_begin stands in
          let counts = number a.stands.v a.stands.kept in
          enters_as (Times count part) (turns_left n part a.stands.v) a here told refl
          (shows_turns (record { count = count; at = here; seen = a.stands.seen }) a.stands.kept a.stands.round)
          (turns_stack d 12 known.description known.certified here counts a.here.begun) refl a.here.owed
          (enter_turns d count part n i a.stands.v done known.have_moves here counts)

      pub free : (part : ℕ) → IsEntered takes d.nodes before i (Many part) after
          → GoesOn d takes (state d takes before values pace coming (frame.Begin i ∷ frames))
          (state d takes before values pace coming (frame.Many i part ∷ frames)) before after stack done
      free part (here, told) =
          let a = at_begin stands in
          enters_as (Many part) (free_left part a.stands.v) a here told refl
          (shows_free (record { at = here; seen = a.stands.seen }) a.stands.kept a.stands.round)
          (free_stack d 12 known.description known.certified here a.here.begun) refl a.here.owed (enter_free d part i a.stands.v done known.have_moves here)

      pub truncation : (parts : List ℕ) (count : ℕ) → IsEntered takes d.nodes before i (Trunc parts) after → count ≡ length values
          → GoesOn d takes (state d takes before values pace coming (frame.Begin i ∷ frames))
          (state d takes before values pace coming (frame.Trunc i 0 count ∷ frames)) before after stack done
      truncation parts count (here, told) size =
          let a = at_begin stands in
          enters_as (Trunc parts) (cut_left parts a.stands.v) a here told refl (shows_cut here a.stands.seen a.stands.kept size a.stands.round)
          (cut_stack d 12 known.description known.certified here a.here.begun) refl a.here.owed (enter_cut d parts i a.stands.v done known.have_moves here)

      -- a sequence, whose first part begins
      pub sequence : (parts : List ℕ) (j count : ℕ) → IsEntered takes d.nodes before i (Seq parts) after → slice_get parts 0 ≡ Some j → count ≡ length values
          → GoesOn d takes (state d takes before values pace coming (frame.Begin i ∷ frames))
          (record {
            frames = frame.Begin j ∷ frame.Seq i 1 count ∷ frames;
            values = values;
            pace =
                begun_by j pace;
            coming = coming;
          }) before after stack done
      sequence [] j count (here, told) first size = absurd (cc)
      sequence (p ∷ ps) j count (here, told) first size =
          let a = at_begin stands in
          let same : p ≡ j = cc in
          let P : List Left → Type 0 =
          λ l. GoesOn d takes (state d takes before values pace coming (frame.Begin i ∷ frames))
          (record {
            frames = frame.Begin j ∷ frame.Seq i 1 count ∷ frames;
            values = values;
            pace =
                begun_by j pace;
            coming = coming;
          }) before after l done in
          let here_j : slice_get d.nodes i ≡ Some (Seq (j ∷ ps)) = here ∙ ap (λ n. Some (Seq (n ∷ ps))) same in
          let next : HasNext d (Seq (j ∷ ps)) (j ∷ ps) i 1 count j ps a.stands.v a.stands.outer = record {
            at = here_j;
            before = [];
            is = refl;
            next_is = refl;
            more = record {
              count_is = size ∙ ap (λ l. length l) (a.stands.kept ∙ ap (λ w. numbers_of d w) a.stands.seen);
              same = ap (λ n. take n (numbers_of d a.stands.v)) (size ∙ ap (λ l. length l) a.stands.kept)
                  ∙ take_all (length (numbers_of d a.stands.v)) (numbers_of d a.stands.v) (omega arith)
                  ∙ ap (λ w. numbers_of d w) a.stands.seen;
            };
          } in
          let is_first = first_next d 12 known.description known.certified here_j refl in
          let told_j = subst (λ n. takes before (Enter i) (Seq (n ∷ ps)) after) same told in
          subst P (sym a.stands.is)
          (still d takes before values pace coming (begun_by j pace) a.here.place (shows_begin refl a.stands.kept (round_seq (j ∷ ps) next a.stands.round))
          (risen d pace (omega (arith, a.here.just, is_first))
          (of_begun d (sequence_begun d 12 known.description known.certified here_j a.here.begun)))
          a.here.limit a.here.owed
          (passes_of coming.ended (split d a.stands.outer coming.bits (enter_sequence d (moving d known) i j ps a.stands.v done here_j)))
          (tells_enter (Seq (j ∷ ps)) _ here_j told_j (tells_none refl refl)))

      -- a window, whose part begins
      pub window : (unit n part bits : ℕ) (count : Count) (later : Coming) → IsEntered takes d.nodes before i (Window unit count part) after
          → ((v : Values) → values ≡ numbers_of d v → count_of v count ≡ Some n) → bits ≡ unit * n
          → later.bits ≡ coming.bits → later.ended ≡ coming.ended → later.place ≡ coming.place → later.limit ≡ min coming.limit (coming.place + bits)
          → GoesOn d takes (state d takes before values pace coming (frame.Begin i ∷ frames))
          (record {
            frames = frame.Begin part ∷ frame.Window i coming.place bits coming.limit ∷ frames;
            values =
                values;
            pace = begun_by part pace;
            coming = later;
          }) before after stack done
      window unit n part bits count later (here, told) number size same_bits same_ended same_place limit =
          let a = at_begin stands in
          let counts = number a.stands.v a.stands.kept in
          let P : List Left → Type 0 =
          λ l. GoesOn d takes (state d takes before values pace coming (frame.Begin i ∷ frames))
          (record {
            frames = frame.Begin part ∷ frame.Window i coming.place bits coming.limit ∷ frames;
            values =
                values;
            pace = begun_by part pace;
            coming = later;
          }) before after l done in
          let end : coming.place + bits ≡ length done + unit * n = ap (λ o. o + bits) a.here.place ∙ ap (λ b. length done + b) size in
          let cuts : Cuts d i part coming.limit a.stands.outer = record { unit = unit; count = count; at = here; limit_is = a.here.limit } in
          let is_first = first_next d 12 known.description known.certified here refl in
          subst P (sym a.stands.is)
          (still_until d takes before values pace coming (begun_by part pace) later same_bits same_ended (same_place ∙ a.here.place)
          (shows_begin a.stands.seen a.stands.kept (round_window (sym end) cuts a.stands.round))
          (risen d pace (omega (arith, a.here.just, is_first)) (of_begun d (window_begun d 12 known.description known.certified here counts a.here.begun)))
          (limit ∙ ap (λ l. min l (coming.place + bits)) a.here.limit ∙ ap (λ e. min (limit_in a.stands.outer) e) end)
          (subst (λ (l : List ℕ). AreOwed a.stands.outer done l) (sym same_bits) a.here.owed)
          (passes_of coming.ended (split d a.stands.outer later.bits (enter_window d (moving d known) i part unit count n a.stands.v done here counts)))
          (tells_enter (Window unit count part) _ here told (tells_none refl refl)))

      -- a node without bits is entered and left
      pub null : (last : S) → IsEntered takes d.nodes before i Null after → takes after Leave Null last
          → GoesOn d takes (state d takes before values pace coming (frame.Begin i ∷ frames))
          (state d takes before values pace coming frames) before last stack done
      null last (here, told) left =
          let a = at_begin stands in
          let P : List Left → Type 0 =
          λ l. GoesOn d takes (state d takes before values pace coming (frame.Begin i ∷ frames))
          (state d takes before values pace coming frames) before last l done in
          let Q : ℕ → Type 0 = λ n. IsStack d n (fresh_at pace (length done)) (none_left ∷ a.stands.outer) done in
          let is = subst Q (sym a.here.just) (null_stack d 12 known.description known.certified here a.here.begun) in
          let behind = left_stack d pace known is in
          let entered = passes_of coming.ended (replaced d coming.bits (none_taken d) (enters d i here (enter_null d a.stands.v done))) in
          let gone = passes_of coming.ended (popped d coming.bits (nothing_goes d (moving d known) known.empties behind)) in
          let Q : List ℕ → Type 0 = λ l. Passes d coming.ended (none_left ∷ a.stands.outer) a.stands.outer l [] coming.bits (Leave ∷ []) in
          subst P (sym a.stands.is)
          (still d takes before values pace coming pace a.here.place
          (shown_behind d done a.stands.round (a.stands.kept ∙ ap (λ w. numbers_of d w) a.stands.seen ∙ sym
          (kept_unnamed d done a.stands.round (unnamed d _ here refl))))
          behind a.here.limit a.here.owed
          (steps_then d [] [] entered (subst Q (sym (append-nil done)) gone))
          (tells_enter Null _ here told (tells_leave Null _ here left (tells_none refl refl))))

-- what stands behind a step stands somewhere
pub stands_behind : {d : DescV} {S : Type 0} {takes : S → Move → Node → S → Type 0} {old new : StateV} {before after : S} {stack : List Left} {done : List ℕ}
    → Known d → GoesOn d takes old new before after stack done → StandsSomewhere d new
stands_behind {done = done} known on = record { known = known; stack = on.now; done = done ++ on.taken; stands = on.stands }
