-- Labels are entered.
use Rattle.std.proofs.Common.{◌≡◌, ℕ, ◌*◌, ◌≤◌, true, false, List, [], ◌∷◌, length, drop, refl, sym, ◌∙◌, ap, subst}
use Rattle.std.proofs.Common.{arith, append-nil, Option, Some, slice_get, ◌<◌}
use Rattle.std.proofs.lemmas.List.{drop_all}
use Rattle.csn_bits.specs.Numbers.{number_of}
use Rattle.csn_desc.specs.declared.moves.Move.{Move}
use Rattle.csn_desc.specs.declared.moves.Move.TheVariants.{Enter}
use Rattle.csn_desc.specs.declared.node.Count.{Count}
use Rattle.csn_desc.specs.declared.node.Count.TheVariants.{Fixed}
use Rattle.csn_desc.specs.declared.node.Node.{Node}
use Rattle.csn_desc.specs.declared.node.Node.TheVariants.{Field, Named}
use Rattle.csn_desc.specs.Nodes.{DescV}
use Rattle.csn_desc.specs.Values.{Values, count_of}
use Rattle.csn_desc.specs.Formed.{is_counted}
use Rattle.csn_judge.specs.declared.frame.Frame.{Frame}
use Rattle.csn_judge.specs.declared.frame.Frame.TheVariants as frame
use Rattle.csn_judge.specs.declared.leaf.Leaf.TheVariants as leaf
use Rattle.csn_certify.specs.declared.numbers.Number.{Number}
use Rattle.csn_judge.specs.declared.pace.Pace.{Pace}
use Rattle.csn_judge.specs.Known.{Known}
use Rattle.csn_judge.specs.Coming.{Coming}
use Rattle.csn_judge.specs.Told.{tells_none, tells_enter}
use Rattle.csn_judge.specs.Left.{Left, all_left, bits_left, none_left}
use Rattle.csn_judge.specs.Remains.{Passes}
use Rattle.csn_judge.specs.Inside.{IsStack, AreOwed}
use Rattle.csn_certify.specs.KeptNumbers.{numbers_of}
use Rattle.csn_judge.specs.Shown.{limit_in, round_named, Shows, shows_begin, shows_counted}
use Rattle.csn_judge.specs.Turns.{StateV, fresh_at, begun_by, Stands, GoesOn}
use Rattle.csn_judge.proofs.StepFacts.{split, replaced, none_taken, steps_then}
use Rattle.csn_judge.proofs.Closing.{passes_of}
use Rattle.csn_judge.proofs.Entering.{enters, enter_field}
use Rattle.csn_judge.proofs.Wholes.{enter_label}
use Rattle.csn_judge.proofs.Stacks.{begun_of, of_begun, just_begun, first_next, label_begun, field_stack}
use Rattle.csn_judge.proofs.Turning.{moving, risen, still, begun_within, room, round_length}
use Rattle.csn_judge.proofs.TurningCounted.{counted_width}
use Rattle.csn_judge.proofs.CountedParents.{counted_began}
use Rattle.csn_judge.proofs.TurningEntry.{begin_stands, field}
use Rattle.csn_judge.proofs.TurningOn.{on_then}

module _ (d : DescV) where
  -- the part of a label begins by the next number
  pub part_rises : {next : ℕ} {fresh : Option ℕ} {i part : ℕ} {label : List ℕ} {v : Values} {outer : List Left}
      {done : List ℕ} → Known d → slice_get d.nodes i ≡ Some (Named label part)
      → IsStack d next fresh (all_left i v ∷ outer) done → next ≤ part
  part_rises known at is = omega (arith, just_begun d is, first_next d 12 known.description known.certified at refl)

  pub named_stack : {i part : ℕ} {label : List ℕ} {v : Values} {outer : List Left} {done : List ℕ} (pace : Pace)
      → Known d → slice_get d.nodes i ≡ Some (Named label part)
      → IsStack d pace.next (fresh_at pace (length done)) (all_left i v ∷ outer) done
      → IsStack d (begun_by part pace).next (fresh_at (begun_by part pace) (length done)) (all_left part v ∷ none_left ∷ outer) done
  named_stack pace known at is =
      risen d pace (part_rises known at is) (of_begun d (label_begun d 12 known.description known.certified at (begun_of d is)))

  -- the part of a label that begins is a node, which was not reached before, and there is room for the frame round it
  pub record LabelBegins (part : ℕ) (frames : List Frame) (pace : Pace) : Type 0 where
    pub within : part < length d.nodes
    pub rises : pace.next ≤ part
    pub room : length frames < 63

  pub label_begins : {i part : ℕ} {label : List ℕ} {frames : List Frame} {values : List Number} {stack : List Left}
      {done : List ℕ} (pace : Pace) → Known d → slice_get d.nodes i ≡ Some (Named label part)
      → Shows d (frame.Begin i ∷ frames) values stack done → IsStack d pace.next (fresh_at pace (length done)) stack done → LabelBegins part frames pace
  label_begins {done = done} pace known at shows is =
      let t = begin_stands d shows in
      let here = subst (λ (l : List Left). IsStack d pace.next (fresh_at pace (length done)) l done) t.is is in
      let begun = named_stack pace known at here in
      record { within = begun_within d begun; rises = part_rises known at here; room = omega (arith, room d begun, round_length d t.round) }

  pub counted_stack : {i part unit width : ℕ} {label : List ℕ} {v : Values} {outer : List Left} {done : List ℕ}
      (pace : Pace) → Known d → slice_get d.nodes i ≡ Some (Named label part)
      → slice_get d.nodes part ≡ Some (Field unit (Fixed width))
      → IsStack d pace.next (fresh_at pace (length done)) (all_left i v ∷ outer) done
      → IsStack d (begun_by part pace).next (fresh_at (begun_by part pace) (length done)) (bits_left (unit * width) ∷ none_left ∷ outer) done
  counted_stack {v = v} pace known at look is = field_stack d 12 known.description known.certified look refl (begun_of d (named_stack pace known at is))

  module _ {S : Type 0} (takes : S → Move → Node → S → Type 0) (first : S) (values : List Number) (pace : Pace)
      (coming : Coming) (i : ℕ) (frames : List Frame) where
    abbrev begin_state : StateV
    begin_state = record { frames = frame.Begin i ∷ frames; values = values; pace = pace; coming = coming }

    -- its part begins
    pub label_goes_on : {part : ℕ} {after : S} {stack : List Left} {done : List ℕ} (label : List ℕ) (node : Node)
        → Known d → is_counted d.nodes i ≡ false → slice_get d.nodes i ≡ Some (Named label part)
        → slice_get d.nodes i ≡ Some node → takes first (Enter i) node after → Stands d begin_state stack done
        → GoesOn d takes begin_state (record {
          frames = frame.Begin part ∷ frame.Named i ∷ frames;
          values =
              values;
          pace = begun_by part pace;
          coming = coming;
        }) first after stack done
    label_goes_on {part} {after} {stack} {done} label node known alone at look took stands =
        let t = begin_stands d stands.shows in
        let P : List Left → Type 0 = λ l. GoesOn d takes begin_state
        (record {
          frames = frame.Begin part ∷ frame.Named i ∷ frames;
          values = values;
          pace =
              begun_by part pace;
          coming = coming;
        }) first after l done in
        subst P (sym t.is)
        (still d takes first values pace coming (begun_by part pace) stands.place
        (shows_begin t.seen t.kept (round_named (record { label = label; at = at; alone = alone }) t.round))
        (named_stack pace known at (subst (λ (l : List Left). IsStack d pace.next (fresh_at pace (length done)) l done) t.is stands.stack_is))
        (stands.limit ∙ ap (λ (l : List Left). limit_in l) t.is)
        (subst (λ (l : List Left). AreOwed l done coming.bits) t.is stands.owed)
        (passes_of coming.ended (split d t.outer coming.bits (enter_label d (moving d known) i part label t.v done at)))
        (tells_enter node after look took (tells_none refl refl)))

    -- a field that it stands before is entered with it
    pub field_goes_on : {part unit n m : ℕ} {count : Count} {middle after : S} {stack : List Left} {done : List ℕ}
        {now : Pace} (label : List ℕ) (node : Node) → Known d → is_counted d.nodes i ≡ false
        → slice_get d.nodes i ≡ Some (Named label part)
        → slice_get d.nodes i ≡ Some node → takes first (Enter i) node middle → slice_get d.nodes part ≡ Some
        (Field unit count) → takes middle (Enter part) (Field unit count) after
        → ((v : Values) → values ≡ numbers_of d v → count_of v count ≡ Some n) → m ≡ unit * n → now ≡ begun_by part pace → Stands d begin_state stack done
        → GoesOn d takes begin_state
        (record {
          frames = frame.Leaf part (leaf.Field m) ∷ frame.Named i ∷ frames;
          values = values;
          pace =
              now;
          coming = coming;
        }) first after stack done
    field_goes_on {part} {unit} {n} {m} {count} {middle} {after} {stack} {done} label node known alone at look took field_at told counts size paced stands =
        let on = label_goes_on label node known alone at look took stands in
        let P : Pace → Type 0 = λ p. GoesOn d takes begin_state
        (record {
          frames = frame.Leaf part (leaf.Field m) ∷ frame.Named i ∷ frames;
          values = values;
          pace =
              p;
          coming = coming;
        }) first after stack done in
        subst P (sym paced)
        (on_then d takes on (field d takes middle values (begun_by part pace) coming known on.stands unit n m
        count (field_at, told) counts size))

    -- the field on which counts stand is entered with it
    pub counted_goes_on : {part unit width : ℕ} {middle after : S} {stack : List Left} {done : List ℕ} {now : Pace}
        (label : List ℕ) (node field : Node) → Known d → is_counted d.nodes i ≡ true
        → slice_get d.nodes i ≡ Some (Named label part)
        → slice_get d.nodes part ≡ Some (Field unit (Fixed width)) → slice_get d.nodes i ≡ Some node
        → takes first (Enter i) node middle → slice_get d.nodes part ≡ Some field
        → takes middle (Enter part) field after
        → now ≡ begun_by part pace → Stands d begin_state stack done
        → GoesOn d takes begin_state
        (record {
          frames = frame.Counted (record { node = i; part = part; left = unit * width; number = 0 })
              ∷ frames;
          values = values;
          pace = now;
          coming = coming;
        }) first after stack done
    counted_goes_on {part} {unit} {width} {middle} {after} {stack} {done} label node field known counted at width_at
        look took look_field took_field paced stands =
        let t = begin_stands d stands.shows in
        let is = subst (λ (l : List Left). IsStack d pace.next (fresh_at pace (length done)) l done) t.is stands.stack_is in
        let begun = begun_of d is in
        let began = counted_began d known.description counted begun.inner in
        let none : 0 ≡ number_of (drop (length done) done) = sym (ap (λ l. number_of l) (drop_all (length done) done (omega arith))) in
        let first_step = passes_of coming.ended (split d t.outer coming.bits (enter_label d (moving d known) i part label t.v done at)) in
        let L : List ℕ → Type 0 = λ l. Passes d coming.ended (all_left part t.v ∷ none_left ∷ t.outer)
        (bits_left (unit * width) ∷ none_left ∷ t.outer) l [] coming.bits (Enter part ∷ []) in
        let second_step = subst L (sym (append-nil done))
        (passes_of coming.ended
        (replaced d coming.bits (none_taken d)
        (enters d part width_at (enter_field d unit (Fixed width) width t.v done refl)))) in
        let P : List Left → Type 0 = λ l. GoesOn d takes begin_state
        (record {
          frames = frame.Counted (record { node = i; part = part; left = unit * width; number = 0 })
              ∷ frames;
          values = values;
          pace = begun_by part pace;
          coming = coming;
        }) first after l done in
        let Q : Pace → Type 0 = λ p. GoesOn d takes begin_state
        (record {
          frames = frame.Counted (record { node = i; part = part; left = unit * width; number = 0 })
              ∷ frames;
          values = values;
          pace = p;
          coming = coming;
        }) first after stack done in
        subst Q (sym paced) (subst P (sym t.is)
        (still d takes first values pace coming (begun_by part pace) stands.place
        (shows_counted label unit width (length done) at width_at counted began none (omega arith) refl
        (omega (arith, (counted_width d known i label counted at width_at).0)) refl
        (t.kept ∙ ap (λ v. numbers_of d v) t.seen) t.round)
        (counted_stack pace known at width_at is)
        (stands.limit ∙ ap (λ (l : List Left). limit_in l) t.is)
        (subst (λ (l : List Left). AreOwed l done coming.bits) t.is stands.owed)
        (steps_then d [] [] first_step second_step)
        (tells_enter node middle look took (tells_enter field after look_field took_field (tells_none refl refl)))))
