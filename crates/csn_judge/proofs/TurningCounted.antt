-- Turns of the frames of labelled fields that counts stand on.
use Rattle.std.proofs.Common.{inl, inr, ◌≡◌, ◌⊎◌, ℕ, zero, suc, ◌+◌, ◌-◌, ◌*◌, ◌^◌, ◌%◌, ◌<◌, ◌≤◌, Bool, true, false}
use Rattle.std.proofs.Common.{List, [], ◌∷◌, ◌++◌, length, drop, map, refl, sym, ◌∙◌, ap, subst, arith, append-nil}
use Rattle.std.proofs.Common.{length-append, length-drop, Option, Some, None, slice_get}
use Rattle.std.specs.Option.{option_and_then}
use Rattle.std.specs.Int.Bits.{bit_or}
use Rattle.std.proofs.Math.Pow.{pow_mono}
use Rattle.std.proofs.lemmas.Nat.{or_shifted}
use Rattle.std.proofs.lemmas.List.{drop-append-le, append_cancel_right, nil_from_length}
use Rattle.std.proofs.lemmas.Bool.Decides.{leb_tells}
use Rattle.csn_bits.specs.Octets.{IsBits}
use Rattle.csn_bits.specs.Numbers.{number_of}
use Rattle.csn_desc.specs.declared.moves.Move.{Move}
use Rattle.csn_desc.specs.declared.moves.Move.TheVariants.{Bit, Leave}
use Rattle.csn_desc.specs.declared.node.Count.TheVariants.{Fixed, Counted as CountedBy}
use Rattle.csn_desc.specs.declared.node.Node.{Node}
use Rattle.csn_desc.specs.declared.node.Node.TheVariants.{Lits, Spare, Pad, Null, Field, Rest, Seq, Choice, Times, Many, Trunc, Window, Named}
use Rattle.csn_desc.specs.Nodes.{DescV}
use Rattle.csn_desc.specs.Values.{Values, is_named, is_labelled}
use Rattle.csn_desc.specs.Formed.{is_counted, value_width, width_of, labelled_part}
use Rattle.csn_certify.proofs.CountedValues.{FewBits, few_bits}
use Rattle.csn_certify.proofs.KeptNumbers.{number_room}
use Rattle.csn_judge.specs.declared.frame.Frame.{Frame}
use Rattle.csn_judge.specs.declared.frame.Frame.TheVariants as frame
use Rattle.csn_judge.specs.declared.frame.Counted.{Counted}
use Rattle.csn_certify.specs.declared.numbers.Number.{Number}
use Rattle.csn_judge.specs.declared.pace.Pace.{Pace}
use Rattle.csn_judge.specs.declared.turn.Turn.{Turn}
use Rattle.csn_judge.specs.declared.turn.Turn.TheVariants.{Moved, Waits, Refused}
use Rattle.csn_judge.specs.Known.{Known}
use Rattle.csn_judge.specs.Coming.{Coming}
use Rattle.csn_judge.specs.Left.{Left, bits_left, none_left}
use Rattle.csn_judge.specs.Inside.{AreOwed, IsReady, Inside, inside_choice, inside_label, inside_parts, inside_lead, IsStack, stack_end, stack_node}
use Rattle.csn_certify.specs.KeptNumbers.{numbers_of}
use Rattle.csn_judge.specs.Shown.{limit_in, seen_in, seen_behind, Round, BeganAt, began_part, began_lead, Shows, shows_counted}
use Rattle.csn_bits.proofs.NumberFacts.{number_of-append, number_of-lt}
use Rattle.csn_judge.specs.Told.{BitsTold, Tells, tells_none, tells_leave}
use Rattle.csn_judge.specs.Remains.{Passes}
use Rattle.csn_judge.specs.Turns.{IsStopped, Turns, fresh_at, StateV, Stands, GoesOn, around_of}
use Rattle.csn_judge.proofs.StepFacts.{popped, steps_none, steps_then}
use Rattle.csn_judge.proofs.Closing.{passes_of}
use Rattle.csn_judge.proofs.Choosing.{nothing_goes}
use Rattle.csn_judge.proofs.Refusing.{bits_wanted}
use Rattle.csn_judge.proofs.Turning.{moving, shown_behind, left_stack}
use Rattle.csn_judge.proofs.TurningOn.{waits_then, refuses_then}
use Rattle.csn_judge.proofs.LeafReads.{Given, IsReadied, taken_of, split, size, good_taken, field_all, field_some}
use Rattle.csn_judge.proofs.TurningLeaves.{paced, paced_stack, tells_bits, IsShort, stops_short}
use Rattle.csn_bits.proofs.Packing.{IsBits-append}

-- ---- a labelled field that some count stands on

module _ (d : DescV) where
  -- it has 1 to 16 bits
  pub counted_width : Known d → (k : ℕ) {part unit width : ℕ} (label : List ℕ) → is_counted d.nodes k ≡ true → slice_get d.nodes k ≡ Some (Named label part)
      → slice_get d.nodes part ≡ Some (Field unit (Fixed width)) → (1 ≤ unit * width) × (unit * width ≤ 16)
  counted_width known k {part} {unit} {width} label counted at look =
      let is : value_width d.nodes k ≡ Some (unit * width) =
      ap (λ n. option_and_then (λ p. width_of (slice_get d.nodes p)) (labelled_part n)) at
      ∙ ap (λ n. width_of n) look in
      let P : Option ℕ → Type 0 = λ w. FewBits w in
      subst P is (few_bits d known.description k counted)

  -- ---- the values that it sees

  began_ready : {fresh : Option ℕ} {outer : List Left} {k f node from : ℕ} {v : Values}
      → BeganAt d node from outer → Inside d fresh outer k f v → IsReady d k f (length outer) v
      → IsReady d node from (length outer) (seen_in outer)
  began_ready began_part (inside_parts k start v0 parts before at cut so_far order none fits well ready0 inner) ready = ready
  began_ready began_lead (inside_lead k start v0 parts before at cut so_far order fits well ready0 inner) ready = ready

  pub counted_ready : {next : ℕ} {fresh : Option ℕ} {n node from part : ℕ} {outer : List Left} {done : List ℕ} (label : List ℕ)
      → slice_get d.nodes node ≡ Some (Named label part) → IsStack d next fresh (bits_left n ∷ none_left ∷ outer) done → BeganAt d node from outer
      → IsReady d node from (length outer) (seen_in outer)
  counted_ready {node = node} {from = from} {outer = outer} label at (stack_node i f v bits ready left inner) began = by inner began
    where
      by : {fresh : Option ℕ} {i f : ℕ} {v : Values} → Inside d fresh (none_left ∷ outer) i f v
          → BeganAt d node from outer → IsReady d node from (length outer) (seen_in outer)
      by (inside_choice k j parts at_choice here ready inner) began = began_ready began inner ready
      by (inside_label k at_label ready inner) began = began_ready began inner ready

  -- fewer than 64 values are kept before it
  pub room_for_value : {round i from : ℕ} {v : Values} → IsReady d i from round v → is_counted d.nodes i ≡ true → length (numbers_of d v) < 64
  room_for_value {v = v} ready counted = number_room d v ready.formed counted

  -- and then its own
  pub kept_more : {node from : ℕ} {outer : List Left} (label : List ℕ) {part : ℕ} (done : List ℕ) → BeganAt d node from outer → is_counted d.nodes node ≡ true
      → slice_get d.nodes node ≡ Some (Named label part)
      → numbers_of d (seen_behind d outer done) ≡ numbers_of d (seen_in outer) ++ record { field = node; value = number_of (drop from done) } ∷ []
  kept_more {node} {from} label done (began_part {v = v}) counted at =
      let named : is_named d.nodes node ≡ true = ap (λ n. is_labelled n) at in
      rw (named, counted) refl
  kept_more {node} {from} label done (began_lead {v = v}) counted at =
      let named : is_named d.nodes node ≡ true = ap (λ n. is_labelled n) at in
      rw (named, counted) refl

-- ---- its number

-- the bits that are taken behind those that are there
pub number_more : (front back : List ℕ) (number bits n : ℕ) → IsBits front → IsBits back → length back ≡ n
    → length front + n ≤ 16 → number ≡ number_of front → bits ≡ number_of back
    → bit_or (number * 2 ^ n % 4294967296) bits ≡ number_of (front ++ back)
number_more front back number bits n good more size few is_front is_back =
    let small : number < 2 ^ length front = omega (arith, is_front, number_of-lt front good) in
    let less : bits < 2 ^ n = omega (arith, is_back, number_of-lt back more, ap (λ (k : ℕ). 2 ^ k) size) in
    let word : 2 ^ 16 ≡ 65536 = refl in
    let whole : number_of (front ++ back) ≡ number * 2 ^ n + bits =
    number_of-append front back ∙ ap (λ k. number_of front * 2 ^ k + number_of back) size
    ∙ ap (λ k. k * 2 ^ n + number_of back) (sym is_front) ∙ ap (λ k. number * 2 ^ n + k) (sym is_back) in
    let long : length (front ++ back) ≤ 16 = omega (arith, length-append front back, size, few) in
    let all : number_of (front ++ back) < 65536 = omega (arith, number_of-lt (front ++ back) (IsBits-append front back good more), pow_mono long, word) in
    let high : number * 2 ^ n % 4294967296 ≡ number * 2 ^ n = below (number * 2 ^ n) (omega (arith, all, whole)) in
    ap (λ k. bit_or k bits) high ∙ or_shifted number n bits less ∙ sym whole
  where
    below : (k : ℕ) → k < 65536 → k % 4294967296 ≡ k
    below k small = omega (arith, small)

pub number_taken : {most n left number bits : ℕ} {old new : Coming} (g : Given most n old new) → bits ≡ number_of (taken_of g) → n ≤ left
    → (front : List ℕ) → IsBits front → length front + left ≤ 16 → number ≡ number_of front
    → bit_or (number * 2 ^ n % 4294967296) bits ≡ number_of (front ++ taken_of g)
number_taken {n = n} {number = number} {bits = bits} g is less front good few so_far =
    number_more front (taken_of g) number bits n good (good_taken g) (size g) (omega (arith, less, few)) so_far is

module _ (d : DescV) where
  -- ---- a labelled field that counts stand on, of which bits are left

  pub record CountedStands (counted : Counted) (frames : List Frame) (values : List Number) (stack : List Left) (done : List ℕ) : Type 0 where
    pub outer : List Left
    pub is : stack ≡ bits_left counted.left ∷ none_left ∷ outer
    pub label : List ℕ
    pub unit : ℕ
    pub width : ℕ
    pub from : ℕ
    pub at : slice_get d.nodes counted.node ≡ Some (Named label counted.part)
    pub field : slice_get d.nodes counted.part ≡ Some (Field unit (Fixed width))
    pub counts : is_counted d.nodes counted.node ≡ true
    pub began : BeganAt d counted.node from outer
    pub number : counted.number ≡ number_of (drop from done)
    pub order : from ≤ length done
    pub sum : length done + counted.left ≡ from + unit * width
    pub some : 0 < counted.left
    pub kept : values ≡ numbers_of d (seen_in outer)
    pub round : Round d frames outer counted.node

  pub counted_stands : {counted : Counted} {frames : List Frame} {values : List Number} {stack : List Left} {done : List ℕ}
      → Shows d (frame.Counted counted ∷ frames) values stack done → CountedStands counted frames values stack done
  counted_stands (shows_counted {outer = outer} label unit width from at field counts began number order sum some n kept round) =
      record {
        outer = outer;
        is = ap (λ k. bits_left k ∷ none_left ∷ outer) n;
        label = label;
        unit = unit;
        width = width;
        from = from;
        at = at;
        field = field;
        counts = counts;
        began = began;
        number = number;
        order = order;
        sum = sum;
        some = some;
        kept = kept;
        round = round;
      }

  -- few bits are left
  pub counted_few : Known d → {counted : Counted} {frames : List Frame} {values : List Number} {stack : List Left} {done : List ℕ}
      → (t : CountedStands counted frames values stack done) → (length (drop t.from done) + counted.left ≤ 16)
      × (length done + counted.left ≡ t.from + t.unit * t.width)
  counted_few known {counted} {done = done} t =
      let bounds = counted_width d known counted.node t.label t.counts t.at t.field in
      (omega (arith, bounds.1, t.sum, t.order, length-drop t.from done), t.sum)

  bits_from : (n : ℕ) (done : List ℕ) → IsBits done → IsBits (drop n done)
  bits_from zero done good = good
  bits_from (suc n) [] good = tt
  bits_from (suc n) (a ∷ done) good = bits_from n done good.1

  good_of_stack : {next : ℕ} {fresh : Option ℕ} {stack : List Left} {done : List ℕ} → IsStack d next fresh stack done → IsBits done
  good_of_stack (stack_end good) = good
  good_of_stack (stack_node i from v good ready left inner) = good

  -- no bit can come where none is ready
  closed_of : {most n : ℕ} {old new : Coming} → IsReadied most n old new → n ≡ 0 → 0 < most → (new.bits ≡ []) ⊎ (new.place ≡ new.limit)
  closed_of {most} {n} {old} {new} r none some =
      elim (leb_tells 1 (length new.bits)) [
        | inl there ↦ inr (omega (arith, there.1, some, none, r.count, r.good.inside))
        | inr few ↦ inl (nil_from_length new.bits (omega (arith, few.1)))
      ]

  module _ {S : Type 0} (takes : S → Move → Node → S → Type 0) (before : S) (values : List Number) (pace : Pace)
      (old new : Coming) (counted : Counted) (frames : List Frame) (field : Node) where
    abbrev counted_from : StateV
    counted_from = record { frames = frame.Counted counted ∷ frames; values = values; pace = pace; coming = old }

    same_taken : {most n : ℕ} (g : Given most n old new) {taken : List ℕ} → old.bits ≡ taken ++ new.bits → taken ≡ taken_of g
    same_taken g {taken} is = append_cancel_right taken (taken_of g) new.bits (sym is ∙ split g)

    -- its number, behind the bits that are taken
    numbered_by : {most n number : ℕ} (g : Given most n old new) (done : List ℕ) {taken : List ℕ} (from : ℕ)
        → from ≤ length done → taken ≡ taken_of g → number ≡ number_of (drop from done ++ taken_of g)
        → number ≡ number_of (drop from (done ++ taken))
    numbered_by g done {taken} from order same is = is ∙ ap (λ l. number_of (drop from done ++ l)) (sym same)
        ∙ ap (λ l. number_of l) (sym (drop-append-le from done taken order))

    -- some bits are taken
    pub counted_on : {most n number : ℕ} (g : Given most n old new) (after : S) {others : List Frame} {next : Pace}
        → Known d → slice_get d.nodes counted.part ≡ Some field
        → 0 < n → n < counted.left → next ≡ paced true pace
        → ((front : List ℕ) → IsBits front → length front + counted.left ≤ 16 → counted.number ≡ number_of front → number ≡ number_of (front ++ taken_of g))
        → others ≡ frame.Counted (record { node = counted.node; part = counted.part; left = counted.left - n; number = number }) ∷ frames
        → BitsTold takes field (taken_of g) before after
        → (stack : List Left) (done : List ℕ) → Stands d counted_from stack done
        → GoesOn d takes counted_from (record { frames = others; values = values; pace = next; coming = new }) before after stack done
    counted_on {n = n} {number = number} g after {others} {next} known look some less paced_by numbered put told stack done stands =
        let t = counted_stands stands.shows in
        let is = subst (λ (l : List Left). IsStack d pace.next (fresh_at pace (length done)) l done) t.is stands.stack_is in
        let owed = subst (λ (l : List Left). AreOwed l done old.bits) t.is stands.owed in
        let on = field_some d takes field old new before after g {k = counted.left} {m = counted.left - n} (omega (arith, less)) is owed told in
        let same = same_taken g on.bits in
        let few = counted_few known t in
        let now_number = numbered_by g done {taken = on.taken} t.from t.order same
        (numbered (drop t.from done) (bits_from t.from done (good_of_stack stands.stack_is)) few.0 t.number) in
        let long : length on.taken ≡ n = ap length same ∙ size g in
        let P : List Left → Type 0 = λ l. Passes d old.ended l (bits_left (counted.left - n) ∷ none_left ∷ t.outer)
        done on.taken new.bits (map Bit on.taken) in
        let Q : List Move → Type 0 = λ m. Tells d takes (counted.part ∷ counted.node ∷ around_of frames) m
        (counted.part ∷ counted.node ∷ around_of frames) before after in
        let R : Pace → Type 0 = λ p. GoesOn d takes counted_from (record {
          frames = others;
          values = values;
          pace =
              p;
          coming = new;
        }) before after stack done in
        let T : List Frame → Type 0 = λ l. GoesOn d takes counted_from
        (record { frames = l; values = values; pace = paced true pace; coming = new }) before after stack done in
        subst R (sym paced_by) (subst T (sym put)
        (record {
          now = bits_left (counted.left - n) ∷ none_left ∷ t.outer;
          taken = on.taken;
          made = map Bit on.taken;
          stands = record {
            shows =
                shows_counted t.label t.unit t.width t.from t.at t.field t.counts t.began now_number (omega (arith, t.order, length-append done on.taken))
                (omega (arith, t.sum, less, long, length-append done on.taken)) (omega (arith, less)) refl t.kept t.round;
            stack_is = paced_stack d true pace done on.taken (λ e. absurd (cc)) on.stack_is;
            place = on.place ∙ ap (λ p. p + length on.taken) stands.place ∙ sym (length-append done on.taken);
            limit = on.limit ∙ stands.limit ∙ ap (λ (l : List Left). limit_in l) t.is;
            owed = on.owed;
          };
          bits = on.bits;
          ended = on.ended;
          steps = subst P (sym t.is) on.steps;
          tells = subst Q (append-nil (map Bit on.taken))
              (tells_bits d takes field counted.part (counted.node ∷ around_of frames) on.taken look on.told
              (tells_none refl refl));
        }))

    -- all of them: it and its label are left, and its number is kept
    pub counted_ends : {most n number : ℕ} (g : Given most n old new) (told left after : S) (label : Node)
        {kept : List Number} {next : Pace} → Known d → slice_get d.nodes counted.part ≡ Some field
        → n ≡ counted.left → next ≡ paced true pace
        → ((front : List ℕ) → IsBits front → length front + counted.left ≤ 16 → counted.number ≡ number_of front → number ≡ number_of (front ++ taken_of g))
        → kept ≡ values ++ record { field = counted.node; value = number } ∷ []
        → BitsTold takes field (taken_of g) before told → takes told Leave field left
        → slice_get d.nodes counted.node ≡ Some label → takes left Leave label after
        → (stack : List Left) (done : List ℕ) → Stands d counted_from stack done
        → GoesOn d takes counted_from (record { frames = frames; values = kept; pace = next; coming = new }) before after stack done
    counted_ends {n = n} {number = number} g told left after label {kept} {next} known look all paced_by numbered
        kept_is bits_told leave_field label_at leave_label stack done stands =
        let t = counted_stands stands.shows in
        let is = subst (λ (l : List Left). IsStack d pace.next (fresh_at pace (length done)) l done) t.is stands.stack_is in
        let owed = subst (λ (l : List Left). AreOwed l done old.bits) t.is stands.owed in
        let on = field_all d takes field old new before told g all known is owed bits_told in
        let same = same_taken g on.bits in
        let few = counted_few known t in
        let now_number = numbered_by g done {taken = on.taken} t.from t.order same
        (numbered (drop t.from done) (bits_from t.from done (good_of_stack stands.stack_is)) few.0 t.number) in
        let here = done ++ on.taken in
        let whole = paced_stack d true pace done on.taken (λ e. absurd (cc)) on.stack_is in
        let of_label = left_stack d (paced true pace) known whole in
        let behind_label = left_stack d (paced true pace) known of_label in
        let first = passes_of old.ended (popped d {done = here} new.bits (nothing_goes d (moving d known) known.empties of_label)) in
        let L : List ℕ → Type 0 = λ l. Passes d old.ended (none_left ∷ t.outer) t.outer l [] new.bits (Leave ∷ []) in
        let second = subst L (sym (append-nil here))
        (passes_of old.ended
        (popped d {done = here} new.bits (nothing_goes d (moving d known) known.empties behind_label))) in
        let P : List Left → Type 0 = λ l. Passes d old.ended l t.outer done on.taken new.bits (map Bit on.taken ++ Leave ∷ Leave ∷ []) in
        let Q : List ℕ → Type 0 = λ l. Passes d old.ended (bits_left counted.left ∷ none_left ∷ t.outer)
        t.outer done l new.bits (map Bit on.taken ++ Leave ∷ Leave ∷ []) in
        let R : Pace → Type 0 = λ p. GoesOn d takes counted_from (record { frames = frames; values = kept; pace = p; coming = new }) before after stack done in
        subst R (sym paced_by)
        (record {
          now = t.outer;
          taken = on.taken;
          made = map Bit on.taken ++ Leave ∷ Leave ∷ [];
          stands = record {
            shows =
                shown_behind d here t.round
                (kept_is ∙ ap (λ v. v ++ record { field = counted.node; value = number } ∷ []) t.kept
                ∙ ap (λ k. numbers_of d (seen_in t.outer) ++ record { field = counted.node; value = k } ∷ []) now_number
                ∙ sym (kept_more d t.label here t.began t.counts t.at));
            stack_is = behind_label;
            place = on.place ∙ ap (λ p. p + length on.taken) stands.place ∙ sym (length-append done on.taken);
            limit = on.limit ∙ stands.limit ∙ ap (λ (l : List Left). limit_in l) t.is;
            owed = on.owed;
          };
          bits = on.bits;
          ended = on.ended;
          steps = subst P (sym t.is) (subst Q (append-nil on.taken) (steps_then d on.taken [] on.steps (steps_then d [] [] first second)));
          tells =
              tells_bits d takes field counted.part (counted.node ∷ around_of frames) on.taken look on.told
              (tells_leave field left look leave_field (tells_leave label after label_at leave_label (tells_none refl refl)));
        })

    -- ---- none

    abbrev counted_to : StateV
    counted_to = record { frames = frame.Counted counted ∷ frames; values = values; pace = pace; coming = new }

    counted_still : {most n : ℕ} → IsReadied most n old new → (stack : List Left) (done : List ℕ)
        → Stands d counted_from stack done → GoesOn d takes counted_from counted_to before before stack done
    counted_still r stack done stands =
        record {
          now = stack;
          taken = [];
          made = [];
          stands =
              subst (λ (l : List ℕ). Stands d counted_to stack l) (sym (append-nil done))
              (record {
                shows = stands.shows;
                stack_is = stands.stack_is;
                place = r.same.place ∙ stands.place;
                limit = r.same.limit ∙ stands.limit;
                owed = subst (λ (l : List ℕ). AreOwed stack done l) (sym r.same.bits) stands.owed;
              });
          bits = sym r.same.bits;
          ended = r.same.ended;
          steps = passes_of old.ended (steps_none d stack done new.bits);
          tells = tells_none refl refl;
        }

    counted_short : {most n : ℕ} → IsReadied most n old new → n ≡ 0 → 0 < most → (stack : List Left) (done : List ℕ)
        → Stands d counted_to stack done → IsShort d stack done new
    counted_short r none some stack done stands =
        let t = counted_stands stands.shows in
        record {
          left = bits_left counted.left;
          outer = none_left ∷ t.outer;
          is = t.is;
          limited = ap (λ (l : List Left). limit_in l) t.is;
          stops = closed_of r none some;
          wants = λ closed. bits_wanted d counted.left done t.some;
        }

    counted_waits : {most n : ℕ} (turn : Turn) → IsStopped new turn → Known d → IsReadied most n old new → n ≡ 0 → 0 < most
        → Turns d takes counted_from counted_to before before turn
    counted_waits Moved stopped known r none some = absurd stopped
    counted_waits Waits stopped known r none some = λ stack done stands.
        let on = counted_still r stack done stands in
        waits_then d takes on (stops_short d takes before values pace new (frame.Counted counted ∷ frames)
        Waits stopped known r.good.fits (counted_short r none some) on.now (done ++ on.taken) on.stands)
    counted_waits (Refused place) stopped known r none some = λ stack done stands.
        let on = counted_still r stack done stands in
        refuses_then d takes on (going old.ended (λ e. r.good.nothing (on.ended ∙ e)) stopped.2)
        (stops_short d takes before values pace new (frame.Counted counted ∷ frames) (Refused place)
        stopped known r.good.fits (counted_short r none some) on.now (done ++ on.taken) on.stands)
      where
        going : {bit : ℕ} {rest : List ℕ} (e : Bool) → (e ≡ true → new.bits ≡ []) → new.bits ≡ bit ∷ rest → e ≡ false
        going true quiet is = let no = quiet refl in absurd (cc)
        going false quiet is = refl

    pub counted_stopped : {most n : ℕ} {others : List Frame} (turn : Turn) → IsStopped new turn → Known d
        → IsReadied most n old new → n ≡ 0 → 0 < most → others ≡ frame.Counted counted ∷ frames
        → Turns d takes counted_from (record { frames = others; values = values; pace = pace; coming = new }) before before turn
    counted_stopped {others = others} turn stopped known r none some put =
        let P : List Frame → Type 0 = λ l. Turns d takes counted_from (record { frames = l; values = values; pace = pace; coming = new }) before before turn in
        subst P (sym put) (counted_waits turn stopped known r none some)

module _ (d : DescV) where
  -- the field that a label stands before on which some count stands
  pub record FixedField (part : ℕ) : Type 0 where
    pub unit : ℕ
    pub width : ℕ
    pub is : slice_get d.nodes part ≡ Some (Field unit (Fixed width))

  pub field_width : Known d → (i : ℕ) {part : ℕ} (label : List ℕ)
      → is_counted d.nodes i ≡ true → slice_get d.nodes i ≡ Some (Named label part) → FixedField part
  field_width known i {part} label counted at =
      let is : value_width d.nodes i ≡ width_of (slice_get d.nodes part) =
      ap (λ n. option_and_then (λ p. width_of (slice_get d.nodes p)) (labelled_part n)) at in
      let P : Option ℕ → Type 0 = λ w. FewBits w in
      by (slice_get d.nodes part) refl (subst P is (few_bits d known.description i counted))
    where
      by : (node : Option Node) → slice_get d.nodes part ≡ node → FewBits (width_of node) → FixedField part
      by None e few = elim few [ ]
      by (Some (Field unit (Fixed n))) e few = record { unit = unit; width = n; is = e }
      by (Some (Field unit (CountedBy m f c))) e few = elim few [ ]
      by (Some (Lits run)) e few = elim few [ ]
      by (Some (Spare symbol)) e few = elim few [ ]
      by (Some Pad) e few = elim few [ ]
      by (Some Null) e few = elim few [ ]
      by (Some Rest) e few = elim few [ ]
      by (Some (Seq parts)) e few = elim few [ ]
      by (Some (Choice parts)) e few = elim few [ ]
      by (Some (Times count i)) e few = elim few [ ]
      by (Some (Many i)) e few = elim few [ ]
      by (Some (Trunc parts)) e few = elim few [ ]
      by (Some (Window unit count i)) e few = elim few [ ]
      by (Some (Named label i)) e few = elim few [ ]
