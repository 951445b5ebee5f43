-- Turns of the frames of sequences.
use Rattle.std.proofs.Common.{◌≡◌, ℕ, suc, ◌+◌, ◌<◌, ◌≤◌, Bool, true, false, if◌then◌else◌, List, drop, take, [], ◌∷◌}
use Rattle.std.proofs.Common.{◌++◌, length, refl, sym, ◌∙◌, ap, subst, arith, length-append, append_assoc, Option}
use Rattle.std.proofs.Common.{Some, slice_get}
use Rattle.std.proofs.lemmas.List.{length-take, take-append-le}
use Rattle.csn_desc.specs.declared.moves.Move.{Move}
use Rattle.csn_desc.specs.declared.moves.Move.TheVariants.{Leave}
use Rattle.csn_desc.specs.declared.node.Node.{Node}
use Rattle.csn_desc.specs.declared.node.Node.TheVariants.{Seq}
use Rattle.csn_desc.specs.Nodes.{DescV}
use Rattle.csn_bits.specs.Numbers.{number_of}
use Rattle.csn_desc.specs.Values.{Values, with_value, is_named}
use Rattle.csn_desc.specs.Formed.{is_counted}
use Rattle.csn_judge.specs.declared.frame.Frame.{Frame}
use Rattle.csn_judge.specs.declared.frame.Frame.TheVariants as frame
use Rattle.csn_certify.specs.declared.numbers.Number.{Number}
use Rattle.csn_judge.specs.declared.pace.Pace.{Pace}
use Rattle.csn_judge.specs.Known.{Known}
use Rattle.csn_judge.specs.Coming.{Coming}
use Rattle.csn_judge.specs.Told.{tells_none}
use Rattle.csn_judge.specs.Left.{Left, all_left, none_left, parts_left, behind}
use Rattle.csn_judge.specs.Inside.{IsStack, stack_node, AreOwed, of_parts, of_read}
use Rattle.csn_certify.specs.KeptNumbers.{numbers_of}
use Rattle.csn_judge.specs.Shown.{limit_in, SeesMore, HasNext, Round, round_seq, Shows, shows_begin, shows_parts}
use Rattle.csn_judge.specs.Turns.{fresh_at, begun_by, Stands, GoesOn}
use Rattle.csn_judge.proofs.StepFacts.{split, replaced, none_taken, alike}
use Rattle.csn_judge.proofs.Parts.{next_part}
use Rattle.csn_judge.proofs.Wholes.{no_parts}
use Rattle.csn_judge.proofs.Closing.{passes_of}
use Rattle.csn_judge.proofs.Stacks.{of_begun, next_begun, later_rises, up_part, sequence_read}
use Rattle.csn_judge.proofs.Turning.{risen, room, round_length, begun_within, moving, unnamed, kept_unnamed, state, still, leaves}

-- ---- lists

-- what stands at the place behind an item
pub next_there : (before after : List ℕ) (i j : ℕ) → slice_get (before ++ i ∷ after) (suc (length before)) ≡ Some j → (rest : List ℕ) × (after ≡ j ∷ rest)
next_there [] [] i j at = absurd (cc)
next_there [] (k ∷ after) i j at = let same : k ≡ j = cc in (after, ap (λ n. n ∷ after) same)
next_there (b ∷ before) after i j at = next_there before after i j at

pub none_there : (before after : List ℕ) (i : ℕ) → suc (length before) ≡ length (before ++ i ∷ after) → after ≡ []
none_there before [] i all = refl
none_there before (k ∷ after) i all = absurd (omega (arith, all, length-append before (i ∷ k ∷ after)))

module _ (d : DescV) where
  kept_more : (count i : ℕ) (b : List ℕ) (v : Values) (labelled counted : Bool) → count ≤ length (numbers_of d v)
      → take count (if labelled then (if counted then numbers_of d v ++ record { field = i; value = number_of b }
      ∷ [] else numbers_of d v) else numbers_of d v) ≡ take count (numbers_of d v)
  kept_more count i b v true true few = take-append-le count (numbers_of d v) (record { field = i; value = number_of b } ∷ []) few
  kept_more count i b v true false few = refl
  kept_more count i b v false counted few = refl

  -- one value more changes none before
  pub sees_more : {outer : List Left} {count : ℕ} {v : Values} (i : ℕ) (b : List ℕ)
      → SeesMore d outer count v → SeesMore d outer count (with_value d.nodes i b v)
  sees_more {outer} {count} {v} i b more = record { count_is = more.count_is; same = by (is_named d.nodes i) ∙ more.same }
    where
      few : count ≤ length (numbers_of d v)
      few = omega (arith, more.count_is, ap (λ (l : List Number). length l) more.same, length-take count (numbers_of d v))

      by : (labelled : Bool) → take count (numbers_of d (if labelled then (i, b) ∷ v else v)) ≡ take count (numbers_of d v)
      by true = kept_more count i b v true (is_counted d.nodes i) few
      by false = refl

  pub record PartsStand (k next count : ℕ) (frames : List Frame) (values : List Number) (stack : List Left) (done : List ℕ) : Type 0 where
    pub outer : List Left
    pub i : ℕ
    pub from : ℕ
    pub after : List ℕ
    pub v : Values
    pub parts : List ℕ
    pub is : stack ≡ parts_left i from after v ∷ outer
    pub has : HasNext d (Seq parts) parts k next count i after v outer
    pub kept : values ≡ numbers_of d (behind d i from v done)
    pub round : Round d frames outer k

  pub parts_stand : {k next count : ℕ} {frames : List Frame} {values : List Number} {stack : List Left} {done : List ℕ}
      → Shows d (frame.Seq k next count ∷ frames) values stack done → PartsStand k next count frames values stack done
  parts_stand (shows_parts parts has kept round) =
      record { outer = _; i = _; from = _; after = _; v = _; parts = parts; is = refl; has = has; kept = kept; round = round }

  -- no more parts have begun than there are
  pub next_within : {k next count : ℕ} {frames : List Frame} {values : List Number} {stack : List Left} {done : List ℕ} (parts : List ℕ)
      → slice_get d.nodes k ≡ Some (Seq parts) → Shows d (frame.Seq k next count ∷ frames) values stack done → next ≤ length parts
  next_within parts at shows =
      let t = parts_stand shows in
      let same : parts ≡ t.parts = let a = t.has.at in cc in
      omega (arith, t.has.next_is, ap (λ l. length l) (same ∙ t.has.is), length-append t.has.before (t.i ∷ t.after))

  -- the next part
  pub next_stack : {i from j : ℕ} {ps : List ℕ} {v : Values} {outer : List Left} {done : List ℕ} (pace : Pace) → Known d
      → IsStack d pace.next (fresh_at pace (length done)) (parts_left i from (j ∷ ps) v ∷ outer) done
      → IsStack d (begun_by j pace).next (fresh_at (begun_by j pace) (length done))
      (all_left j (behind d i from v done) ∷ parts_left j (length done) ps (behind d i from v done) ∷ outer) done
  next_stack {ps = ps} pace known (stack_node k start v0 bits ready (of_parts parts before at parted so_far order none fits well read up) inside) =
      risen d pace (later_rises d 12 known.description known.certified k ps before at parted up)
      (of_begun d (next_begun d 12 known.description known.certified parts before at parted so_far order none fits well read bits ready inside))

  next_rises : {i from j : ℕ} {ps : List ℕ} {v : Values} {outer : List Left} {done : List ℕ} (pace : Pace) → Known d
      → IsStack d pace.next (fresh_at pace (length done)) (parts_left i from (j ∷ ps) v ∷ outer) done → pace.next ≤ j
  next_rises {ps = ps} pace known (stack_node k start v0 bits ready (of_parts parts before at parted so_far order none fits well read up) inside) =
      later_rises d 12 known.description known.certified k ps before at parted up

  pub parts_done : {next : ℕ} {fresh : Option ℕ} {i from : ℕ} {v : Values} {outer : List Left} {done : List ℕ} → Known d
      → IsStack d next fresh (parts_left i from [] v ∷ outer) done → IsStack d next fresh (none_left ∷ outer) done
  parts_done known (stack_node k start v0 bits ready (of_parts parts before at parted so_far order none fits well read up) inside) =
      stack_node k start v0 bits ready
      (of_read (sequence_read d 12 known.description known.certified parts before at parted so_far order none
      read) (up_part d before _ [] at parted up)) inside

  pub record NextBegins (pace : Pace) (j : ℕ) (frames : List Frame) : Type 0 where
    pub within : j < 16384
    pub is_node : j < length d.nodes
    pub rises : pace.next ≤ j
    pub room : length frames < 63

  pub next_begins :
      {k next count j : ℕ} {frames : List Frame} {values : List Number} {stack : List Left} {done : List ℕ} (pace : Pace) (parts : List ℕ)
      → slice_get d.nodes k ≡ Some (Seq parts) → slice_get parts next ≡ Some j
      → Known d → Shows d (frame.Seq k next count ∷ frames) values stack done
      → IsStack d pace.next (fresh_at pace (length done)) stack done → NextBegins pace j frames
  next_begins {k} {next} {count} {j} {frames} {values} {stack} {done} pace parts at here known shows is =
      let t = parts_stand shows in
      let same : parts ≡ t.parts = let a = t.has.at in cc in
      let found = next_there t.has.before t.after t.i j (ap (λ n. slice_get (t.has.before ++ t.i ∷ t.after) n)
      (sym t.has.next_is) ∙ ap (λ l. slice_get l next) (sym t.has.is) ∙ ap (λ l. slice_get l next) (sym same)
      ∙ here) in
      let stood = subst (λ (l : List Left). IsStack d pace.next (fresh_at pace (length done)) l done)
      (t.is ∙ ap (λ l. parts_left t.i t.from l t.v ∷ t.outer) found.1) is in
      let stack_is = next_stack pace known stood in
      record {
        within = omega (arith, begun_within d stack_is, known.description.few);
        is_node = begun_within d stack_is;
        rises = next_rises pace known stood;
        room = omega (arith, room d stack_is, round_length d t.round);
      }

  module _ {S : Type 0} (takes : S → Move → Node → S → Type 0) (before : S) (values : List Number) (pace : Pace) (coming : Coming) where
    -- the next part of a sequence begins
    pub begins_next :
        {k next count j : ℕ} {frames : List Frame} {stack : List Left} {done : List ℕ} (parts : List ℕ)
        → slice_get d.nodes k ≡ Some (Seq parts) → slice_get parts next ≡ Some j
        → Known d → Stands d (state d takes before values pace coming (frame.Seq k next count ∷ frames)) stack done
        → GoesOn d takes (state d takes before values pace coming (frame.Seq k next count ∷ frames))
        (record {
          frames = frame.Begin j ∷ frame.Seq k (next + 1) count ∷ frames;
          values = values;
          pace =
              begun_by j pace;
          coming = coming;
        }) before before stack done
    begins_next {k} {next} {count} {j} {frames} {stack} {done} parts at here known stands =
        let t = parts_stand stands.shows in
        let same : parts ≡ t.parts = let a = t.has.at in cc in
        let found = next_there t.has.before t.after t.i j (ap (λ n. slice_get (t.has.before ++ t.i ∷ t.after) n)
        (sym t.has.next_is) ∙ ap (λ l. slice_get l next) (sym t.has.is) ∙ ap (λ l. slice_get l next) (sym same)
        ∙ here) in
        let w : Values = behind d t.i t.from t.v done in
        let P : List Left → Type 0 =
        λ l. GoesOn d takes (state d takes before values pace coming (frame.Seq k next count ∷ frames))
        (record {
          frames = frame.Begin j ∷ frame.Seq k (next + 1) count ∷ frames;
          values = values;
          pace =
              begun_by j pace;
          coming = coming;
        }) before before l done in
        let is : stack ≡ parts_left t.i t.from (j ∷ found.0) t.v ∷ t.outer = t.is ∙ ap (λ l. parts_left t.i t.from l t.v ∷ t.outer) found.1 in
        let later : HasNext d (Seq t.parts) t.parts k (next + 1) count j found.0 w t.outer =
        record {
          at = t.has.at;
          before = t.has.before ++ t.i ∷ [];
          is = t.has.is ∙ ap (λ l. t.has.before ++ t.i ∷ l) found.1 ∙ sym (append_assoc t.has.before (t.i ∷ []) (j ∷ found.0));
          next_is = omega (arith, t.has.next_is, length-append t.has.before (t.i ∷ []));
          more = sees_more t.i (drop t.from done) t.has.more;
        } in
        subst P (sym is)
        (still d takes before values pace coming (begun_by j pace) stands.place (shows_begin refl t.kept (round_seq t.parts later t.round))
        (next_stack pace known (subst (λ (l : List Left). IsStack d pace.next (fresh_at pace (length done)) l done) is stands.stack_is))
        (stands.limit ∙ ap (λ (l : List Left). limit_in l) is)
        (subst (λ (l : List Left). AreOwed l done coming.bits) is stands.owed)
        (passes_of coming.ended (split d t.outer coming.bits (next_part d (moving d known) t.i t.from j found.0 t.v done)))
        (tells_none refl refl))

    -- and it is left behind the last
    pub ends_parts :
        {k next count : ℕ} {frames : List Frame} {after : S} {stack : List Left} {done : List ℕ} (parts : List ℕ)
        → slice_get d.nodes k ≡ Some (Seq parts) → next ≡ length parts → takes before Leave (Seq parts) after
        → Known d → Stands d (state d takes before values pace coming (frame.Seq k next count ∷ frames)) stack done
        → GoesOn d takes (state d takes before values pace coming (frame.Seq k next count ∷ frames))
        (record { frames = frames; values = take count values; pace = pace; coming = coming })
        before after stack done
    ends_parts {k} {next} {count} {frames} {after} {stack} {done} parts at all told known stands =
        let t = parts_stand stands.shows in
        let same : parts ≡ t.parts = let a = t.has.at in cc in
        let none = none_there t.has.before t.after t.i (sym t.has.next_is ∙ all ∙ ap (λ l. length l) (same ∙ t.has.is)) in
        let P : List Left → Type 0 =
        λ l. GoesOn d takes (state d takes before values pace coming (frame.Seq k next count ∷ frames))
        (record { frames = frames; values = take count values; pace = pace; coming = coming })
        before after l done in
        let is : stack ≡ parts_left t.i t.from [] t.v ∷ t.outer = t.is ∙ ap (λ l. parts_left t.i t.from l t.v ∷ t.outer) none in
        let more = sees_more t.i (drop t.from done) t.has.more in
        subst P (sym is)
        (leaves d takes before values pace coming (Seq parts) known at told refl stands.place
        (parts_done known (subst (λ (l : List Left). IsStack d pace.next (fresh_at pace (length done)) l done) is stands.stack_is)) t.round
        (ap (λ l. take count l) t.kept ∙ more.same ∙ sym (kept_unnamed d done t.round (unnamed d _ at refl)))
        (stands.limit ∙ ap (λ (l : List Left). limit_in l) is)
        (subst (λ (l : List Left). AreOwed l done coming.bits) is stands.owed)
        (passes_of coming.ended (replaced d coming.bits (none_taken d) (alike d (no_parts d (moving d known) t.i t.from t.v done)))))
