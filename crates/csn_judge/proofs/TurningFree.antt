-- Turns of the frame of a free repetition.
use Rattle.std.proofs.Common.{◌≡◌, ℕ, zero, suc, ◌-◌, ◌%◌, ◌<◌, ◌≤◌, ◌⊎◌, true, false, List, take, [], ◌∷◌, length}
use Rattle.std.proofs.Common.{min, refl, sym, ◌∙◌, ap, subst, arith, Option, Some, slice_get}
use Rattle.csn_desc.specs.declared.moves.Move.{Move}
use Rattle.csn_desc.specs.declared.moves.Move.TheVariants.{Leave}
use Rattle.csn_desc.specs.declared.node.Node.{Node}
use Rattle.csn_desc.specs.declared.node.Node.TheVariants.{Many}
use Rattle.csn_desc.specs.Nodes.{DescV}
use Rattle.csn_desc.specs.Values.{Values}
use Rattle.csn_look.specs.Starts.{InStart}
use Rattle.csn_certify.specs.declared.pick.Pick.{Pick}
use Rattle.csn_certify.specs.declared.pick.Pick.TheVariants.{Take}
use Rattle.csn_certify.specs.Picks.{IsAsked, asked_many, Picks, pick_key, pick_none, pick_wait, pick_refuse, pick_again, pick_leave}
use Rattle.csn_judge.specs.declared.frame.Frame.{Frame}
use Rattle.csn_judge.specs.declared.frame.Frame.TheVariants as frame
use Rattle.csn_certify.specs.declared.numbers.Number.{Number}
use Rattle.csn_judge.specs.declared.pace.Pace.{Pace}
use Rattle.csn_judge.specs.Known.{Known}
use Rattle.csn_judge.specs.Coming.{Coming, IsGood}
use Rattle.csn_judge.specs.Told.{tells_none}
use Rattle.csn_judge.specs.Left.{Left, all_left, none_left, free_left}
use Rattle.csn_judge.specs.Remains.{Steps, Passes}
use Rattle.csn_judge.specs.Inside.{IsStack, stack_node, AreOwed, of_free, of_read}
use Rattle.csn_certify.specs.KeptNumbers.{numbers_of}
use Rattle.csn_judge.specs.Shown.{limit_in, RepeatsFreely, Round, round_many, Shows, shows_begin, shows_free}
use Rattle.csn_judge.specs.Turns.{fresh_at, begun_by, Stands, GoesOn}
use Rattle.csn_judge.proofs.Closing.{passes_of, free_ends}
use Rattle.csn_judge.proofs.Choosing.{node_empty}
use Rattle.csn_judge.proofs.LookAhead.{Repeats, take_turn, leave_free}
use Rattle.csn_judge.proofs.Stacks.{Begun, of_begun, free_begun, free_read, up_part}
use Rattle.csn_judge.proofs.LeafStacks.{closed_passes}
use Rattle.csn_judge.proofs.Rooms.{first_of}
use Rattle.csn_judge.proofs.Turning.{moving, begun_fresh, kept_unnamed, unnamed, within_limit, state, still, leaves}

module _ (d : DescV) where
  pub record FreeStands (k i : ℕ) (frames : List Frame) (values : List Number) (stack : List Left) : Type 0 where
    pub outer : List Left
    pub v : Values
    pub is : stack ≡ free_left i v ∷ outer
    pub repeats : RepeatsFreely d k i v outer
    pub kept : values ≡ numbers_of d v
    pub round : Round d frames outer k

  pub free_stands : {k i : ℕ} {frames : List Frame} {values : List Number} {stack : List Left} {done : List ℕ}
      → Shows d (frame.Many k i ∷ frames) values stack done → FreeStands k i frames values stack
  free_stands (shows_free is kept round) = record { outer = _; v = _; is = refl; repeats = is; kept = kept; round = round }

  -- a turn of it begins
  pub free_begins : {i : ℕ} {v : Values} {outer : List Left} {done : List ℕ} (pace : Pace) → Known d
      → IsStack d pace.next (fresh_at pace (length done)) (free_left i v ∷ outer) done
      → Begun d (fresh_at (begun_by i pace) (length done)) i v (free_left i v ∷ outer) done
  free_begins {i} {outer = outer} {done = done} pace known (stack_node k from w bits ready (of_free at same so_far order up turned) inside) =
      let P : Values → Type 0 = λ u. Begun d (fresh_at (begun_by i pace) (length done)) i u (free_left i u ∷ outer) done in
      subst P (sym same) (free_begun d 12 known.description known.certified _ (begun_fresh d i (length done) pace) at so_far order bits ready inside)

  pub free_done : {next : ℕ} {fresh : Option ℕ} {i : ℕ} {v : Values} {outer : List Left} {done : List ℕ} → Known d
      → IsStack d next fresh (free_left i v ∷ outer) done → IsStack d next fresh (none_left ∷ outer) done
  free_done known (stack_node k from w bits ready (of_free at same so_far order up turned) inside) =
      stack_node k from w bits ready (of_read (free_read d 12 known.description known.certified at so_far order) (up_part d [] _ [] at refl up)) inside

  -- look-ahead is asked there
  pub free_asked : {k i : ℕ} {frames : List Frame} {values : List Number} {stack : List Left} {done : List ℕ} (pace : Pace) → Known d
      → Shows d (frame.Many k i ∷ frames) values stack done → IsStack d pace.next (fresh_at pace (length done)) stack done
      → IsAsked d k (length done % 8)
  free_asked {i = i} {done = done} pace known shows is =
      let t = free_stands shows in
      let begun = free_begins pace known (subst (λ (l : List Left). IsStack d pace.next (fresh_at pace (length done)) l done) t.is is) in
      asked_many i t.repeats.at begun.ready.reached

  -- what it answers is told by where the part starts
  starts_of : {k i o bit j : ℕ} → slice_get d.nodes k ≡ Some (Many i) → Picks d 12 k o (bit ∷ []) false (Take j) → InStart d i o bit
  starts_of at (pick_key parts choice key) = absurd (cc)
  starts_of at (pick_none parts choice none takes) = absurd (cc)
  starts_of {i = i} {o} {bit} at (pick_again part many start) =
      let same : part ≡ i = cc in
      let P : ℕ → Type 0 = λ n. InStart d n o bit in
      subst P same start

  starts_not : {k i o bit : ℕ} {answer : Pick} → slice_get d.nodes k ≡ Some (Many i) → ((j : ℕ) → ¬ (answer ≡ Take j))
      → Picks d 12 k o (bit ∷ []) false answer → ¬ InStart d i o bit
  starts_not at not (pick_key parts choice key) = absurd (cc)
  starts_not at not (pick_none parts choice none takes) = absurd (cc)
  starts_not at not (pick_wait parts choice none other going begins) = absurd (cc)
  starts_not at not (pick_refuse parts choice none other never) = absurd (cc)
  starts_not at not (pick_again part many start) = absurd (not 0 refl)
  starts_not {i = i} {o} {bit} at not (pick_leave part many never) =
      let same : part ≡ i = cc in
      let P : ℕ → Type 0 = λ n. ¬ InStart d n o bit in
      subst P same never

  repeats_at : {i : ℕ} {v : Values} {outer : List Left} {done : List ℕ} (pace : Pace) (bit : ℕ) (known : Known d)
      → Begun d (fresh_at (begun_by i pace) (length done)) i v (free_left i v ∷ outer) done
      → IsStack d pace.next (fresh_at pace (length done)) (free_left i v ∷ outer) done → suc (length done) ≤ limit_in outer
      → (k from : ℕ) × Repeats d 12 known.description known.certified (moving d known) known k i from v outer done bit
  repeats_at {i} {v} {outer} {done} pace bit known begun (stack_node k from w bits ready (of_free at same so_far order up turned) inside) room =
      let P : Values → Type 0 = λ u. Repeats d 12 known.description known.certified (moving d known) known k i from u outer done bit in (
        k,
        from,
        subst P (sym same) (record {
          at = at;
          ready = ready;
          reached = begun.ready.reached;
          fresh = _;
          inner =
              inside;
          within = within_limit d outer (suc (length done)) room;
        }),
      )

  again_steps : {i : ℕ} {v : Values} {outer : List Left} {done : List ℕ} (pace : Pace) (bit : ℕ) (more : List ℕ) → Known d
      → IsStack d pace.next (fresh_at pace (length done)) (free_left i v ∷ outer) done → suc (length done) ≤ limit_in outer
      → InStart d i (length done % 8) bit
      → Steps d (free_left i v ∷ outer) (all_left i v ∷ free_left i v ∷ outer) done [] (bit ∷ more) []
  again_steps {i} {v} {outer} {done} pace bit more known is room start =
      let begun = free_begins pace known is in
      let how = repeats_at pace bit known begun is room in
      take_turn d 12 known.description known.certified (moving d known) known how.2 more (pick_again i how.2.at start)
      (node_empty d (moving d known) known.empties (length done) v begun.ready.formed)

  leave_steps : {i : ℕ} {v : Values} {outer : List Left} {done : List ℕ} (pace : Pace) (bit : ℕ) (more : List ℕ) → Known d
      → IsStack d pace.next (fresh_at pace (length done)) (free_left i v ∷ outer) done → suc (length done) ≤ limit_in outer
      → ¬ InStart d i (length done % 8) bit
      → Steps d (free_left i v ∷ outer) (none_left ∷ outer) done [] (bit ∷ more) []
  leave_steps {i} {v} {outer} {done} pace bit more known is room never =
      let how = repeats_at pace bit known (free_begins pace known is) is room in
      leave_free d 12 known.description known.certified (moving d known) known how.2 more (pick_leave i how.2.at never)

  module _ {S : Type 0} (takes : S → Move → Node → S → Type 0) (before : S) (values : List Number) (pace : Pace) (coming : Coming) where
    again_bits : {i : ℕ} {v : Values} {outer : List Left} {done : List ℕ} (bits : List ℕ) → Known d
        → IsStack d pace.next (fresh_at pace (length done)) (free_left i v ∷ outer) done → suc (length done) ≤ limit_in outer
        → (bit : ℕ) (more : List ℕ) → bits ≡ bit ∷ more → InStart d i (length done % 8) bit
        → Steps d (free_left i v ∷ outer) (all_left i v ∷ free_left i v ∷ outer) done [] bits []
    again_bits {i} {v} {outer} {done} bits known is room bit more e start =
        let P : List ℕ → Type 0 = λ l. Steps d (free_left i v ∷ outer) (all_left i v ∷ free_left i v ∷ outer) done [] l [] in
        subst P (sym e) (again_steps pace bit more known is room start)

    leave_bits : {i : ℕ} {v : Values} {outer : List Left} {done : List ℕ} (bits : List ℕ) → Known d
        → IsStack d pace.next (fresh_at pace (length done)) (free_left i v ∷ outer) done → suc (length done) ≤ limit_in outer
        → (bit : ℕ) (more : List ℕ) → bits ≡ bit ∷ more → ¬ InStart d i (length done % 8) bit
        → Steps d (free_left i v ∷ outer) (none_left ∷ outer) done [] bits []
    leave_bits {i} {v} {outer} {done} bits known is room bit more e never =
        let P : List ℕ → Type 0 = λ l. Steps d (free_left i v ∷ outer) (none_left ∷ outer) done [] l [] in
        subst P (sym e) (leave_steps pace bit more known is room never)

    -- a turn of it begins
    pub begins_free :
        {k i : ℕ} {frames : List Frame} {stack : List Left} {done : List ℕ} (bit : ℕ) (more : List ℕ)
        → coming.bits ≡ bit ∷ more → coming.place < coming.limit → slice_get d.nodes k ≡ Some (Many i)
        → InStart d i (coming.place % 8) bit
        → Known d → Stands d (state d takes before values pace coming (frame.Many k i ∷ frames)) stack done
        → GoesOn d takes (state d takes before values pace coming (frame.Many k i ∷ frames))
        (record {
          frames = frame.Begin i ∷ frame.Many k i ∷ frames;
          values = values;
          pace =
              begun_by i pace;
          coming = coming;
        }) before before stack done
    begins_free {k} {i} {frames} {stack} {done} bit more e room at start known stands =
        let t = free_stands stands.shows in
        let P : List Left → Type 0 =
        λ l. GoesOn d takes (state d takes before values pace coming (frame.Many k i ∷ frames))
        (record {
          frames = frame.Begin i ∷ frame.Many k i ∷ frames;
          values = values;
          pace =
              begun_by i pace;
          coming = coming;
        }) before before l done in
        let is = subst (λ (l : List Left). IsStack d pace.next (fresh_at pace (length done)) l done) t.is stands.stack_is in
        let limit = stands.limit ∙ ap (λ (l : List Left). limit_in l) t.is in
        subst P (sym t.is)
        (still d takes before values pace coming (begun_by i pace) stands.place (shows_begin refl t.kept (round_many t.repeats t.round))
        (of_begun d (free_begins pace known is)) limit
        (subst (λ (l : List Left). AreOwed l done coming.bits) t.is stands.owed)
        (passes_of coming.ended (again_bits coming.bits known is (omega (arith, room, limit, stands.place)) bit more e
        (subst (λ o. InStart d i (o % 8) bit) stands.place start)))
        (tells_none refl refl))

    -- it is left where it passes with no bits
    left_free :
        {k i : ℕ} {frames : List Frame} {after : S} {stack : List Left} {done : List ℕ} (node : Node)
        → slice_get d.nodes k ≡ Some node → takes before Leave node after
        → Known d → Stands d (state d takes before values pace coming (frame.Many k i ∷ frames)) stack done → (t : FreeStands k i frames values stack)
        → (IsStack d pace.next (fresh_at pace (length done)) (free_left i t.v ∷ t.outer)
        done → coming.limit ≡ limit_in t.outer → Passes d coming.ended (free_left i t.v ∷ t.outer)
        (none_left ∷ t.outer) done [] coming.bits [])
        → GoesOn d takes (state d takes before values pace coming (frame.Many k i ∷ frames))
        (state d takes before values pace coming frames) before after stack done
    left_free {k} {i} {frames} {after} {stack} {done} node at told known stands t passes =
        let P : List Left → Type 0 =
        λ l. GoesOn d takes (state d takes before values pace coming (frame.Many k i ∷ frames))
        (state d takes before values pace coming frames) before after l done in
        let is = subst (λ (l : List Left). IsStack d pace.next (fresh_at pace (length done)) l done) t.is stands.stack_is in
        let limit = stands.limit ∙ ap (λ (l : List Left). limit_in l) t.is in
        subst P (sym t.is)
        (leaves d takes before values pace coming node known at told refl stands.place (free_done known is) t.round
        (t.kept ∙ ap (λ v. numbers_of d v) t.repeats.seen ∙ sym (kept_unnamed d done t.round (unnamed d _ t.repeats.at refl)))
        limit (subst (λ (l : List Left). AreOwed l done coming.bits) t.is stands.owed)
        (passes is limit))

    -- it is left, where the bit that comes does not begin its part
    pub leaves_free :
        {k i : ℕ} {frames : List Frame} {after : S} {stack : List Left} {done : List ℕ} (bit : ℕ) (more : List ℕ) (node : Node)
        → coming.bits ≡ bit ∷ more → coming.place < coming.limit → ¬ InStart d i (coming.place % 8) bit
        → slice_get d.nodes k ≡ Some node → takes before Leave node after
        → Known d → Stands d (state d takes before values pace coming (frame.Many k i ∷ frames)) stack done
        → GoesOn d takes (state d takes before values pace coming (frame.Many k i ∷ frames))
        (state d takes before values pace coming frames) before after stack done
    leaves_free {i = i} {done = done} bit more node e room never at told known stands =
        left_free node at told known stands (free_stands stands.shows)
        (λ is limit. passes_of coming.ended
        (leave_bits coming.bits known is (omega (arith, room, limit, stands.place)) bit more e
        (subst (λ o. ¬ InStart d i (o % 8) bit) stands.place never)))

    -- and where no bit may be taken
    pub ends_free :
        {k i : ℕ} {frames : List Frame} {after : S} {stack : List Left} {done : List ℕ} (node : Node)
        → IsGood coming → (coming.ended ≡ true) ⊎ (coming.place ≡ coming.limit)
        → slice_get d.nodes k ≡ Some node → takes before Leave node after
        → Known d → Stands d (state d takes before values pace coming (frame.Many k i ∷ frames)) stack done
        → GoesOn d takes (state d takes before values pace coming (frame.Many k i ∷ frames))
        (state d takes before values pace coming frames) before after stack done
    ends_free {i = i} {done = done} node good closed at told known stands =
        let t = free_stands stands.shows in
        left_free node at told known stands t (λ is limit. closed_passes d good closed stands.place limit (free_ends d i t.v done))

    -- ---- by what look-ahead answers

    no_turn : {k i o j : ℕ} → slice_get d.nodes k ≡ Some (Many i) → ¬ Picks d 12 k o [] true (Take j)
    no_turn at (pick_key parts choice key) = absurd (cc)
    no_turn at (pick_none parts choice none takes) = absurd (cc)

    one_bit : {k o count : ℕ} {answer : Pick} (bits : List ℕ) → count ≡ 1 → (bit : ℕ) (more : List ℕ)
        → bits ≡ bit ∷ more → Picks d 12 k o (take count bits) false answer → Picks d 12 k o (bit ∷ []) false answer
    one_bit {k} {o} {count} {answer} bits one bit more e picks =
        let P : List ℕ → Type 0 = λ l. Picks d 12 k o l false answer in
        subst P (ap (λ n. take n bits) one ∙ ap (λ l. take 1 l) e) picks

    pub free_takes :
        {k i count j : ℕ} {frames : List Frame} {stack : List Left} {done : List ℕ}
        → count ≡ min 1 (min (length coming.bits) (coming.limit - coming.place))
        → (count ≡ 0 → Picks d 12 k (coming.place % 8) [] true (Take j))
        → (0 < count → Picks d 12 k (coming.place % 8) (take count coming.bits) false (Take j))
        → Known d → Stands d (state d takes before values pace coming (frame.Many k i ∷ frames)) stack done
        → GoesOn d takes (state d takes before values pace coming (frame.Many k i ∷ frames))
        (record {
          frames = frame.Begin i ∷ frame.Many k i ∷ frames;
          values = values;
          pace =
              begun_by i pace;
          coming = coming;
        }) before before stack done
    free_takes {count = zero} is none some known stands =
        let t = free_stands stands.shows in absurd (no_turn t.repeats.at (none refl))
    free_takes {count = suc count} is none some known stands =
        let t = free_stands stands.shows in
        let found = first_of coming.bits (omega (arith, is)) in
        begins_free found.0 found.1 found.2 (omega (arith, is)) t.repeats.at
        (starts_of t.repeats.at (one_bit {count = suc count} coming.bits (omega (arith, is)) found.0 found.1 found.2 (some (omega arith)))) known stands

    pub free_leaves :
        {k i count : ℕ} {answer : Pick} {frames : List Frame} {after : S} {stack : List Left} {done : List ℕ} (node : Node)
        → IsGood coming → count ≡ min 1 (min (length coming.bits) (coming.limit - coming.place))
        → (count ≡ 0 → (coming.ended ≡ true) ⊎ (coming.place ≡ coming.limit))
        → (0 < count → Picks d 12 k (coming.place % 8) (take count coming.bits) false answer)
        → ((j : ℕ) → ¬ (answer ≡ Take j))
        → slice_get d.nodes k ≡ Some node → takes before Leave node after
        → Known d → Stands d (state d takes before values pace coming (frame.Many k i ∷ frames)) stack done
        → GoesOn d takes (state d takes before values pace coming (frame.Many k i ∷ frames))
        (state d takes before values pace coming frames) before after stack done
    free_leaves {count = zero} node good is closed some not at told known stands = ends_free node good (closed refl) at told known stands
    free_leaves {count = suc count} node good is closed some not at told known stands =
        let t = free_stands stands.shows in
        let found = first_of coming.bits (omega (arith, is)) in
        leaves_free found.0 found.1 node found.2 (omega (arith, is))
        (starts_not t.repeats.at not (one_bit {count = suc count} coming.bits (omega (arith, is))
        found.0 found.1 found.2 (some (omega arith)))) at told known stands
