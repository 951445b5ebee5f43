-- The moves of a tree tell its events.
use Rattle.std.proofs.Common.{◌≡◌, ℕ, zero, suc, ◌+◌, ◌-◌, ◌*◌, ◌%◌, ◌^◌, ◌<◌, ◌≤◌, Bool, true, false, if◌then◌else◌}
use Rattle.std.proofs.Common.{List, [], ◌∷◌, ◌++◌, length, map}
use Rattle.std.proofs.Common.{refl, sym, ap, subst, ◌∙◌, arith, append_assoc, append-nil, length-append, inl, inr, Option, Some, None}
use Rattle.std.specs.Prelude.{nat_lt, slice_get}
use Rattle.std.proofs.Math.Nat.{mod-eq_of_lt, pow-le-pow_right}
use Rattle.std.proofs.lemmas.Bool.{lt-ltb, le-ltb, cases_lt}
use Rattle.std.proofs.lemmas.Option.{slice_get_within}
use Rattle.csn_bits.specs.Octets.{IsBits}
use Rattle.csn_bits.specs.Numbers.{number_of}
use Rattle.csn_bits.proofs.NumberFacts.{number_of-lt}
use Rattle.csn_desc.specs.declared.moves.Move.{Move}
use Rattle.csn_desc.specs.declared.moves.Move.TheVariants.{Enter, Bit, Leave}
use Rattle.csn_desc.specs.declared.node.Node.{Node}
use Rattle.csn_desc.specs.declared.node.Node.TheVariants.{Lits, Spare, Pad, Null, Field, Rest, Seq, Choice, Times}
use Rattle.csn_desc.specs.declared.node.Node.TheVariants.{Many, Trunc, Window, Named}
use Rattle.csn_desc.specs.TreeV.{TreeV, empty, bits as bits_tree, row, alt, named, Trees, none, more}
use Rattle.csn_desc.specs.Nodes.{DescV, parts_of}
use Rattle.csn_desc.specs.Spelled.{spelled}
use Rattle.csn_desc.specs.Formed.{Formed, formed, PartsFormed, formed_end, formed_next, shows_earlier}
use Rattle.csn_desc.specs.Walks.{bits_of, Walk, NodeWalk, PartsWalk, RepeatsWalk, LeadWalk, walk_at, walk_lits, walk_spare}
use Rattle.csn_desc.specs.Walks.{walk_pad, walk_null, walk_field, walk_rest, walk_seq, walk_choice, walk_times}
use Rattle.csn_desc.specs.Walks.{walk_many, walk_trunc, walk_window, walk_named, parts_end, parts_next, repeats_end}
use Rattle.csn_desc.specs.Walks.{repeats_next, lead_end, lead_next}
use Rattle.csn_judge.specs.Told.{Tells, tells_none, tells_enter, tells_bit, tells_leave}
use Rattle.csn_fields.specs.declared.leaf.LeafKind.{LeafKind}
use Rattle.csn_fields.specs.declared.leaf.LeafKind.TheVariants as kind
use Rattle.csn_fields.specs.declared.leaf.Role.{Role}
use Rattle.csn_fields.specs.declared.leaf.Role.TheVariants as role
use Rattle.csn_fields.specs.declared.event.Event.{Event}
use Rattle.csn_fields.specs.declared.event.Event.TheVariants as event
use Rattle.csn_fields.specs.declared.refusal.OpenNode.{OpenNode}
use Rattle.csn_fields.specs.declared.places.Begun.{Begun}
use Rattle.csn_fields.specs.declared.places.Inside.{Inside}
use Rattle.csn_fields.specs.declared.places.Inside.TheVariants.{Part, Alternative, Turn}
use Rattle.csn_fields.specs.Leaves.{kind_of, bits_of_leaf, number_in}
use Rattle.csn_fields.specs.Numbers.{HasNumbers, number_at}
use Rattle.csn_fields.specs.Events as spec
use Rattle.csn_fields.specs.Events.{EventsAt, InsideEvents, PartsEvents, TurnsEvents, next_turn, leaf_with}
use Rattle.csn_fields.specs.Places.{inside_of, role_in, advanced, opened_with, begun_as, begins_as, entered}
use Rattle.csn_fields.specs.Places.{took_bits, event_of, ends_as}
use Rattle.csn_fields.specs.Outlines.{told_at}
use Rattle.csn_fields.specs.Telling.{ToldV, with_event, Goes}
use Rattle.csn_fields.proofs.PlaceFacts.{at_place, took_bits_are}

-- ---- bits of moves

pub bits_of-append : (a c : List Move) → bits_of (a ++ c) ≡ bits_of a ++ bits_of c
bits_of-append [] c = refl
bits_of-append (Enter i ∷ a) c = bits_of-append a c
bits_of-append (Bit x ∷ a) c = ap (λ l. x ∷ l) (bits_of-append a c)
bits_of-append (Leave ∷ a) c = bits_of-append a c

pub bits_of-map : (b : List ℕ) → bits_of (map Bit b) ≡ b
bits_of-map [] = refl
bits_of-map (x ∷ b) = ap (λ l. x ∷ l) (bits_of-map b)

IsBits-front : (a b : List ℕ) → IsBits (a ++ b) → IsBits a
IsBits-front [] b p = tt
IsBits-front (x ∷ a) b p = (p.0, IsBits-front a b p.1)

IsBits-back : (a b : List ℕ) → IsBits (a ++ b) → IsBits b
IsBits-back [] b p = p
IsBits-back (x ∷ a) b p = IsBits-back a b p.1

-- bits of a block from a place on, whose places are numbers of 32 bits
pub record AreAt (o : ℕ) (b : List ℕ) : Type 0 where
  pub are : IsBits b
  pub small : o + length b < 4294967296

are_front : {o : ℕ} {w : List ℕ} (a b : List ℕ) → w ≡ a ++ b → AreAt o w → AreAt o a
are_front {o} {w} a b cut at =
    record {
      are = IsBits-front a b (subst (λ l. IsBits l) cut at.are);
      small = omega (arith, at.small, ap (λ l. length l) cut, length-append a b);
    }

are_back : {o : ℕ} {w : List ℕ} (a b : List ℕ) → w ≡ a ++ b → AreAt o w → AreAt (o + length a) b
are_back {o} {w} a b cut at =
    record {
      are = IsBits-back a b (subst (λ l. IsBits l) cut at.are);
      small = omega (arith, at.small, ap (λ l. length l) cut, length-append a b);
    }

-- the bits of a node are those of what it does between its beginning and its end
pub inside_bits : {i : ℕ} {moves : List Move} (inside : List Move) → moves ≡ Enter i ∷ (inside ++ Leave ∷ []) → bits_of moves ≡ bits_of inside
inside_bits inside are = ap (λ l. bits_of l) are ∙ bits_of-append inside (Leave ∷ []) ∙ append-nil (bits_of inside)

-- ---- the number of a leaf

number_told : (b : List ℕ) → IsBits b
    → (if nat_lt (length b) 65 then Some (number_of b % 18446744073709551616) else None) ≡ number_in b
number_told b are = elim (cases_lt (length b) 65) [
  | inl small ↦
      let at_most : length b ≤ 64 = omega (arith, small) in
      let below : number_of b < 18446744073709551616 =
      omega (arith, number_of-lt b are, pow-le-pow_right {n = 2} (omega arith) at_most) in
      let test : nat_lt (length b) 65 ≡ true = lt-ltb (length b) 65 small in
      ap (λ c. if c then Some (number_of b % 18446744073709551616) else None) test ∙ ap (λ n. Some n) (mod-eq_of_lt below)
      ∙ sym (ap (λ c. if c then Some (number_of b) else None) test)
  | inr large ↦
      let test : nat_lt (length b) 65 ≡ false = le-ltb (length b) 65 (omega (arith, large)) in
      ap (λ c. if c then Some (number_of b % 18446744073709551616) else None) test
      ∙ sym (ap (λ c. if c then Some (number_of b) else None) test)
]

-- ---- states

-- a node with what its next part is
abbrev top_of : OpenNode → Inside → Begun
top_of node inside = record { node = node; inside = inside }

pub length-advanced : (ns : List Begun) → length (advanced ns) ≡ length ns
length-advanced [] = refl
length-advanced (top ∷ ns) = refl

-- there is room for one more
opened : (begun : Begun) (ns : List Begun) → length ns < 64 → opened_with begun (advanced ns) ≡ begun ∷ advanced ns
opened begun ns room =
    ap (λ b. if b then begun ∷ advanced ns else advanced ns)
    (ap (λ n. nat_lt n 64) (length-advanced ns) ∙ lt-ltb (length ns) 64 room)

module _ (d : DescV) where
  pub tells_then : {first second third : List ℕ} {moves later : List Move} {s t u : ToldV}
      → Tells d Goes first moves second s t → Tells d Goes second later third t u → Tells d Goes first (moves ++ later) third s u
  tells_then {third = third} {later = later} {t = t} {u = u} (tells_none {around = around} same still) rest =
      let P : List ℕ → Type 0 = λ l. Tells d Goes l later third t u in
      subst (λ s. Tells d Goes around later third s u) still (subst P same rest)
  tells_then (tells_enter node next at took rest) then_on = tells_enter node next at took (tells_then rest then_on)
  tells_then (tells_bit node next at took rest) then_on = tells_bit node next at took (tells_then rest then_on)
  tells_then (tells_leave node next at took rest) then_on = tells_leave node next at took (tells_then rest then_on)

  pub tells_by : {a b : List Move} {around others : List ℕ} {s t : ToldV} → a ≡ b → Tells d Goes around a others s t
      → Tells d Goes around b others s t
  tells_by {around = around} {others = others} {s = s} {t = t} e h =
      let P : List Move → Type 0 = λ m. Tells d Goes around m others s t in
      subst P e h

  pub tells_to : {a : List Move} {around others : List ℕ} {s t u : ToldV} → t ≡ u → Tells d Goes around a others s t → Tells d Goes around a others s u
  tells_to {a = a} {around = around} {others = others} {s = s} e h =
      let P : ToldV → Type 0 = λ x. Tells d Goes around a others s x in
      subst P e h

  tells_from : {a : List Move} {around others : List ℕ} {s t u : ToldV} → t ≡ u → Tells d Goes around a others t s → Tells d Goes around a others u s
  tells_from {a = a} {around = around} {others = others} {s = s} e h =
      let P : ToldV → Type 0 = λ x. Tells d Goes around a others x s in
      subst P e h

  -- the bits of a node
  bits_tell : (numbers : List (Option ℕ)) (n : Node) (i : ℕ) (ns : List Begun) (b : List ℕ) (o k : ℕ) (es : List Event) (around : List ℕ)
      → slice_get d.nodes i ≡ Some n
      → Tells d Goes (i ∷ around) (map Bit b) (i ∷ around) (told_at numbers ns o k es)
      (record { places = took_bits b (at_place numbers ns o k); events = es })
  bits_tell numbers n i ns [] o k es around at = tells_none refl refl
  bits_tell numbers n i ns (x ∷ b) o k es around at =
      tells_bit n (told_at numbers ns ((o + 1) % 4294967296) ((2 * k + x) % 18446744073709551616) es) at refl
      (bits_tell numbers n i ns b ((o + 1) % 4294967296) ((2 * k + x) % 18446744073709551616) es around at)

  -- behind all bits of a leaf
  all_bits : (numbers : List (Option ℕ)) (ns : List Begun) (o : ℕ) (b : List ℕ) → AreAt o b
      → took_bits b (at_place numbers ns o 0) ≡ at_place numbers ns (o + length b) (number_of b % 18446744073709551616)
  all_bits numbers ns o [] at = ap (λ n. at_place numbers ns n 0) (omega arith)
  all_bits numbers ns o (x ∷ b) at =
      took_bits_are numbers ns x b o 0
      ∙ ap (λ n. at_place numbers ns n ((0 * 2 ^ length (x ∷ b) + number_of (x ∷ b)) % 18446744073709551616)) (mod-eq_of_lt at.small)
      ∙ ap (λ n. at_place numbers ns (o + length (x ∷ b)) (n % 18446744073709551616)) (omega arith)

  module _ (numbers : List (Option ℕ)) where
    -- node i with its moves tells the events of its tree, from these open nodes on
    pub record Walked (i o : ℕ) (t : TreeV) (moves : List Move) (ns : List Begun) (k : ℕ) (es : List Event) (around : List ℕ) : Type 0 where
      pub events : List Event
      pub number : ℕ
      pub are : EventsAt d i (role_in numbers i ns) o (o + length (bits_of moves)) t events
      pub tells : Tells d Goes around moves around (told_at numbers ns o k es)
          (told_at numbers (advanced ns) (o + length (bits_of moves)) number (es ++ events))

    -- the same between its beginning and its end, of a node that is no leaf
    record Insided (n : Node) (i o : ℕ) (t : TreeV) (moves : List Move) (node : OpenNode) (inside : Inside)
        (ns : List Begun) (k : ℕ) (es : List Event)
        (around : List ℕ) : Type 0 where
      pub events : List Event
      pub number : ℕ
      pub last : Inside
      pub are : InsideEvents d n o (o + length (bits_of moves)) t events
      pub tells : Tells d Goes (i ∷ around) moves (i ∷ around) (told_at numbers (top_of node inside ∷ ns) o k es)
          (told_at numbers (top_of node last ∷ ns) (o + length (bits_of moves)) number (es ++ events))

    -- the same of some parts
    record Parted (parts : List ℕ) (o : ℕ) (ts : Trees) (moves : List Move) (node : OpenNode) (ns : List Begun) (k : ℕ) (es : List Event)
        (around : List ℕ) : Type 0 where
      pub events : List Event
      pub number : ℕ
      pub are : PartsEvents d parts o (o + length (bits_of moves)) ts events
      pub tells : Tells d Goes around moves around (told_at numbers (top_of node Part ∷ ns) o k es)
          (told_at numbers (top_of node Part ∷ ns) (o + length (bits_of moves)) number (es ++ events))

    -- and of some turns
    record Turned (i turn o : ℕ) (ts : Trees) (moves : List Move) (node : OpenNode) (ns : List Begun) (k : ℕ) (es : List Event)
        (around : List ℕ) : Type 0 where
      pub events : List Event
      pub number : ℕ
      pub last : ℕ
      pub are : TurnsEvents d i turn o (o + length (bits_of moves)) ts events
      pub tells : Tells d Goes around moves around (told_at numbers (top_of node (Turn turn) ∷ ns) o k es)
          (told_at numbers (top_of node (Turn last) ∷ ns) (o + length (bits_of moves)) number (es ++ events))

    walked : {i o : ℕ} {t : TreeV} {moves : List Move} {ns : List Begun} {k : ℕ} {es : List Event} {around : List ℕ}
        (len number : ℕ) (events : List Event)
        → len ≡ length (bits_of moves) → EventsAt d i (role_in numbers i ns) o (o + len) t events
        → Tells d Goes around moves around (told_at numbers ns o k es) (told_at numbers (advanced ns) (o + len) number (es ++ events))
        → Walked i o t moves ns k es around
    walked {i} {o} {t} {moves} {ns} {k} {es} {around} len number events same are tells =
        let P : ℕ → Type 0 = λ n. EventsAt d i (role_in numbers i ns) o (o + n) t events in
        let Q : ℕ → Type 0 = λ n. Tells d Goes around moves around (told_at numbers ns o k es) (told_at numbers
        (advanced ns) (o + n) number (es ++ events)) in
        record { events = events; number = number; are = subst P same are; tells = subst Q same tells }

    -- ---- leaves

    leaf_is : (i : ℕ) (kind : LeafKind) (role : Role) (o : ℕ) (b : List ℕ) (node : OpenNode) → IsBits b
        → node.node ≡ i → node.role ≡ role → node.place ≡ o
        → ends_as (Some kind) node (o + length b) (number_of b % 18446744073709551616) ≡ event.Leaf (leaf_with i kind role o b)
    leaf_is i kind role o b node are node_is role_is place_is =
        let long : (o + length b) - node.place ≡ length b = omega (arith, place_is) in
        ap (λ n. event.Leaf (record {
          node = node.node;
          kind = kind;
          role = node.role;
          place = node.place;
          bits = n;
          number = if nat_lt n 65 then Some (number_of b % 18446744073709551616) else None;
        })) long
        ∙ ap (λ m. event.Leaf (record
        { node = node.node; kind = kind; role = node.role; place = node.place; bits = length b; number = m })) (number_told b are)
        ∙ ap (λ m. event.Leaf (record
        { node = m; kind = kind; role = node.role; place = node.place; bits = length b; number = number_in b })) node_is
        ∙ ap (λ m. event.Leaf (record { node = i; kind = kind; role = m; place = node.place; bits = length b; number = number_in b })) role_is
        ∙ ap (λ m. event.Leaf (record { node = i; kind = kind; role = role; place = m; bits = length b; number = number_in b })) place_is

    -- where a node begins
    enters : (n : Node) (i o k : ℕ) (ns : List Begun) (es told : List Event) → length ns < 64
        → told ≡ with_event (event_of (at_place numbers ns o k) (Enter i) n) es
        → told_at numbers (begun_as i (role_in numbers i ns) o n ∷ advanced ns) o 0 told
        ≡ record { places = entered i n (at_place numbers ns o k); events = with_event (event_of (at_place numbers ns o k) (Enter i) n) es }
    enters n i o k ns es told room is =
        ap (λ l. told_at numbers l o 0 told) (sym (opened (begun_as i (role_in numbers i ns) o n) ns room))
        ∙ ap (λ l. told_at numbers (opened_with (begun_as i (role_in numbers i ns) o n) (advanced ns)) o 0 l) is

    pub leaf_moves : (n : Node) (kind : LeafKind) (i o : ℕ) (b : List ℕ) (inside moves : List Move)
        (ns : List Begun) (k : ℕ) (es : List Event) (around : List ℕ)
        → slice_get d.nodes i ≡ Some n → kind_of n ≡ Some kind → inside ≡ map Bit b
        → moves ≡ Enter i ∷ (inside ++ Leave ∷ []) → length ns < 64 → AreAt o b
        → Tells d Goes around moves around (told_at numbers ns o k es)
        (told_at numbers (advanced ns) (o + length b) 0 (es ++ event.Leaf (leaf_with i kind (role_in numbers i ns) o b) ∷ []))
    leaf_moves n kind i o b inside moves ns k es around at kind_is inside_is are room here =
        let role : Role = role_in numbers i ns in
        let begun : Begun = begun_as i role o n in
        let W : ℕ = 18446744073709551616 in
        let leaf : Event = event.Leaf (leaf_with i kind role o b) in
        let unheard : es ≡ with_event (event_of (at_place numbers ns o k) (Enter i) n) es =
        ap (λ x. with_event (begins_as x i role o) es) (sym kind_is) in
        let last : with_event (Some leaf) es ≡ with_event (event_of (at_place numbers (begun ∷ advanced ns)
        (o + length b) (number_of b % W)) Leave n) es =
        sym (ap (λ x. with_event (Some (ends_as x begun.node (o + length b) (number_of b % W))) es) kind_is
        ∙ ap (λ e. with_event (Some e) es) (leaf_is i kind role o b begun.node here.are refl refl refl)) in
        let leaves : Tells d Goes (i ∷ around) (Leave ∷ []) around (told_at numbers (begun ∷ advanced ns) (o + length b) (number_of b % W) es)
        (told_at numbers (advanced ns) (o + length b) 0 (es ++ leaf ∷ [])) =
        tells_leave n (told_at numbers (advanced ns) (o + length b) 0 (es ++ leaf ∷ [])) at
        (ap (λ l. told_at numbers (advanced ns) (o + length b) 0 l) last) (tells_none refl refl) in
        let reads = tells_to (ap (λ s. record { places = s; events = es }) (all_bits numbers (begun ∷ advanced ns) o b here))
        (bits_tell numbers n i (begun ∷ advanced ns) b o 0 es around at) in
        let whole : Tells d Goes around (Enter i ∷ (map Bit b ++ Leave ∷ [])) around (told_at numbers ns o k es)
        (told_at numbers (advanced ns) (o + length b) 0 (es ++ leaf ∷ [])) =
        tells_enter n (told_at numbers (begun ∷ advanced ns) o 0 es) at (enters n i o k ns es es room unheard) (tells_then reads leaves) in
        tells_by (sym (are ∙ ap (λ l. Enter i ∷ (l ++ Leave ∷ [])) inside_is)) whole

    leaf_walks : (n : Node) (kind : LeafKind) (i o : ℕ) (t : TreeV) (b : List ℕ) (inside moves : List Move)
        (ns : List Begun) (k : ℕ) (es : List Event)
        (around : List ℕ)
        → slice_get d.nodes i ≡ Some n → kind_of n ≡ Some kind → bits_of_leaf n o t ≡ Some b → inside ≡ map Bit b
        → moves ≡ Enter i ∷ (inside ++ Leave ∷ []) → length ns < 64 → AreAt o (bits_of inside)
        → Walked i o t moves ns k es around
    leaf_walks n kind i o t b inside moves ns k es around at kind_is leaf_bits inside_is are room bits =
        let same_bits : bits_of inside ≡ b = ap (λ l. bits_of l) inside_is ∙ bits_of-map b in
        let here : AreAt o b = subst (λ l. AreAt o l) same_bits bits in
        let long : length b ≡ length (bits_of moves) = ap (λ l. length l) (sym (inside_bits inside are ∙ same_bits)) in
        walked (length b) 0 (event.Leaf (leaf_with i kind (role_in numbers i ns) o b) ∷ []) long
        (spec.events_leaf n kind b at kind_is leaf_bits refl refl)
        (leaf_moves n kind i o b inside moves ns k es around at kind_is inside_is are room here)

    -- ---- nodes that are no leaves

    -- so many bits behind its beginning it ends, where these events are told inside it
    pub node_moves : (n : Node) (i o to k : ℕ) (inside moves : List Move) (ns : List Begun) (last : Inside) (number : ℕ)
        (es events : List Event) (around : List ℕ)
        → slice_get d.nodes i ≡ Some n → kind_of n ≡ None → moves ≡ Enter i ∷ (inside ++ Leave ∷ []) → length ns < 64
        → Tells d Goes (i ∷ around) inside (i ∷ around)
        (told_at numbers (begun_as i (role_in numbers i ns) o n ∷ advanced ns) o 0 (es ++ event.Begin i (role_in numbers i ns) o ∷ []))
        (told_at numbers (top_of (begun_as i (role_in numbers i ns) o n).node last ∷ advanced ns) to number
        ((es ++ event.Begin i (role_in numbers i ns) o ∷ []) ++ events))
        → Tells d Goes around moves around (told_at numbers ns o k es)
        (told_at numbers (advanced ns) to 0 (es ++ event.Begin i (role_in numbers i ns) o ∷ (events ++ event.End i to ∷ [])))
    node_moves n i o to k inside moves ns last number es events around at no_kind are room h =
        let role : Role = role_in numbers i ns in
        let begun : Begun = begun_as i role o n in
        let first : Event = event.Begin i role o in
        let ended : Event = event.End i to in
        let begins : es ++ first ∷ [] ≡ with_event (event_of (at_place numbers ns o k) (Enter i) n) es =
        ap (λ x. with_event (begins_as x i role o) es) (sym no_kind) in
        let before : List Event = (es ++ first ∷ []) ++ events in
        let ends : before ++ ended ∷ [] ≡ with_event (event_of (at_place numbers (top_of begun.node last ∷ advanced ns) to number) Leave n) before =
        ap (λ x. with_event (Some (ends_as x begun.node to number)) before) (sym no_kind) in
        let leaves : Tells d Goes (i ∷ around) (Leave ∷ []) around (told_at numbers (top_of begun.node last ∷ advanced ns) to number before)
        (told_at numbers (advanced ns) to 0 (before ++ ended ∷ [])) =
        tells_leave n (told_at numbers (advanced ns) to 0 (before ++ ended ∷ [])) at
        (ap (λ l. told_at numbers (advanced ns) to 0 l) ends) (tells_none refl refl) in
        let whole : Tells d Goes around (Enter i ∷ (inside ++ Leave ∷ [])) around (told_at numbers ns o k es)
        (told_at numbers (advanced ns) to 0 (before ++ ended ∷ [])) =
        tells_enter n (told_at numbers (begun ∷ advanced ns) o 0 (es ++ first ∷ [])) at
        (enters n i o k ns es (es ++ first ∷ []) room begins) (tells_then h leaves) in
        let all : before ++ ended ∷ [] ≡ es ++ first ∷ (events ++ ended ∷ []) =
        append_assoc (es ++ first ∷ []) events (ended ∷ []) ∙ append_assoc es (first ∷ []) (events ++ ended ∷ []) in
        tells_by (sym are) (tells_to (ap (λ l. told_at numbers (advanced ns) to 0 l) all) whole)

    node_walks : (n : Node) (i o : ℕ) (t : TreeV) (inside moves : List Move) (ns : List Begun) (k : ℕ) (es : List Event) (around : List ℕ)
        → slice_get d.nodes i ≡ Some n → kind_of n ≡ None → moves ≡ Enter i ∷ (inside ++ Leave ∷ []) → length ns < 64
        → Insided n i o t inside (begun_as i (role_in numbers i ns) o n).node (inside_of n) (advanced ns) 0
        (es ++ event.Begin i (role_in numbers i ns) o ∷ []) around
        → Walked i o t moves ns k es around
    node_walks n i o t inside moves ns k es around at no_kind are room h =
        let to : ℕ = o + length (bits_of inside) in
        walked (length (bits_of inside)) 0 (event.Begin i (role_in numbers i ns) o ∷ (h.events ++ event.End i to ∷ []))
        (ap (λ l. length l) (sym (inside_bits inside are)))
        (spec.events_node n h.events at h.are refl)
        (node_moves n i o to k inside moves ns h.last h.number es h.events around at no_kind are room h.tells)

    -- no moves
    pub nothing_tells : (ns : List Begun) (o k : ℕ) (es : List Event) (around : List ℕ)
        → Tells d Goes around [] around (told_at numbers ns o k es) (told_at numbers ns (o + 0) k (es ++ []))
    nothing_tells ns o k es around =
        tells_none refl
        (ap (λ l. told_at numbers ns (o + 0) k l) (append-nil es)
        ∙ ap (λ n. told_at numbers ns n k es) (omega arith))

    null_inside : {inside : List Move} (i o : ℕ) (node : OpenNode) (kind : Inside) (ns : List Begun) (k : ℕ)
        (es : List Event) (around : List ℕ) → inside ≡ []
        → Insided Null i o empty inside node kind ns k es around
    null_inside i o node kind ns k es around is =
        let P : List Move → Type 0 = λ m. Insided Null i o empty m node kind ns k es around in
        subst P (sym is) (record {
          events = [];
          number = k;
          last = kind;
          are = spec.inside_null (omega arith) refl;
          tells = nothing_tells (top_of node kind ∷ ns) o k es (i ∷ around);
        })

    parts_none : {moves : List Move} {parts : List ℕ} {o : ℕ} (node : OpenNode) (ns : List Begun) (k : ℕ)
        (es : List Event) (around : List ℕ) → moves ≡ []
        → Parted parts o none moves node ns k es around
    parts_none {parts = parts} {o = o} node ns k es around is =
        let P : List Move → Type 0 = λ m. Parted parts o none m node ns k es around in
        subst P (sym is) (record {
          events = [];
          number = k;
          are = spec.parts_end (omega arith) refl;
          tells = nothing_tells (top_of node Part ∷ ns) o k es around;
        })

    turns_none : {moves : List Move} {i turn o : ℕ} (node : OpenNode) (ns : List Begun) (k : ℕ) (es : List Event) (around : List ℕ) → moves ≡ []
        → Turned i turn o none moves node ns k es around
    turns_none {i = i} {turn = turn} {o = o} node ns k es around is =
        let P : List Move → Type 0 = λ m. Turned i turn o none m node ns k es around in
        subst P (sym is) (record {
          events = [];
          number = k;
          last = turn;
          are = spec.turns_end (omega arith) refl;
          tells = nothing_tells (top_of node (Turn turn) ∷ ns) o k es around;
        })

    -- bits of two parts
    two_lengths : (o : ℕ) {moves : List Move} (first rest : List Move) → moves ≡ first ++ rest
        → (o + length (bits_of first)) + length (bits_of rest) ≡ o + length (bits_of moves)
    two_lengths o first rest are =
        omega (arith, ap (λ l. length (bits_of l)) are, ap (λ l. length l) (bits_of-append first rest), length-append (bits_of first) (bits_of rest))

    part_and_parts : {i : ℕ} {parts : List ℕ} {o : ℕ} {t : TreeV} {ts : Trees} {moves : List Move} (node : OpenNode)
        (ns : List Begun) (k : ℕ) (es : List Event)
        (around : List ℕ) (first rest : List Move) → moves ≡ first ++ rest
        → (one : Walked i o t first (top_of node Part ∷ ns) k es around)
        → Parted parts (o + length (bits_of first)) ts rest node ns one.number (es ++ one.events) around
        → Parted (i ∷ parts) o (more t ts) moves node ns k es around
    part_and_parts {i} {parts} {o} {t} {ts} {moves} node ns k es around first rest are one others =
        let P : ℕ → Type 0 = λ to. PartsEvents d parts (o + length (bits_of first)) to ts others.events in
        let same = two_lengths o first rest are in
        record {
          events = one.events ++ others.events;
          number = others.number;
          are = spec.parts_next (o + length (bits_of first)) one.events others.events refl one.are (subst P same others.are);
          tells =
              tells_by (sym are)
              (tells_to (ap (λ l. told_at numbers (top_of node Part ∷ ns) (o + length
              (bits_of moves)) others.number l) (append_assoc es one.events others.events))
              (tells_to (ap (λ n. told_at numbers (top_of node Part ∷ ns) n others.number ((es ++ one.events) ++ others.events)) same)
              (tells_then one.tells others.tells)));
        }

    turn_and_turns : {i turn o : ℕ} {t : TreeV} {ts : Trees} {moves : List Move} (node : OpenNode) (ns : List Begun)
        (k : ℕ) (es : List Event) (around : List ℕ)
        (first rest : List Move) → moves ≡ first ++ rest
        → (one : Walked i o t first (top_of node (Turn turn) ∷ ns) k es around)
        → Turned i (next_turn turn) (o + length (bits_of first)) ts rest node ns one.number (es ++ one.events) around
        → Turned i turn o (more t ts) moves node ns k es around
    turn_and_turns {i} {turn} {o} {t} {ts} {moves} node ns k es around first rest are one others =
        let P : ℕ → Type 0 = λ to. TurnsEvents d i (next_turn turn) (o + length (bits_of first)) to ts others.events in
        let same = two_lengths o first rest are in
        record {
          events = one.events ++ others.events;
          number = others.number;
          last = others.last;
          are = spec.turns_next (o + length (bits_of first)) one.events others.events refl one.are (subst P same others.are);
          tells =
              tells_by (sym are)
              (tells_to (ap (λ l. told_at numbers (top_of node (Turn others.last) ∷ ns) (o + length
              (bits_of moves)) others.number l) (append_assoc es one.events others.events))
              (tells_to (ap (λ n. told_at numbers (top_of node (Turn others.last) ∷ ns) n others.number ((es ++ one.events) ++ others.events)) same)
              (tells_then one.tells others.tells)));
        }

    -- the open nodes where a part begins
    deeper : (ns : List Begun) {round : ℕ} → length ns ≤ round → suc (length (advanced ns)) ≤ suc round
    deeper ns room = omega (arith, room, length-advanced ns)

    -- the parts of a node are well formed
    part_formed : {shows : Bool} {seen : List ℕ} {round : ℕ} {parts : List ℕ} (j i : ℕ)
        → PartsFormed d.nodes shows seen round parts → slice_get parts j ≡ Some i
        → (inner : List ℕ) × Formed d.nodes inner round i
    part_formed j i formed_end there = absurd (cc)
    part_formed {seen = seen} {round = round} zero i (formed_next {i = p} f fs) there =
        let same : p ≡ i = cc in (seen, subst (λ x. Formed d.nodes seen round x) same f)
    part_formed (suc j) i (formed_next f fs) there = part_formed j i fs there

    only_part : {shows : Bool} {seen : List ℕ} {round part : ℕ} → PartsFormed d.nodes shows seen round (part ∷ []) → Formed d.nodes seen round part
    only_part (formed_next f fs) = f

    module _ (has : HasNumbers d numbers) where
      mutual
        pub walk_tells : {i o : ℕ} {t : TreeV} {moves : List Move} (ns : List Begun) (k : ℕ) (es : List Event)
            (around : List ℕ) {seen : List ℕ} {round : ℕ}
            → Formed d.nodes seen round i → length ns ≤ round → AreAt o (bits_of moves) → Walk d i o t moves
            → Walked i o t moves ns k es around
        walk_tells {i} {o} ns k es around {seen} {round} (formed m at0 deep head has_parts counted parts) room bits (walk_at n inside at h are) =
            let twice : Some m ≡ Some n = sym at0 ∙ at in
            let same : m ≡ n = cc in
            let P : Node → Type 0 = λ x. PartsFormed d.nodes (shows_earlier x) seen (suc round) (parts_of x) in
            let there : AreAt o (bits_of inside) = subst (λ l. AreAt o l) (inside_bits inside are) bits in
            node_tells n ns k es around at (omega (arith, room, deep)) room (subst P same parts) there are h

        node_tells : (n : Node) {i o : ℕ} {t : TreeV} {inside moves : List Move} (ns : List Begun) (k : ℕ) (es : List Event) (around : List ℕ)
            {shows : Bool} {seen : List ℕ} {round : ℕ}
            → slice_get d.nodes i ≡ Some n → length ns < 64 → length ns ≤ round → PartsFormed d.nodes shows seen (suc round) (parts_of n)
            → AreAt o (bits_of inside) → moves ≡ Enter i ∷ (inside ++ Leave ∷ []) → NodeWalk d n o t inside
            → Walked i o t moves ns k es around
        node_tells (Lits run) {i} {o} {inside = inside} {moves = moves} ns k es around at few room parts bits are (walk_lits is) =
            leaf_walks (Lits run) kind.Literal i o empty (spelled run o) inside moves ns k es around at refl refl is are few bits
        node_tells (Spare s) {i} {o} {inside = inside} {moves = moves} ns k es around at few room parts bits are (walk_spare {b = b} is) =
            leaf_walks (Spare s) kind.Spare i o (bits_tree b) b inside moves ns k es around at refl refl is are few bits
        node_tells Pad {i} {o} {inside = inside} {moves = moves} ns k es around at few room parts bits are (walk_pad {b = b} is) =
            leaf_walks Pad kind.Padding i o (bits_tree b) b inside moves ns k es around at refl refl is are few bits
        node_tells (Field unit count) {i} {o} {inside = inside} {moves = moves} ns k es around at few room parts bits are (walk_field {b = b} is) =
            leaf_walks (Field unit count) kind.Field i o (bits_tree b) b inside moves ns k es around at refl refl is are few bits
        node_tells Rest {i} {o} {inside = inside} {moves = moves} ns k es around at few room parts bits are (walk_rest {b = b} is) =
            leaf_walks Rest kind.Rest i o (bits_tree b) b inside moves ns k es around at refl refl is are few bits
        node_tells Null {i} {o} {inside = inside} {moves = moves} ns k es around at few room parts bits are (walk_null is) =
            node_walks Null i o empty inside moves ns k es around at refl are few
            (null_inside i o (begun_as i (role_in numbers i ns) o Null).node Part (advanced ns) 0 (es ++ event.Begin i
            (role_in numbers i ns) o ∷ []) around is)
        node_tells (Seq ps) {i} {o} {inside = inside} {moves = moves} ns k es around at few room parts bits are (walk_seq {ts = ts} h) =
            let node : OpenNode = (begun_as i (role_in numbers i ns) o (Seq ps)).node in
            let p = parts_tell node (advanced ns) 0 (es ++ event.Begin i (role_in numbers i ns) o ∷ []) (i ∷ around) parts (deeper ns room) bits h in
            node_walks (Seq ps) i o (row ts) inside moves ns k es around at refl are few
            (record { events = p.events; number = p.number; last = Part; are = spec.inside_seq p.are; tells = p.tells })
        node_tells (Trunc ps) {i} {o} {inside = inside} {moves = moves} ns k es around at few room parts bits are (walk_trunc {ts = ts} h) =
            let node : OpenNode = (begun_as i (role_in numbers i ns) o (Trunc ps)).node in
            let p = lead_tells node (advanced ns) 0 (es ++ event.Begin i (role_in numbers i ns) o ∷ []) (i ∷ around) parts (deeper ns room) bits h in
            node_walks (Trunc ps) i o (row ts) inside moves ns k es around at refl are few
            (record { events = p.events; number = p.number; last = Part; are = spec.inside_trunc p.are; tells = p.tells })
        node_tells (Choice ps) {i} {o} {inside = inside} {moves = moves} ns k es around at few room parts bits are
            (walk_choice {j = j} {t = t} part is h) =
            let node : OpenNode = (begun_as i (role_in numbers i ns) o (Choice ps)).node in
            let f = part_formed j part parts is in
            let p = walk_tells (top_of node Alternative ∷ advanced ns) 0 (es ++ event.Begin i
            (role_in numbers i ns) o ∷ []) (i ∷ around) f.1 (deeper ns room) bits h in
            let there : slice_get numbers part ≡ Some (Some j) = has.given i j part ps (slice_get_within d.nodes i (Choice ps) at) at is in
            let P : Role → Type 0 = λ r. EventsAt d part r o (o + length (bits_of inside)) t p.events in
            node_walks (Choice ps) i o (alt j t) inside moves ns k es around at refl are few
            (record {
              events = p.events;
              number = p.number;
              last = Alternative;
              are = spec.inside_choice part is (subst P (ap (λ x. role.Alternative (number_at x)) there) p.are);
              tells = p.tells;
            })
        node_tells (Times count part) {i} {o} {inside = inside} {moves = moves} ns k es around at few room parts bits are (walk_times {ts = ts} h) =
            let node : OpenNode = (begun_as i (role_in numbers i ns) o (Times count part)).node in
            let p = turns_tell node (advanced ns) 0 0 (es ++ event.Begin i (role_in numbers i ns) o ∷ []) (i ∷ around)
            (only_part parts) (deeper ns room) bits h in
            node_walks (Times count part) i o (row ts) inside moves ns k es around at refl are few
            (record { events = p.events; number = p.number; last = Turn p.last; are = spec.inside_times p.are; tells = p.tells })
        node_tells (Many part) {i} {o} {inside = inside} {moves = moves} ns k es around at few room parts bits are (walk_many {ts = ts} h) =
            let node : OpenNode = (begun_as i (role_in numbers i ns) o (Many part)).node in
            let p = turns_tell node (advanced ns) 0 0 (es ++ event.Begin i (role_in numbers i ns) o ∷ []) (i ∷ around)
            (only_part parts) (deeper ns room) bits h in
            node_walks (Many part) i o (row ts) inside moves ns k es around at refl are few
            (record { events = p.events; number = p.number; last = Turn p.last; are = spec.inside_many p.are; tells = p.tells })
        node_tells (Window unit count part) {i} {o} {t = t} {inside = inside}
            {moves = moves} ns k es around at few room parts bits are (walk_window h) =
            let node : OpenNode = (begun_as i (role_in numbers i ns) o (Window unit count part)).node in
            let p = walk_tells (top_of node Part ∷ advanced ns) 0 (es ++ event.Begin i (role_in numbers i ns) o ∷ [])
            (i ∷ around) (only_part parts) (deeper ns room) bits h in
            node_walks (Window unit count part) i o t inside moves ns k es around at refl are few
            (record { events = p.events; number = p.number; last = Part; are = spec.inside_window p.are; tells = p.tells })
        node_tells (Named label part) {i} {o} {inside = inside} {moves = moves} ns k es around at few room parts bits are (walk_named {t = t} h) =
            let node : OpenNode = (begun_as i (role_in numbers i ns) o (Named label part)).node in
            let p = walk_tells (top_of node Part ∷ advanced ns) 0 (es ++ event.Begin i (role_in numbers i ns) o ∷ [])
            (i ∷ around) (only_part parts) (deeper ns room) bits h in
            node_walks (Named label part) i o (named label t) inside moves ns k es around at refl are few
            (record { events = p.events; number = p.number; last = Part; are = spec.inside_named p.are; tells = p.tells })

        parts_tell : {parts : List ℕ} {o : ℕ} {ts : Trees} {moves : List Move} (node : OpenNode) (ns : List Begun)
            (k : ℕ) (es : List Event) (around : List ℕ)
            {shows : Bool} {seen : List ℕ} {round : ℕ}
            → PartsFormed d.nodes shows seen round parts → suc (length ns) ≤ round → AreAt o (bits_of moves) → PartsWalk d parts o ts moves
            → Parted parts o ts moves node ns k es around
        parts_tell node ns k es around f room bits (parts_end are) = parts_none node ns k es around are
        parts_tell node ns k es around (formed_next f fs) room bits (parts_next first rest are h hs) =
            let cut = ap (λ l. bits_of l) are ∙ bits_of-append first rest in
            let one = walk_tells (top_of node Part ∷ ns) k es around f room (are_front (bits_of first) (bits_of rest) cut bits) h in
            part_and_parts node ns k es around first rest are one
            (parts_tell node ns one.number (es ++ one.events) around fs room (are_back (bits_of first) (bits_of rest) cut bits) hs)

        lead_tells : {parts : List ℕ} {o : ℕ} {ts : Trees} {moves : List Move} (node : OpenNode) (ns : List Begun)
            (k : ℕ) (es : List Event) (around : List ℕ)
            {shows : Bool} {seen : List ℕ} {round : ℕ}
            → PartsFormed d.nodes shows seen round parts → suc (length ns) ≤ round → AreAt o (bits_of moves) → LeadWalk d parts o ts moves
            → Parted parts o ts moves node ns k es around
        lead_tells node ns k es around f room bits (lead_end are) = parts_none node ns k es around are
        lead_tells node ns k es around (formed_next f fs) room bits (lead_next first rest are h hs) =
            let cut = ap (λ l. bits_of l) are ∙ bits_of-append first rest in
            let one = walk_tells (top_of node Part ∷ ns) k es around f room (are_front (bits_of first) (bits_of rest) cut bits) h in
            part_and_parts node ns k es around first rest are one
            (lead_tells node ns one.number (es ++ one.events) around fs room (are_back (bits_of first) (bits_of rest) cut bits) hs)

        turns_tell : {i o : ℕ} {ts : Trees} {moves : List Move} (node : OpenNode) (ns : List Begun) (turn k : ℕ) (es : List Event) (around : List ℕ)
            {seen : List ℕ} {round : ℕ}
            → Formed d.nodes seen round i → suc (length ns) ≤ round → AreAt o (bits_of moves) → RepeatsWalk d i o ts moves
            → Turned i turn o ts moves node ns k es around
        turns_tell node ns turn k es around f room bits (repeats_end are) = turns_none node ns k es around are
        turns_tell node ns turn k es around f room bits (repeats_next first rest are h hs) =
            let cut = ap (λ l. bits_of l) are ∙ bits_of-append first rest in
            let one = walk_tells (top_of node (Turn turn) ∷ ns) k es around f room (are_front (bits_of first) (bits_of rest) cut bits) h in
            turn_and_turns node ns k es around first rest are one
            (turns_tell node ns (next_turn turn) one.number (es ++ one.events) around f room (are_back (bits_of first) (bits_of rest) cut bits) hs)
