-- Leaves take bits.
use Rattle.std.proofs.Common.{◌≡◌, ℕ, suc, ◌+◌, ◌-◌, ◌<◌, ◌≤◌, ◌⊎◌, inl, inr, Bool, true, false, List, [], ◌∷◌, ◌++◌}
use Rattle.std.proofs.Common.{length, map, take, drop, min, refl, sym, ◌∙◌, ap, subst, arith, append_assoc}
use Rattle.std.proofs.Common.{append-nil, length-append, length-drop, take-append-drop, Option, Some, slice_get}
use Rattle.std.proofs.lemmas.Bool.Decides.{leb_tells}
use Rattle.std.proofs.lemmas.List.{length-take-le, drop-drop, nil_from_length}
use Rattle.csn_bits.specs.Octets.{IsBits}
use Rattle.csn_desc.specs.declared.reading.Reading.{Reading}
use Rattle.csn_desc.specs.declared.reading.Reading.TheVariants.{Sent}
use Rattle.csn_desc.specs.declared.symbol.Symbol.{Symbol}
use Rattle.csn_desc.specs.declared.symbol.Symbol.TheVariants.{Low}
use Rattle.csn_desc.specs.declared.moves.Move.{Move}
use Rattle.csn_desc.specs.declared.moves.Move.TheVariants.{Bit}
use Rattle.csn_desc.specs.declared.node.Node.{Node}
use Rattle.csn_desc.specs.declared.node.Node.TheVariants.{Lits, Spare}
use Rattle.csn_desc.specs.Nodes.{DescV}
use Rattle.csn_desc.specs.Spelled.{symbol_bit, spelled, IsSpare}
use Rattle.csn_desc.proofs.BitFacts.{IsBits-front, length-spelled}
use Rattle.csn_judge.specs.declared.leaf.Leaf.TheVariants as leaf
use Rattle.csn_judge.specs.declared.leaf.Read.TheVariants as read
use Rattle.csn_judge.specs.Coming.{Coming, IsTaken, IsGood, IsSame}
use Rattle.csn_judge.specs.Known.{Known}
use Rattle.csn_judge.specs.Told.{BitsTold}
use Rattle.csn_judge.specs.Left.{Left, bits_left, symbols_left, spare_left, pad_left, rest_left, none_left, Completes}
use Rattle.csn_judge.specs.Left.{completes_bits, completes_symbols, completes_spare}
use Rattle.csn_judge.specs.Remains.{Within, Goes, Passes}
use Rattle.csn_judge.specs.Inside.{IsStack, stack_node, of_pad, of_pad_begun, of_rest, AreOwed}
use Rattle.csn_judge.specs.Shown.{LeafShows, shows_lits, shows_spare, shows_pad, shows_field, shows_rest, limit_in}
use Rattle.csn_judge.specs.Reads.{MayBeLeft, may_lits, SpareDiffers, Takes, Keeps, Differs, ReadsLeaf}
use Rattle.csn_judge.proofs.StepFacts.{Replaces, Alike, NotBefore, as_many, replaced, steps_none}
use Rattle.csn_judge.proofs.Leaves.{spare_at, take_bits, take_symbols, take_spare, take_pad, take_rest, no_bits_wanted, no_symbols_wanted}
use Rattle.csn_judge.proofs.Closing.{passes_of, Ends, pad_ends, rest_ends, closed_full, closed_last}
use Rattle.csn_judge.proofs.Refusing.{alive, spare_alive, bits_wanted, symbols_wanted, spare_wanted, pad_wanted}
use Rattle.csn_judge.proofs.Refusing.{symbols_follow, symbols_differ, spare_differs, pad_follows}
use Rattle.csn_judge.proofs.Lasts.{pad_at_last, rest_at_last, not_before, pad_differs}
use Rattle.csn_judge.proofs.SpellingFacts.{Mismatch, mismatch, all_alike}
use Rattle.csn_judge.proofs.Turning.{within_limit}
use Rattle.csn_judge.proofs.LeafStacks.{full_at, Kept, field_kept, field_done, literal_kept, literal_done, spare_kept}
use Rattle.csn_judge.proofs.LeafStacks.{pad_kept, pad_done, rest_kept, rest_done}

-- ---- what is taken of what comes

-- so many bits are taken, as many as may be up to a number
pub record Given (most n : ℕ) (old new : Coming) : Type 0 where
  pub good : IsGood old
  pub taken : IsTaken n old new
  pub few : n ≤ length old.bits
  pub room : old.place + n ≤ old.limit
  pub why : n ≡ min most (min (length old.bits) (old.limit - old.place))

-- those that are ready
pub record IsReadied (most n : ℕ) (old mid : Coming) : Type 0 where
  pub same : IsSame old mid
  pub good : IsGood mid
  pub count : n ≡ min most (min (length mid.bits) (mid.limit - mid.place))

pub good_of : {most n : ℕ} {old mid : Coming} → IsReadied most n old mid → IsGood old
good_of r =
    record {
      bits = subst (λ (l : List ℕ). IsBits l) r.same.bits r.good.bits;
      fits = omega (arith, r.good.fits, ap length r.same.bits, r.same.place);
      inside = omega (arith, r.good.inside, r.same.place, r.same.limit);
      nothing = λ e. sym r.same.bits ∙ r.good.nothing (r.same.ended ∙ e);
    }

pub given : {most n : ℕ} {old mid new : Coming} → IsReadied most n old mid → IsTaken n mid new → Given most n old new
given {most} {n} {old} {mid} {new} r t =
    let size = ap length r.same.bits in
    record {
      good = good_of r;
      taken = record {
        bits = t.bits ∙ ap (λ l. drop n l) r.same.bits;
        place = t.place ∙ ap (λ p. p + n) r.same.place;
        limit = t.limit ∙ r.same.limit;
        ended = t.ended ∙ r.same.ended;
      };
      few = omega (arith, r.count, size);
      room = omega (arith, r.count, r.same.place, r.same.limit, r.good.inside);
      why = r.count ∙ ap (λ k. min most (min k (mid.limit - mid.place))) size
          ∙ ap (λ k. min most (min (length old.bits) (k - mid.place))) r.same.limit
          ∙ ap (λ k. min most (min (length old.bits) (old.limit - k))) r.same.place;
    }

-- what is told of them
pub told_of : {S : Type 0} (takes : S → Move → Node → S → Type 0) (node : Node) (before after : S) (n : ℕ) {b c : List ℕ} → b ≡ c
    → BitsTold takes node (take n b) before after → BitsTold takes node (take n c) before after
told_of takes node before after n e told = subst (λ (l : List ℕ). BitsTold takes node (take n l) before after) e told

-- what is spare of them
pub spare_of : {reading other : Reading} {place at : ℕ} {b c : List ℕ} (s : Symbol) → other ≡ reading → (n : ℕ) → place ≡ at → b ≡ c
    → IsSpare reading s place (take n b) → IsSpare other s at (take n c)
spare_of {reading} {other} {place} {at} {b} {c} s same n e f h =
    let P : Reading → Type 0 = λ r. IsSpare r s at (take n c) in
    let Q : List ℕ → Type 0 = λ l. IsSpare reading s at (take n l) in
    subst P (sym same) (subst Q f (spare_at reading s (take n b) e h))

-- they are as in some symbols, where as many are alike
pub alike_here : {most n k : ℕ} {old mid : Coming} {wanted : List ℕ} (run : List Symbol)
    → IsReadied most n old mid → length run ≡ n → wanted ≡ spelled run mid.place
    → k ≤ n → n ≤ k → take k mid.bits ≡ take k wanted → take n old.bits ≡ spelled run old.place
alike_here {n = n} {k} {mid = mid} run r long is within last same =
    ap (λ l. take n l) (sym r.same.bits)
    ∙ all_alike k n mid.bits (spelled run mid.place) within last (length-spelled run mid.place ∙ long) (same ∙ ap (λ l. take k l) is)
    ∙ ap (λ p. spelled run p) r.same.place

-- where a literal goes on there is a symbol
pub may_go_on : {at : ℕ} {node : Node} {run : List Symbol} → MayBeLeft (leaf.Lits at) node → node ≡ Lits run → at < length run
may_go_on {at} {node} {run} (may_lits other is less) same = let e : other ≡ run = cc in subst (λ (l : List Symbol). at < length l) e less

-- none
pub given_none : {most n : ℕ} {old mid : Coming} → n ≡ 0 → IsReadied most n old mid → Given most 0 old mid
given_none {most} {n} {old} {mid} none r =
    let P : ℕ → Type 0 = λ k. IsReadied most k old mid in
    given (subst P none r) (record { bits = refl; place = omega arith; limit = refl; ended = refl })

-- where none is taken, no bit can be taken as before
pub closed_before : {n : ℕ} {mid new : Coming} → IsTaken n mid new → n ≡ 0 → (new.ended ≡ true)
    ⊎ (new.place ≡ new.limit) → (mid.ended ≡ true) ⊎ (mid.place ≡ mid.limit)
closed_before t none (inl over) = inl (sym t.ended ∙ over)
closed_before t none (inr full) = inr (omega (arith, full, none, t.place, t.limit))

module _ {most n : ℕ} {old new : Coming} (g : Given most n old new) where
  abbrev pub taken_of : List ℕ
  taken_of = take n old.bits

  pub split : old.bits ≡ taken_of ++ new.bits
  split = sym (take-append-drop n old.bits) ∙ ap (λ l. take n old.bits ++ l) (sym g.taken.bits)

  pub size : length taken_of ≡ n
  size = length-take-le n old.bits g.few

  pub good_taken : IsBits taken_of
  good_taken = IsBits-front taken_of new.bits (subst (λ (l : List ℕ). IsBits l) split g.good.bits)

  -- no bit can be
  pub stops : 0 < most → n ≡ 0 → (new.bits ≡ []) ⊎ (new.place ≡ new.limit)
  stops some none =
      elim (leb_tells 1 (length old.bits)) [
        | inl there ↦ inr (omega (arith, there.1, some, none, g.why, g.good.inside, g.taken.place, g.taken.limit))
        | inr few ↦ inl (g.taken.bits ∙ ap (λ k. drop k old.bits) none ∙ nil_from_length old.bits (omega (arith, few.1)))
      ]

  pub not_taken : new.place ≡ old.place → n ≡ 0
  not_taken still = omega (arith, still, g.taken.place)

module _ (d : DescV) where
  -- a form in place of another, and one that is alike in place of that
  pub replaces_then : {old mid new : Left} {done taken : List ℕ} {made : List Move}
      → Replaces d old mid done taken made → Alike d mid new (done ++ taken) → Replaces d old new done taken made
  replaces_then r a =
      record {
        completes = λ b moves h.
            let found = r.completes b moves h in
            (found.0, found.1, a.completes b found.0 found.2);
        completed = λ b more h. r.completed b more (a.completed b more h);
        begins = λ b h. a.begins b (r.begins b h);
        begun = λ b h. r.begun b (a.begun b h);
        up_old = r.up_old;
        up_new = a.up_new;
      }

  -- ---- a bit is missing

  field_wants : {i k : ℕ} {left : Left} {done : List ℕ} → LeafShows d i (leaf.Field k) left → 0 < k → (moves : List Move) → ¬ Completes d left done [] moves
  field_wants {k = k} {done = done} (shows_field unit count at) some moves = bits_wanted d k done some moves

  pad_wants : {i : ℕ} {begun : Bool} {left : Left} {done : List ℕ} → LeafShows d i (leaf.Pad begun) left
      → (begun ≡ true → ⊥) → (moves : List Move) → ¬ Completes d left done [] moves
  pad_wants {begun = true} (shows_pad at) not moves = absurd (not refl)
  pad_wants {begun = false} {done = done} (shows_pad at) not moves = pad_wanted d done moves

  spare_wants : {i : ℕ} {left : Left} {done : List ℕ} → LeafShows d i leaf.Spare left → (moves : List Move) → ¬ Completes d left done [] moves
  spare_wants {done = done} (shows_spare {s = s} at) moves = spare_wanted d s done moves

  literal_wants : {i at : ℕ} {left : Left} {done : List ℕ} → LeafShows d i (leaf.Lits at) left → (moves : List Move) → ¬ Completes d left done [] moves
  literal_wants {at = at} {done = done} (shows_lits {left = l} run look less is) moves = wants l (omega (arith, less, ap length is, length-drop at run)) moves
    where
      wants : (l : List Symbol) → 0 < length l → (moves : List Move) → ¬ Completes d (symbols_left l) done [] moves
      wants [] none moves = absurd (omega (arith, none))
      wants (s ∷ l) there moves = symbols_wanted d s l done moves

  module _ {S : Type 0} (takes : S → Move → Node → S → Type 0) (node : Node) (old new : Coming) (before after : S) where
    made_by : {next : ℕ} {fresh : Option ℕ} {most n : ℕ} (g : Given most n old new) {left now : Left} {outer : List Left} {done : List ℕ}
        → Kept d next fresh now outer done (taken_of g) new.bits
        → NotBefore d left outer done (taken_of g) → Replaces d left now done (taken_of g) (map Bit (taken_of g))
        → BitsTold takes node (taken_of g) before after
        → Takes d next fresh takes node old new before after left outer done now
    made_by {n = n} g kept least r told =
        record {
          taken = taken_of g;
          bits = split g;
          place = g.taken.place ∙ ap (λ k. old.place + k) (sym (size g));
          limit = g.taken.limit;
          ended = g.taken.ended;
          stack_is = kept.stack_is;
          owed = kept.owed;
          steps = passes_of old.ended (replaced d new.bits least r);
          told = told;
        }

    owed_split : {most n : ℕ} (g : Given most n old new) (outer : List Left) (done : List ℕ)
        → AreOwed outer done old.bits → AreOwed outer done (taken_of g ++ new.bits)
    owed_split g outer done owed = subst (λ (l : List ℕ). AreOwed outer done l) (split g) owed

    -- ---- fields

    many_enough : (k : ℕ) {outer : List Left} {done : List ℕ} (taken : List ℕ) → length taken ≤ k → NotBefore d (bits_left k) outer done taken
    many_enough k taken less = as_many d (λ b moves h. at_least b moves h)
      where
        at_least : {done : List ℕ} (b : List ℕ) (moves : List Move) → Completes d (bits_left k) done b moves → length taken ≤ length b
        at_least b moves (completes_bits long good leave) = omega (arith, long, less)

    -- all bits of one
    pub field_all : {next : ℕ} {fresh : Option ℕ} {most n k : ℕ} (g : Given most n old new) {outer : List Left} {done : List ℕ} → n ≡ k → Known d
        → IsStack d next fresh (bits_left k ∷ outer) done → AreOwed outer done old.bits → BitsTold takes node (taken_of g) before after
        → Takes d next fresh takes node old new before after (bits_left k) outer done none_left
    field_all {k = k} g {outer} {done} all known is owed told =
        let sum : k ≡ length (taken_of g) + 0 = omega (arith, size g, all) in
        let kept = field_kept d {m = 0} (taken_of g) new.bits is (good_taken g) sum (owed_split g outer done owed) in
        made_by g (record { stack_is = field_done d known kept.stack_is refl; owed = kept.owed })
        (many_enough k (taken_of g) (omega (arith, sum)))
        (replaces_then (take_bits d k 0 done (taken_of g) sum (good_taken g)) (no_bits_wanted d (done ++ taken_of g)))
        told

    -- some of them
    pub field_some : {next : ℕ} {fresh : Option ℕ} {most n : ℕ} (g : Given most n old new) {k m : ℕ} {outer : List Left} {done : List ℕ} → k ≡ n + m
        → IsStack d next fresh (bits_left k ∷ outer) done → AreOwed outer done old.bits → BitsTold takes node (taken_of g) before after
        → Takes d next fresh takes node old new before after (bits_left k) outer done (bits_left m)
    field_some {n = n} g {k} {m} {outer} {done} sum is owed told =
        let sums : k ≡ length (taken_of g) + m = omega (arith, size g, sum) in
        made_by g (field_kept d (taken_of g) new.bits is (good_taken g) sums (owed_split g outer done owed))
        (many_enough k (taken_of g) (omega (arith, sums)))
        (take_bits d k m done (taken_of g) sums (good_taken g))
        told

    pub field_reads_all : {most n k : ℕ} (g : Given most n old new) → n ≡ k → BitsTold takes node (taken_of g) before after
        → ReadsLeaf d takes (leaf.Field k) node old new before after read.All
    field_reads_all {k = k} g all told next fresh i left outer done known a = by a.shows a.stack_is
      where
        by : {left : Left} → LeafShows d i (leaf.Field k) left → IsStack d next fresh (left ∷ outer) done
            → Takes d next fresh takes node old new before after left outer done none_left
        by (shows_field unit count at) is = field_all g all known is a.owed told

    pub field_reads_some : {most n : ℕ} (g : Given most n old new) {k : ℕ} → n < k → 0 < most → BitsTold takes node (taken_of g) before after
        → ReadsLeaf d takes (leaf.Field k) node old new before after (read.Some (leaf.Field (k - n)))
    field_reads_some {n = n} g {k} less some told next fresh i left outer done known a = by a.shows a.stack_is
      where
        by : {left : Left} → LeafShows d i (leaf.Field k) left → IsStack d next fresh (left ∷ outer) done
            → Keeps d next fresh takes node old new before after left outer done i (leaf.Field (k - n))
        by (shows_field unit count at) is =
            record {
              now = bits_left (k - n);
              shows = shows_field unit count at;
              on = field_some g (omega (arith, less)) is a.owed told;
              stays = λ still. record { stops = stops g some (not_taken g still); wants = λ closed left done shown. field_wants shown (omega (arith, less)) };
            }

    -- ---- rests

    pub rest_reads_some : {most n : ℕ} (g : Given most n old new) → 0 < most
        → (n ≡ 0 → ¬ ((new.ended ≡ true) ⊎ (new.place ≡ new.limit))) → BitsTold takes node (taken_of g) before after
        → ReadsLeaf d takes leaf.Rest node old new before after (read.Some leaf.Rest)
    rest_reads_some {n = n} g some not_closed told next fresh i left outer done known a = by a.shows a.stack_is
      where
        room : Within outer (length done + length (taken_of g))
        room = within_limit d outer (length done + length (taken_of g)) (omega (arith, a.place, a.limit, g.room, size g))

        least : IsStack d next fresh (rest_left ∷ outer) done → NotBefore d rest_left outer done (taken_of g)
        least (stack_node k from v bits ready (of_rest at order up) inner) =
            not_before d 12 known.description known.certified known (rest_at_last d at ready inner) done (taken_of g) room

        by : {left : Left} → LeafShows d i leaf.Rest left → IsStack d next fresh (left ∷ outer) done
            → Keeps d next fresh takes node old new before after left outer done i leaf.Rest
        by (shows_rest look) is =
            record {
              now = rest_left;
              shows = shows_rest look;
              on = made_by g (rest_kept d (taken_of g) new.bits is (good_taken g) (owed_split g outer done a.owed))
                  (least is) (take_rest d done (taken_of g) (good_taken g)) told;
              stays = λ still. record {
                stops = stops g some (not_taken g still);
                wants =
                    λ closed left done shown moves. absurd (not_closed (not_taken g still) closed);
              };
            }

    -- ---- where no bit can come

    takes_no_bit : {next : ℕ} {fresh : Option ℕ} {most : ℕ} (g : Given most 0 old new) {left now : Left} {outer : List Left} {done : List ℕ}
        → IsStack d next fresh (now ∷ outer) done → AreOwed outer done old.bits → after ≡ before
        → Passes d old.ended (left ∷ outer) (now ∷ outer) done [] new.bits []
        → Takes d next fresh takes node old new before after left outer done now
    takes_no_bit {next = next} {fresh = fresh} g {now = now} {outer = outer} {done = done} is owed untold passes =
        let same : done ≡ done ++ [] = sym (append-nil done) in
        let all : old.bits ≡ new.bits = sym g.taken.bits in
        record {
          taken = [];
          bits = all;
          place = g.taken.place;
          limit = g.taken.limit;
          ended = g.taken.ended;
          stack_is = subst (λ (l : List ℕ). IsStack d next fresh (now ∷ outer) l) same is;
          owed = subst (λ (l : List ℕ). AreOwed outer l new.bits) same (subst (λ (l : List ℕ). AreOwed outer done l) all owed);
          steps = passes;
          told = untold;
        }

    closed_steps : {most : ℕ} (g : Given most 0 old new) {left : Left} {outer : List Left} {done : List ℕ}
        → (new.ended ≡ true) ⊎ (new.place ≡ new.limit) → old.place ≡ length done → old.limit ≡ limit_in outer → Ends d left done
        → Passes d old.ended (left ∷ outer) (none_left ∷ outer) done [] new.bits []
    closed_steps g {left} {outer} {done} (inl over) place limit ends =
        let before : old.ended ≡ true = sym g.taken.ended ∙ over in
        let none : new.bits ≡ [] = g.taken.bits ∙ g.good.nothing before in
        let P : Bool → Type 0 = λ e. Passes d e (left ∷ outer) (none_left ∷ outer) done [] new.bits [] in
        let Q : List ℕ → Type 0 = λ l. Passes d true (left ∷ outer) (none_left ∷ outer) done [] l [] in
        subst P (sym before) (subst Q (sym none) (closed_last d ends))
    closed_steps g {left} {outer} {done} (inr full) place limit ends =
        passes_of old.ended
        (closed_full d new.bits ends
        (full_at outer done (omega (arith, full, place, limit, g.taken.place, g.taken.limit))
        (omega (arith, place, g.good.fits))))

    closed_leaf : {next : ℕ} {fresh : Option ℕ} {most : ℕ} (g : Given most 0 old new) {left : Left} {outer : List Left} {done : List ℕ}
        → (new.ended ≡ true) ⊎ (new.place ≡ new.limit) → old.place ≡ length done → old.limit ≡ limit_in outer → Ends d left done
        → IsStack d next fresh (none_left ∷ outer) done → AreOwed outer done old.bits → after ≡ before
        → Takes d next fresh takes node old new before after left outer done none_left
    closed_leaf g closed place limit ends is owed untold = takes_no_bit g is owed untold (closed_steps g closed place limit ends)

    pub rest_reads_all : {most : ℕ} (g : Given most 0 old new) → (new.ended ≡ true) ⊎ (new.place ≡ new.limit) → after ≡ before
        → ReadsLeaf d takes leaf.Rest node old new before after read.All
    rest_reads_all g closed untold next fresh i left outer done known a = by a.shows a.stack_is
      where
        by : {left : Left} → LeafShows d i leaf.Rest left → IsStack d next fresh (left ∷ outer) done
            → Takes d next fresh takes node old new before after left outer done none_left
        by (shows_rest look) is = closed_leaf g closed a.place a.limit (rest_ends d done) (rest_done d known is) a.owed untold

    -- ---- padding

    pub pad_reads_all : {most : ℕ} (g : Given most 0 old new) {begun : Bool} → begun ≡ true → (new.ended ≡ true) ⊎ (new.place ≡ new.limit) → after ≡ before
        → ReadsLeaf d takes (leaf.Pad begun) node old new before after read.All
    pad_reads_all g {begun} again closed untold next fresh i left outer done known a = by again a.shows a.stack_is
      where
        by : {b : Bool} {left : Left} → b ≡ true → LeafShows d i (leaf.Pad b) left
            → IsStack d next fresh (left ∷ outer) done → Takes d next fresh takes node old new before after left outer
            done none_left
        by {b} again (shows_pad look) is =
            let P : Bool → Type 0 = λ x. Takes d next fresh takes node old new before after (pad_left x) outer done none_left in
            let Q : Bool → Type 0 = λ x. IsStack d next fresh (pad_left x ∷ outer) done in
            subst P (sym again) (closed_leaf g closed a.place a.limit (pad_ends d done) (pad_done d known (subst Q again is)) a.owed untold)

    -- no bit is taken
    same_leaf : {next : ℕ} {fresh : Option ℕ} {most : ℕ} (g : Given most 0 old new) {left : Left} {outer : List Left} {done : List ℕ}
        → IsStack d next fresh (left ∷ outer) done → AreOwed outer done old.bits → after ≡ before
        → Takes d next fresh takes node old new before after left outer done left
    same_leaf g {left} {outer} {done} is owed untold = takes_no_bit g is owed untold (passes_of old.ended (steps_none d (left ∷ outer) done new.bits))

    pub pad_stays : {most : ℕ} (g : Given most 0 old new) {begun : Bool} → 0 < most
        → (begun ≡ true → ¬ ((new.ended ≡ true) ⊎ (new.place ≡ new.limit))) → after ≡ before
        → ReadsLeaf d takes (leaf.Pad begun) node old new before after (read.Some (leaf.Pad begun))
    pad_stays g {begun} some not_closed untold next fresh i left outer done known a = by a.shows a.stack_is
      where
        by : {left : Left} → LeafShows d i (leaf.Pad begun) left → IsStack d next fresh (left ∷ outer) done
            → Keeps d next fresh takes node old new before after left outer done i (leaf.Pad begun)
        by (shows_pad look) is =
            record {
              now = pad_left begun;
              shows = shows_pad look;
              on = same_leaf g is a.owed untold;
              stays = λ still. record { stops = stops g some refl; wants = λ closed left done shown. pad_wants shown (λ begun. not_closed begun closed) };
            }

    pub pad_reads_some : {most n : ℕ} (g : Given most n old new) {begun : Bool}
        → 0 < n → IsSpare d.reading Low old.place (taken_of g) → BitsTold takes node (taken_of g) before after
        → ReadsLeaf d takes (leaf.Pad begun) node old new before after (read.Some (leaf.Pad true))
    pad_reads_some {n = n} g {begun} some spare told next fresh i left outer done known a = by a.shows a.stack_is
      where
        room : Within outer (length done + length (taken_of g))
        room = within_limit d outer (length done + length (taken_of g)) (omega (arith, a.place, a.limit, g.room, size g))

        least : {b : Bool} → IsStack d next fresh (pad_left b ∷ outer) done → NotBefore d (pad_left b) outer done (taken_of g)
        least (stack_node k from v bits ready (of_pad at place up) inner) =
            not_before d 12 known.description known.certified known (pad_at_last d at ready inner) done (taken_of g) room
        least (stack_node k from v bits ready (of_pad_begun at place up) inner) =
            not_before d 12 known.description known.certified known (pad_at_last d at ready inner) done (taken_of g) room

        by : {left : Left} → LeafShows d i (leaf.Pad begun) left → IsStack d next fresh (left ∷ outer) done
            → Keeps d next fresh takes node old new before after left outer done i (leaf.Pad true)
        by (shows_pad look) is =
            let long : 0 < length (taken_of g) = omega (arith, some, size g) in
            record {
              now = pad_left true;
              shows = shows_pad look;
              on = made_by g (pad_kept d (taken_of g) new.bits is (good_taken g) long (owed_split g outer done a.owed)) (least is)
                  (take_pad d begun done (taken_of g) long (spare_at d.reading Low (taken_of g) a.place spare)) told;
              stays = λ still. absurd (omega (arith, some, not_taken g still));
            }

    pub pad_reads_none : {most n : ℕ} (mid : Coming) (r : IsReadied most n old mid) {begun : Bool} (place : ℕ)
        → d.reading ≡ Sent → SpareDiffers Low n mid place → after ≡ before
        → ReadsLeaf d takes (leaf.Pad begun) node old new before after (read.Refused place)
    pad_reads_none {n = n} mid r {begun} place sent m untold next fresh i left outer done known a = by a.shows a.stack_is
      where
        at : old.place ≡ length done
        at = a.place

        here : (l : List ℕ) (p q : ℕ) → p ≡ q → IsSpare Sent Low p l → IsSpare d.reading Low q l
        here l p q e h =
            let P : Reading → Type 0 = λ s. IsSpare s Low q l in
            subst P (sym sent) (spare_at Sent Low l e h)

        there : (l : List ℕ) (p q : ℕ) → p ≡ q → ¬ IsSpare Sent Low p l → ¬ IsSpare d.reading Low q l
        there l p q e not h =
            let P : Reading → Type 0 = λ s. IsSpare s Low q l in
            not (spare_at Sent Low l (sym e) (subst P sent h))

        mid_at : mid.place ≡ length done
        mid_at = r.same.place ∙ a.place

        room : suc (length done + length m.alike) ≤ limit_in outer
        room = omega (arith, m.few, r.count, mid_at, r.same.limit, a.limit)

        at_last : {b : Bool} → IsStack d next fresh (pad_left b ∷ outer) done
            → Within outer (suc (length done + length m.alike))
            → ¬ Goes d (pad_left b ∷ outer) done (m.alike ++ m.bit ∷ [])
        at_last (stack_node k from v bits ready (of_pad look place up) inner) =
            pad_differs d 12 known.description known.certified known (pad_at_last d look ready inner)
            _ m.alike done m.bit [] (there (m.bit ∷ []) _ _ (ap (λ p. p + length m.alike) mid_at) m.not)
        at_last (stack_node k from v bits ready (of_pad_begun look place up) inner) =
            pad_differs d 12 known.description known.certified known (pad_at_last d look ready inner)
            _ m.alike done m.bit [] (there (m.bit ∷ []) _ _ (ap (λ p. p + length m.alike) mid_at) m.not)

        by : {left : Left} → LeafShows d i (leaf.Pad begun) left → IsStack d next fresh (left ∷ outer) done
            → Differs d next fresh takes node old new before after left outer done place
        by (shows_pad look) is =
            record {
              alike = m.alike;
              bit = m.bit;
              later = m.later;
              bits = sym r.same.bits ∙ m.bits;
              place_is = m.place_is ∙ ap (λ p. p + length m.alike) mid_at;
              followed = pad_follows d begun m.alike outer done (here m.alike _ _ mid_at m.good) (within_limit d outer _ (omega (arith, room)));
              no_further = at_last is (within_limit d outer _ room);
              untold = untold;
            }

    -- ---- spare bits

    spare_step : (s : Symbol) (done taken : List ℕ) → length taken ≡ 1 → IsSpare d.reading s (length done) taken
        → Replaces d (spare_left s) none_left done taken (map Bit taken)
    spare_step s done [] one good = absurd (omega (arith, one))
    spare_step s done (a ∷ []) one good = take_spare d s done a good
    spare_step s done (a ∷ b ∷ taken) one good = absurd (omega (arith, one))

    one_enough : (s : Symbol) {outer : List Left} {done : List ℕ} (taken : List ℕ) → length taken ≤ 1 → NotBefore d (spare_left s) outer done taken
    one_enough s taken less = as_many d (λ b moves h. at_least b moves h)
      where
        at_least : {done : List ℕ} (b : List ℕ) (moves : List Move) → Completes d (spare_left s) done b moves → length taken ≤ length b
        at_least b moves (completes_spare one good leave) = omega (arith, one, less)

    same_symbol : (i : ℕ) {s t : Symbol} → slice_get d.nodes i ≡ Some node → node ≡ Spare t → slice_get d.nodes i ≡ Some (Spare s) → t ≡ s
    same_symbol i at is look = cc

    pub spare_stays : {most : ℕ} (g : Given most 0 old new) → 0 < most → after ≡ before
        → ReadsLeaf d takes leaf.Spare node old new before after (read.Some leaf.Spare)
    spare_stays g some untold next fresh i left outer done known a = by a.shows a.stack_is
      where
        by : {left : Left} → LeafShows d i leaf.Spare left → IsStack d next fresh (left ∷ outer) done
            → Keeps d next fresh takes node old new before after left outer done i leaf.Spare
        by (shows_spare {s = s} look) is =
            record {
              now = spare_left s;
              shows = shows_spare look;
              on = same_leaf g is a.owed untold;
              stays = λ still. record { stops = stops g some refl; wants = λ closed left done shown. spare_wants shown };
            }

    pub spare_reads_all : {most n : ℕ} (g : Given most n old new) (symbol : Symbol) → node ≡ Spare symbol → n ≡ 1
        → IsSpare d.reading symbol old.place (taken_of g) → BitsTold takes node (taken_of g) before after
        → ReadsLeaf d takes leaf.Spare node old new before after read.All
    spare_reads_all {n = n} g symbol node_is one spare told next fresh i left outer done known a = by a.shows a.stack_is
      where
        by : {left : Left} → LeafShows d i leaf.Spare left → IsStack d next fresh (left ∷ outer) done
            → Takes d next fresh takes node old new before after left outer done none_left
        by (shows_spare {s = s} look) is =
            let long : length (taken_of g) ≡ 1 = size g ∙ one in
            let P : Symbol → Type 0 = λ t. IsSpare d.reading t old.place (taken_of g) in
            let good = spare_at d.reading s (taken_of g) a.place (subst P (same_symbol i a.at node_is look) spare) in
            made_by g (spare_kept d known (taken_of g) new.bits is (good_taken g) long (owed_split g outer done a.owed))
            (one_enough s (taken_of g) (omega (arith, long))) (spare_step s done (taken_of g) long good) told

    pub spare_reads_none : {most n : ℕ} (mid : Coming) (r : IsReadied most n old mid) (symbol : Symbol) (place : ℕ)
        → node ≡ Spare symbol → n ≤ 1 → d.reading ≡ Sent
        → SpareDiffers symbol n mid place → after ≡ before
        → ReadsLeaf d takes leaf.Spare node old new before after (read.Refused place)
    spare_reads_none {n = n} mid r symbol place node_is one sent m untold next fresh i left outer done known a = by a.shows a.stack_is
      where
        none : m.alike ≡ []
        none = nil_from_length m.alike (omega (arith, m.few, one))

        mid_at : mid.place ≡ length done
        mid_at = r.same.place ∙ a.place

        behind_none : mid.place + length m.alike ≡ length done
        behind_none = omega (arith, mid_at, ap length none)

        bits_are : old.bits ≡ [] ++ m.bit ∷ m.later
        bits_are = sym r.same.bits ∙ m.bits ∙ ap (λ l. l ++ m.bit ∷ m.later) none

        by : {left : Left} → LeafShows d i leaf.Spare left → IsStack d next fresh (left ∷ outer) done
            → Differs d next fresh takes node old new before after left outer done place
        by (shows_spare {s = s} look) is =
            let not : ¬ IsSpare d.reading s (length done) (m.bit ∷ []) = λ h. m.not (moved h) in
            record {
              alike = [];
              bit = m.bit;
              later = m.later;
              bits = bits_are;
              place_is = m.place_is ∙ behind_none ∙ none_more (length done);
              followed = alive d (spare_alive d s done) (
                tt,
                within_limit d outer (length done)
                    (omega (arith, a.place, a.limit, r.good.inside, r.same.place, r.same.limit)),
              );
              no_further = spare_differs d s outer done m.bit [] not;
              untold = untold;
            }
          where
            none_more : (k : ℕ) → k ≡ k + length {A = ℕ} []
            none_more k = omega arith

            moved : IsSpare d.reading s (length done) (m.bit ∷ []) → IsSpare Sent symbol (mid.place + length m.alike) (m.bit ∷ [])
            moved h =
                let P : Reading → Type 0 = λ x. IsSpare x s (length done) (m.bit ∷ []) in
                let Q : Symbol → Type 0 = λ x. IsSpare Sent x (length done) (m.bit ∷ []) in
                spare_at Sent symbol (m.bit ∷ []) (sym behind_none) (subst Q (sym (same_symbol i a.at node_is look)) (subst P sent h))

    -- ---- literals

    same_run : (i : ℕ) {run other : List Symbol} → slice_get d.nodes i ≡ Some node → node ≡ Lits run → slice_get d.nodes i ≡ Some (Lits other) → other ≡ run
    same_run i at is look = cc

    pub literal_stays : {most : ℕ} (g : Given most 0 old new) {at : ℕ} → 0 < most → after ≡ before
        → ReadsLeaf d takes (leaf.Lits at) node old new before after (read.Some (leaf.Lits at))
    literal_stays g {at} some untold next fresh i left outer done known a = by a.shows a.stack_is
      where
        by : {left : Left} → LeafShows d i (leaf.Lits at) left → IsStack d next fresh (left ∷ outer) done
            → Keeps d next fresh takes node old new before after left outer done i (leaf.Lits at)
        by (shows_lits {left = l} run look less is_left) is =
            record {
              now = symbols_left l;
              shows = shows_lits run look less is_left;
              on = same_leaf g is a.owed untold;
              stays = λ still. record { stops = stops g some refl; wants = λ closed left done shown. literal_wants shown };
            }

    literal_step : (run more : List Symbol) (done taken : List ℕ) → taken ≡ spelled run (length done)
        → Replaces d (symbols_left (run ++ more)) (symbols_left more) done taken (map Bit taken)
    literal_step run more done taken e =
        let P : List ℕ → Type 0 = λ l. Replaces d (symbols_left (run ++ more)) (symbols_left more) done l (map Bit l) in
        subst P (sym e) (take_symbols d run more done)

    run_enough : (run more : List Symbol) {outer : List Left} {done : List ℕ} (taken : List ℕ)
        → length taken ≤ length run → NotBefore d (symbols_left (run ++ more)) outer done taken
    run_enough run more taken less = as_many d (λ b moves h. at_least b moves h)
      where
        at_least : {done : List ℕ} (b : List ℕ) (moves : List Move) → Completes d (symbols_left (run ++ more)) done b moves → length taken ≤ length b
        at_least {done} b moves (completes_symbols same leave) =
            omega (arith, ap length same, length-spelled (run ++ more) (length done), length-append run more, less)

    -- the first symbols of what is left, and the others
    literal_some : {next : ℕ} {fresh : Option ℕ} {most n : ℕ} (g : Given most n old new) (run more : List Symbol)
        {outer : List Left} {done : List ℕ} → length run ≡ n
        → taken_of g ≡ spelled run (length done) → IsStack d next fresh (symbols_left (run ++ more) ∷ outer) done → AreOwed outer done old.bits
        → BitsTold takes node (taken_of g) before after
        → Takes d next fresh takes node old new before after (symbols_left (run ++ more)) outer done (symbols_left more)
    literal_some g run more {outer} {done} long same is owed told =
        let size_is : length (taken_of g) ≡ length run = size g ∙ sym long in
        made_by g (literal_kept d run more (taken_of g) new.bits is (good_taken g) size_is (owed_split g outer done owed))
        (run_enough run more (taken_of g) (omega (arith, size_is))) (literal_step run more done (taken_of g) same) told

    literal_all : {next : ℕ} {fresh : Option ℕ} {most n : ℕ} (g : Given most n old new) (run more : List Symbol)
        {outer : List Left} {done : List ℕ} → Known d → more ≡ [] → length run ≡ n
        → taken_of g ≡ spelled run (length done) → IsStack d next fresh (symbols_left (run ++ more) ∷ outer) done → AreOwed outer done old.bits
        → BitsTold takes node (taken_of g) before after
        → Takes d next fresh takes node old new before after (symbols_left (run ++ more)) outer done none_left
    literal_all g run more {outer} {done} known none long same is owed told =
        let size_is : length (taken_of g) ≡ length run = size g ∙ sym long in
        let kept = literal_kept d run more (taken_of g) new.bits is (good_taken g) size_is (owed_split g outer done owed) in
        let P : List Symbol → Type 0 = λ l. Alike d (symbols_left l) none_left (done ++ taken_of g) in
        made_by g (record { stack_is = literal_done d known kept.stack_is none; owed = kept.owed })
        (run_enough run more (taken_of g) (omega (arith, size_is)))
        (replaces_then (literal_step run more done (taken_of g) same) (subst P (sym none) (no_symbols_wanted d (done ++ taken_of g)))) told

    -- what is left of a literal, by its first symbols
    parts_of_run : (run : List Symbol) (at n : ℕ) → drop at run ≡ take n (drop at run) ++ drop (at + n) run
    parts_of_run run at n = sym (take-append-drop n (drop at run)) ∙ ap (λ l. take n (drop at run) ++ l) (drop-drop n at run)

    first_long : (run : List Symbol) (at n : ℕ) → at + n ≤ length run → length (take n (drop at run)) ≡ n
    first_long run at n less = length-take-le n (drop at run) (omega (arith, less, length-drop at run))

    pub literal_reads_some : {most n : ℕ} (g : Given most n old new) {at : ℕ} (run : List Symbol) → node ≡ Lits run → at + n < length run → 0 < n
        → taken_of g ≡ spelled (take n (drop at run)) old.place → BitsTold takes node (taken_of g) before after
        → ReadsLeaf d takes (leaf.Lits at) node old new before after (read.Some (leaf.Lits (at + n)))
    literal_reads_some {n = n} g {at} run node_is less some same told next fresh i left outer done known a = by a.shows a.stack_is
      where
        by : {left : Left} → LeafShows d i (leaf.Lits at) left → IsStack d next fresh (left ∷ outer) done
            → Keeps d next fresh takes node old new before after left outer done i (leaf.Lits (at + n))
        by (shows_lits {left = l} other look begins is_left) is =
            let whole : l ≡ take n (drop at run) ++ drop (at + n) run = is_left ∙ ap (λ m. drop at m) (same_run i a.at node_is look) ∙ parts_of_run run at n in
            let P : List Symbol → Type 0 = λ m. Takes d next fresh takes node old new before after (symbols_left m)
            outer done (symbols_left (drop (at + n) run)) in
            let Q : List Symbol → Type 0 = λ m. IsStack d next fresh (symbols_left m ∷ outer) done in
            let here : taken_of g ≡ spelled (take n (drop at run)) (length done) = same ∙ ap (λ p. spelled (take n (drop at run)) p) a.place in
            record {
              now = symbols_left (drop (at + n) run);
              shows = shows_lits run (a.at ∙ ap (λ k. Some k) node_is) less refl;
              on = subst P (sym whole) (literal_some g (take n (drop at run)) (drop (at + n) run)
                  (first_long run at n (omega (arith, less))) here (subst Q whole is) a.owed told);
              stays = λ still. absurd (omega (arith, some, not_taken g still));
            }

    pub literal_reads_all : {most n : ℕ} (g : Given most n old new) {at : ℕ} (run : List Symbol) → node ≡ Lits run → at + n ≡ length run
        → taken_of g ≡ spelled (take n (drop at run)) old.place → BitsTold takes node (taken_of g) before after
        → ReadsLeaf d takes (leaf.Lits at) node old new before after read.All
    literal_reads_all {n = n} g {at} run node_is all same told next fresh i left outer done known a = by a.shows a.stack_is
      where
        by : {left : Left} → LeafShows d i (leaf.Lits at) left → IsStack d next fresh (left ∷ outer) done
            → Takes d next fresh takes node old new before after left outer done none_left
        by (shows_lits {left = l} other look begins is_left) is =
            let whole : l ≡ take n (drop at run) ++ drop (at + n) run = is_left ∙ ap (λ m. drop at m) (same_run i a.at node_is look) ∙ parts_of_run run at n in
            let P : List Symbol → Type 0 = λ m. Takes d next fresh takes node old new before after (symbols_left m) outer done none_left in
            let Q : List Symbol → Type 0 = λ m. IsStack d next fresh (symbols_left m ∷ outer) done in
            let here : taken_of g ≡ spelled (take n (drop at run)) (length done) = same ∙ ap (λ p. spelled (take n (drop at run)) p) a.place in
            let none = nil_from_length (drop (at + n) run) (omega (arith, all, length-drop (at + n) run)) in
            subst P (sym whole) (literal_all g (take n (drop at run)) (drop (at + n) run) known none
            (first_long run at n (omega (arith, all))) here (subst Q whole is) a.owed told)

    pub literal_reads_none : {most n k : ℕ} (mid : Coming) (r : IsReadied most n old mid) {at : ℕ} (run : List Symbol)
        (place : ℕ) → place ≡ mid.place + k → node ≡ Lits run → at + n ≤ length run → k < n
        → take k mid.bits ≡ take k (spelled (take n (drop at run)) mid.place)
        → ¬ (take (k + 1) mid.bits ≡ take (k + 1) (spelled (take n (drop at run)) mid.place)) → after ≡ before
        → ReadsLeaf d takes (leaf.Lits at) node old new before after (read.Refused place)
    literal_reads_none {n = n} {k = k} mid r {at} run place place_here node_is within less same not untold next fresh
        i left outer done known a = by a.shows a.stack_is
      where
        m : Mismatch (take n (drop at run)) mid.place mid.bits k
        m = mismatch (take n (drop at run)) mid.place mid.bits k (omega (arith, less, first_long run at n within)) (omega (arith, less, r.count)) same not

        mid_at : mid.place ≡ length done
        mid_at = r.same.place ∙ a.place

        alike_is : spelled m.run mid.place ≡ spelled m.run (length done)
        alike_is = ap (λ p. spelled m.run p) mid_at

        alike_long : length (spelled m.run (length done)) ≡ k
        alike_long = length-spelled m.run (length done) ∙ m.long

        others : List Symbol
        others = m.more ++ drop (at + n) run

        by : {left : Left} → LeafShows d i (leaf.Lits at) left → IsStack d next fresh (left ∷ outer) done
            → Differs d next fresh takes node old new before after left outer done place
        by (shows_lits {left = l} other look begins is_left) is =
            let whole : l ≡ m.run ++ m.s ∷ others =
            is_left ∙ ap (λ x. drop at x) (same_run i a.at node_is look)
            ∙ parts_of_run run at n ∙ ap (λ x. x ++ drop (at + n) run) m.split ∙ append_assoc m.run (m.s ∷ m.more)
            (drop (at + n) run) in
            let P : List Symbol → Type 0 = λ x. Differs d next fresh takes node old new before after (symbols_left x) outer done place in
            subst P (sym whole)
            (record {
              alike = spelled m.run (length done);
              bit = m.bit;
              later = m.later;
              bits = sym r.same.bits ∙ m.is ∙ ap (λ x. x ++ m.bit ∷ m.later) alike_is;
              place_is = place_here ∙ ap (λ p. p + k) mid_at ∙ ap (λ j. length done + j) (sym alike_long);
              followed = symbols_follow d m.run (m.s ∷ others) outer done
                  (within_limit d outer _ (omega (arith, alike_long, less, mid_at, r.same.limit, r.count, a.limit)));
              no_further = symbols_differ d m.run others m.s outer done m.bit [] (λ e. m.not (e ∙ ap (λ p. symbol_bit m.s (p + length m.run)) (sym mid_at)));
              untold = untold;
            })
