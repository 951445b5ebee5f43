-- All moves of a node are told at once, by its outline.
use Rattle.std.proofs.Common.{◌≡◌, ℕ, ◌+◌, ◌<◌, ◌≤◌, List, [], ◌∷◌, ◌++◌, length, refl, sym, ap, subst, ◌∙◌, arith, append_assoc, append-nil}
use Rattle.std.proofs.Common.{Option, Some, None}
use Rattle.std.proofs.lemmas.List.{append_cancel_left}
use Rattle.csn_bits.specs.Numbers.{low_bits}
use Rattle.csn_bits.proofs.NumberFacts.{length-low_bits}
use Rattle.csn_desc.specs.declared.moves.Move.{Move}
use Rattle.csn_desc.specs.declared.moves.Move.TheVariants.{Enter, Bit, Leave}
use Rattle.csn_desc.specs.declared.node.Node.{Node}
use Rattle.csn_desc.specs.Nodes.{DescV}
use Rattle.csn_judge.specs.Told.{Tells, WholeTold, tells_none, tells_enter, tells_bit, tells_leave}
use Rattle.csn_fields.specs.declared.event.Event.{Event}
use Rattle.csn_fields.specs.declared.outline.Mark.{Mark}
use Rattle.csn_fields.specs.Events.{Told}
use Rattle.csn_fields.specs.Places.{PlacesV, event_of, behind, role_in, advanced}
use Rattle.csn_fields.specs.Tracks.{Hears, Takes}
use Rattle.csn_fields.specs.Telling.{ToldV, with_event, Goes}
use Rattle.csn_fields.specs.Outlines.{IsOutline, EndsIn, filled, told_at}

-- ---- events that are told one after another are those that moves tell

module _ (d : DescV) {E S : Type 0} (tells : E → Event → E → Type 0) (takes : S → Move → Node → S → Type 0) (make : PlacesV → E → S)
    (each : (p q : PlacesV) (e f : E) (move : Move) (node : Node) → Takes tells p e move node q f → takes (make p e) move node (make q f)) where
  -- some more events are told than before
  record More (old new : ToldV) : Type 0 where
    pub more : List Event
    pub are : new.events ≡ old.events ++ more

  one_more : (move : Move) (node : Node) (old next : ToldV) → Goes old move node next → More old next
  one_more move node old next goes = by (event_of old.places move node) (ap (λ (s : ToldV). s.events) goes)
    where
      by : (e : Option Event) → next.events ≡ with_event e old.events → More old next
      by None is = record { more = []; are = is ∙ sym (append-nil old.events) }
      by (Some e) is = record { more = e ∷ []; are = is }

  more_then : (old mid new : ToldV) → More old mid → More mid new → More old new
  more_then old mid new a b =
      record { more = a.more ++ b.more; are = b.are ∙ ap (λ l. l ++ b.more) a.are ∙ append_assoc old.events a.more b.more }

  extended : {around others : List ℕ} {moves : List Move} {old new : ToldV} → Tells d Goes around moves others old new → More old new
  extended {old = old} {new = new} (tells_none same still) =
      record { more = []; are = ap (λ (s : ToldV). s.events) still ∙ sym (append-nil old.events) }
  extended {old = old} {new = new} (tells_enter {i = i} node next at took rest) =
      more_then old next new (one_more (Enter i) node old next took) (extended rest)
  extended {old = old} {new = new} (tells_bit {bit = bit} node next at took rest) =
      more_then old next new (one_more (Bit bit) node old next took) (extended rest)
  extended {old = old} {new = new} (tells_leave node next at took rest) =
      more_then old next new (one_more Leave node old next took) (extended rest)

  -- the first move is told, and the other events are left
  record First (old next new : ToldV) (move : Move) (node : Node) (e f : E) : Type 0 where
    pub middle : E
    pub took : takes (make old.places e) move node (make next.places middle)
    pub rest : List Event
    pub are : new.events ≡ next.events ++ rest
    pub told : Told tells rest middle f

  first_told : (move : Move) (node : Node) (old next new : ToldV) (events : List Event) (e f : E) → Goes old move node next → More next new
      → new.events ≡ old.events ++ events → Told tells events e f → First old next new move node e f
  first_told move node old next new events e f goes later are told =
      by (event_of old.places move node) refl (ap (λ (s : ToldV). s.events) goes) events are told
    where
      placed : next.places ≡ behind old.places move node
      placed = ap (λ (s : ToldV). s.places) goes

      by : (o : Option Event) → event_of old.places move node ≡ o → next.events ≡ with_event o old.events
          → (events : List Event) → new.events ≡ old.events ++ events → Told tells events e f → First old next new move node e f
      by None none is events are told =
          record {
            middle = e;
            took = each old.places next.places e e move node
                (record { places = placed; hears = subst (λ o. Hears tells o e e) (sym none) refl });
            rest = events;
            are = are ∙ ap (λ l. l ++ events) (sym is);
            told = told;
          }
      by (Some first) some is events are told = there events are told (append_cancel_left old.events events (first ∷ later.more)
          (sym are ∙ later.are ∙ ap (λ l. l ++ later.more) is ∙ append_assoc old.events (first ∷ []) later.more))
        where
          there : (events : List Event) → new.events ≡ old.events ++ events → Told tells events e f → events ≡ first ∷ later.more
              → First old next new move node e f
          there [] are told same = absurd (cc)
          there (x ∷ events) are (middle, heard, rest) same =
              let one : x ≡ first = cc in
              record {
                middle = middle;
                took = each old.places next.places e middle move node
                    (record { places = placed; hears = subst (λ o. Hears tells o e middle) (sym some) (subst (λ y. tells e y middle) one heard) });
                rest = events;
                are = are ∙ ap (λ y. old.events ++ y ∷ events) one ∙ sym (append_assoc old.events (first ∷ []) events)
                    ∙ ap (λ l. l ++ events) (sym is);
                told = rest;
              }

  pub heard : {around others : List ℕ} {moves : List Move} {old new : ToldV} (events : List Event) (e f : E)
      → Tells d Goes around moves others old new → new.events ≡ old.events ++ events → Told tells events e f
      → Tells d takes around moves others (make old.places e) (make new.places f)
  heard {old = old} {new = new} events e f (tells_none same still) are told =
      let none : events ≡ [] = append_cancel_left old.events events [] (sym are ∙ ap (λ (s : ToldV). s.events) still ∙ sym (append-nil old.events)) in
      let unheard : f ≡ e = subst (λ l. Told tells l e f) none told in
      tells_none same (ap (λ (s : ToldV). make s.places f) still ∙ ap (λ x. make old.places x) unheard)
  heard {old = old} {new = new} events e f (tells_enter {i = i} node next at took rest) are told =
      let h = first_told (Enter i) node old next new events e f took (extended rest) are told in
      tells_enter node (make next.places h.middle) at h.took (heard h.rest h.middle f rest h.are h.told)
  heard {old = old} {new = new} events e f (tells_bit {bit = bit} node next at took rest) are told =
      let h = first_told (Bit bit) node old next new events e f took (extended rest) are told in
      tells_bit node (make next.places h.middle) at h.took (heard h.rest h.middle f rest h.are h.told)
  heard {old = old} {new = new} events e f (tells_leave node next at took rest) are told =
      let h = first_told Leave node old next new events e f took (extended rest) are told in
      tells_leave node (make next.places h.middle) at h.took (heard h.rest h.middle f rest h.are h.told)

  -- a node with an outline
  pub whole_told : (i width number : ℕ) (marks : List Mark) (old new : PlacesV) (e f : E) → IsOutline d i marks
      → length old.nodes + length marks ≤ 64 → old.place + width < 4294967296
      → new ≡ record { numbers = old.numbers; nodes = advanced old.nodes; place = old.place + width; number = 0 }
      → Told tells (filled (role_in old.numbers i old.nodes) marks (old.place + width) number) e f
      → WholeTold d takes i (low_bits width number) (make old e) (make new f)
  whole_told i width number marks old new e f is room small behind_it told o v t moves around means walk =
      let b : List ℕ = low_bits width number in
      let wide : length b ≡ width = length-low_bits width number in
      let ends : EndsIn number b = ap (λ k. low_bits k number) wide in
      let outlined = is o v b t moves number means walk ends in
      let P : ℕ → Type 0 = λ n. Tells d Goes around moves around (told_at old.numbers old.nodes old.place old.number [])
      (told_at old.numbers (advanced old.nodes) (old.place + n) 0 (filled (role_in old.numbers i old.nodes) marks (old.place + n) number)) in
      let goes = subst P wide (outlined.tells old.numbers old.nodes old.place old.number [] around room (omega (arith, small, wide))) in
      let Q : PlacesV → Type 0 = λ p. Tells d takes around moves around (make old e) (make p f) in
      subst Q (sym behind_it) (heard (filled (role_in old.numbers i old.nodes) marks (old.place + width) number) e f goes refl told)
