-- A track tells the events of the moves that it is told.
use Rattle.std.proofs.Common.{◌≡◌, ℕ, List, [], ◌∷◌, ◌++◌, refl, ap, subst, ◌∙◌, append_assoc, append-nil, Option, Some, None}
use Rattle.csn_desc.specs.declared.moves.Move.{Move}
use Rattle.csn_desc.specs.declared.moves.Move.TheVariants.{Enter, Bit, Leave}
use Rattle.csn_desc.specs.declared.node.Node.{Node}
use Rattle.csn_desc.specs.Nodes.{DescV}
use Rattle.csn_judge.specs.Told.{BitsTold, Tells, tells_none, tells_enter, tells_bit, tells_leave}
use Rattle.csn_fields.specs.declared.event.Event.{Event}
use Rattle.csn_fields.specs.Events.{Told}
use Rattle.csn_fields.specs.Places.{PlacesV, took_bit, took_bits, event_of}
use Rattle.csn_fields.specs.Tracks.{Hears, Takes}
use Rattle.csn_fields.specs.Telling.{with_event, Goes}

-- bits that are taken at once
pub bits_told : {S E : Type 0} (tells : E → Event → E → Type 0) (takes : S → Move → Node → S → Type 0) (make : PlacesV → E → S)
    → ((p q : PlacesV) (e : E) (move : Move) (node : Node) → Takes tells p e move node q e → takes (make p e) move node (make q e))
    → (node : Node) (b : List ℕ) (p : PlacesV) (e : E) → BitsTold takes node b (make p e) (make (took_bits b p) e)
bits_told tells takes make each node [] p e = refl
bits_told tells takes make each node (x ∷ b) p e = (
  make (took_bit x p) e,
  each p (took_bit x p) e (Bit x) node (record
      { places = refl; hears = refl }),
  bits_told tells takes make each node b (took_bit x p) e,
)

-- the same of a state that is a part of another
pub bits_within : {S W : Type 0} (takes : S → Move → Node → S → Type 0) (holds : W → Move → Node → W → Type 0) (wrap : S → W)
    → ((s t : S) (move : Move) (node : Node) → takes s move node t → holds (wrap s) move node (wrap t))
    → (node : Node) (b : List ℕ) (s t : S) → BitsTold takes node b s t → BitsTold holds node b (wrap s) (wrap t)
bits_within takes holds wrap each node [] s t same = ap wrap same
bits_within takes holds wrap each node (x ∷ b) s t (next, took, rest) = (
  wrap next,
  each s next (Bit x) node took,
  bits_within takes holds wrap each node b next t rest,
)

-- what each move keeps, all do
pub kept_along : {S X : Type 0} (d : DescV) (takes : S → Move → Node → S → Type 0) (keep : S → X)
    → ((s t : S) (move : Move) (node : Node) → takes s move node t → keep t ≡ keep s)
    → {around others : List ℕ} {moves : List Move} {old new : S} → Tells d takes around moves others old new → keep new ≡ keep old
kept_along d takes keep each (tells_none same still) = ap keep still
kept_along d takes keep each {old = old} (tells_enter {i = i} node next at took rest) =
    kept_along d takes keep each rest ∙ each old next (Enter i) node took
kept_along d takes keep each {old = old} (tells_bit {bit = bit} node next at took rest) =
    kept_along d takes keep each rest ∙ each old next (Bit bit) node took
kept_along d takes keep each {old = old} (tells_leave node next at took rest) =
    kept_along d takes keep each rest ∙ each old next Leave node took

module _ {E : Type 0} (tells : E → Event → E → Type 0) where
  -- some events more are told
  record Heard (e : Option Event) (events rest : List Event) (old new : E) : Type 0 where
    pub more : List Event
    pub are : with_event e events ++ rest ≡ events ++ more
    pub told : Told tells more old new

  heard_then : (e : Option Event) (events rest : List Event) (old next new : E) → Hears tells e old next
      → Told tells rest next new → Heard e events rest old new
  heard_then None events rest old next new same told =
      let P : E → Type 0 = λ s. Told tells rest s new in
      record { more = rest; are = refl; told = subst P same told }
  heard_then (Some event) events rest old next new hears told =
      record { more = event ∷ rest; are = append_assoc events (event ∷ []) rest; told = (next, hears, told) }

  module _ (d : DescV) {S : Type 0} (places : S → PlacesV) (heard : S → E) (takes : S → Move → Node → S → Type 0)
      (each : (s t : S) (move : Move) (node : Node) → takes s move node t → Takes tells (places s) (heard s) move node (places t) (heard t)) where
    -- these are the events that the moves tell
    pub record Tracked (around : List ℕ) (moves : List Move) (others : List ℕ) (old new : S) (events : List Event) : Type 0 where
      pub more : List Event
      pub goes : Tells d Goes around moves others (record { places = places old; events = events }) (record
          { places = places new; events = events ++ more })
      pub told : Told tells more (heard old) (heard new)

    pub tracked : {around others : List ℕ} {moves : List Move} {old new : S} (events : List Event) → Tells d takes around moves others old new
        → Tracked around moves others old new events
    tracked {old = old} {new = new} events (tells_none same still) =
        record {
          more = [];
          goes =
              tells_none same
              (ap (λ s. record { places = places s; events = events ++ [] }) still
              ∙ ap (λ l. record { places = places old; events = l }) (append-nil events));
          told = ap (λ s. heard s) still;
        }
    tracked {old = old} {new = new} events (tells_enter {around = around} {others = others} {i = i} {moves = moves} node next at took rest) =
        let t = each old next (Enter i) node took in
        let e : Option Event = event_of (places old) (Enter i) node in
        let on = tracked (with_event e events) rest in
        let h = heard_then e events on.more (heard old) (heard next) (heard new) t.hears on.told in
        let P : List Event → Type 0 = λ l. Tells d Goes (i ∷ around) moves others (record { places = places next; events = with_event e events })
        (record { places = places new; events = l }) in
        record {
          more = h.more;
          goes = tells_enter node _ at (ap (λ p. record { places = p; events = with_event e events }) t.places) (subst P h.are on.goes);
          told = h.told;
        }
    tracked {old = old} {new = new} events (tells_bit {around = around} {others = others} {i = i} {bit = bit}
        {moves = moves} node next at took rest) =
        let t = each old next (Bit bit) node took in
        let e : Option Event = event_of (places old) (Bit bit) node in
        let on = tracked (with_event e events) rest in
        let h = heard_then e events on.more (heard old) (heard next) (heard new) t.hears on.told in
        let P : List Event → Type 0 = λ l. Tells d Goes (i ∷ around) moves others (record { places = places next; events = with_event e events })
        (record { places = places new; events = l }) in
        record {
          more = h.more;
          goes = tells_bit node _ at (ap (λ p. record { places = p; events = with_event e events }) t.places) (subst P h.are on.goes);
          told = h.told;
        }
    tracked {old = old} {new = new} events (tells_leave {around = around} {others = others} {i = i} {moves = moves} node next at took rest) =
        let t = each old next Leave node took in
        let e : Option Event = event_of (places old) Leave node in
        let on = tracked (with_event e events) rest in
        let h = heard_then e events on.more (heard old) (heard next) (heard new) t.hears on.told in
        let P : List Event → Type 0 = λ l. Tells d Goes around moves others (record { places = places next; events = with_event e events })
        (record { places = places new; events = l }) in
        record {
          more = h.more;
          goes = tells_leave node _ at (ap (λ p. record { places = p; events = with_event e events }) t.places) (subst P h.are on.goes);
          told = h.told;
        }
