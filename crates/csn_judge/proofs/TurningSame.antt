-- A turn is the same where the source has readied bits and taken none, and where it waits without a bit.
use Rattle.std.proofs.Common.{inl, ◌≡◌, ℕ, ◌<◌, ◌≤◌, ◌⊎◌, Bool, true, false, List, [], length, sym, ◌∙◌, ap, subst, arith, min, ◌-◌}
use Rattle.csn_desc.specs.declared.moves.Move.{Move}
use Rattle.csn_desc.specs.declared.node.Node.{Node}
use Rattle.csn_desc.specs.Nodes.{DescV}
use Rattle.csn_judge.specs.declared.frame.Frame.{Frame}
use Rattle.csn_certify.specs.declared.numbers.Number.{Number}
use Rattle.csn_judge.specs.declared.pace.Pace.{Pace}
use Rattle.csn_judge.specs.declared.turn.Turn.{Turn}
use Rattle.csn_judge.specs.declared.turn.Turn.TheVariants.{Moved, Waits, Refused}
use Rattle.csn_judge.specs.Known.{Known}
use Rattle.csn_judge.specs.Coming.{Coming, IsSame, IsGood}
use Rattle.csn_judge.specs.Told.{Tells}
use Rattle.csn_judge.specs.Left.{Left}
use Rattle.csn_judge.specs.Inside.{AreOwed}
use Rattle.csn_judge.specs.Remains.{Passes}
use Rattle.csn_judge.specs.Turns.{StateV, around_of, Stands, GoesOn, Turns}
use Rattle.csn_judge.proofs.Turning.{state, stops, stays}
use Rattle.csn_judge.proofs.Rooms.{no_bits_ready, going_on}

-- a turn is the same from another state that shows the same, with the same bits to come, and where its moves are told
-- otherwise
module _ (d : DescV) {S T : Type 0} (takes : S → Move → Node → S → Type 0) (uses : T → Move → Node → T → Type 0)
    (old other new : StateV) (s t : S) (u v : T) (bits : old.coming.bits ≡ other.coming.bits)
    (ended : old.coming.ended ≡ other.coming.ended) (told : (moves : List Move) (around : List ℕ)
    → Tells d takes (around_of old.frames) moves around s t → Tells d uses (around_of other.frames) moves around u v)
  where
    abbrev pub goes_as : {stack : List Left} {done : List ℕ} → GoesOn d takes old new s t stack done → GoesOn d uses other new u v stack done
    goes_as {stack} {done} on =
        let P : Bool → Type 0 = λ e. Passes d e stack on.now done on.taken new.coming.bits on.made in
        record {
          now = on.now;
          taken = on.taken;
          made = on.made;
          stands = on.stands;
          bits = sym bits ∙ on.bits;
          ended = on.ended ∙ ended;
          steps = subst P ended on.steps;
          tells = told on.made (around_of new.frames) on.tells;
        }

    pub turns_as : (turn : Turn)
        → ((stack : List Left) (done : List ℕ) → Stands d other stack done → Stands d old stack done)
        → Turns d takes old new s t turn → Turns d uses other new u v turn
    turns_as Moved shows turns = λ stack done stands. goes_as (turns stack done (shows stack done stands))
    turns_as Waits shows turns = λ stack done stands.
        let waits = turns stack done (shows stack done stands) in
        record {
          on = goes_as waits.on;
          few = waits.few;
          held = waits.held;
          followed = waits.followed;
          held_ends = waits.held_ends;
          over = waits.over;
        }
    turns_as (Refused place) shows turns = λ stack done stands.
        let refuses = turns stack done (shows stack done stands) in
        record {
          made = refuses.made;
          around = refuses.around;
          alike = refuses.alike;
          bit = refuses.bit;
          later = refuses.later;
          bits = sym bits ∙ refuses.bits;
          place_is = refuses.place_is;
          followed = refuses.followed;
          no_further = refuses.no_further;
          tells = told refuses.made refuses.around refuses.tells;
        }

module _ (d : DescV) {S : Type 0} (takes : S → Move → Node → S → Type 0) (before after : S) (frames : List Frame)
    (values : List Number) (pace : Pace) {first second : Coming} (same : IsSame first second) where
  pub stands_on : {stack : List Left} {done : List ℕ}
      → Stands d (state d takes before values pace first frames) stack done
      → Stands d (state d takes before values pace second frames) stack done
  stands_on {stack} {done} stands =
      record {
        shows = stands.shows;
        stack_is = stands.stack_is;
        place = same.place ∙ stands.place;
        limit = same.limit ∙ stands.limit;
        owed = subst (λ (l : List ℕ). AreOwed stack done l) (sym same.bits) stands.owed;
      }

  abbrev pub goes_since : (new : StateV) {stack : List Left} {done : List ℕ}
      → GoesOn d takes (state d takes before values pace second frames) new before after stack done
      → GoesOn d takes (state d takes before values pace first frames) new before after stack done
  goes_since new on = goes_as d takes takes (state d takes before values pace second frames)
      (state d takes before values pace first frames) new before after before after same.bits same.ended
      (λ moves around told. told) on

  pub turns_since : (new : StateV) (turn : Turn)
      → Turns d takes (state d takes before values pace second frames) new before after turn
      → Turns d takes (state d takes before values pace first frames) new before after turn
  turns_since new turn turns =
      turns_as d takes takes (state d takes before values pace second frames)
      (state d takes before values pace first frames) new before after before after same.bits same.ended
      (λ moves around told. told) turn (λ stack done stands. stands_on stands) turns

module _ (d : DescV) {S : Type 0} (takes : S → Move → Node → S → Type 0) (before : S) (values : List Number) (pace : Pace) (coming : Coming) where
  -- what is open waits for a bit
  pub waits_here : (frames : List Frame) → Known d → coming.bits ≡ [] → coming.held ≡ 0 → coming.ended ≡ false → coming.place ≤ coming.limit
      → Turns d takes (state d takes before values pace coming frames) (state d takes before values pace coming frames) before before Waits
  waits_here frames known none held going inside =
      stops d takes before values pace coming frames Waits (none, held, inside) known
      (λ stack done stands bit rest is. absurd (cc)) (λ stack done stands ended. absurd (cc))

  -- where no bit is ready though one may come, the frame that is put back waits for it
  pub waits_unready : {first : Coming} {frames others : List Frame} (most : ℕ) → 0 < most → IsSame first coming
      → min most (min (length coming.bits) (coming.limit - coming.place)) ≡ 0 → IsGood coming
      → coming.held ≤ length coming.bits
      → ¬ ((coming.ended ≡ true) ⊎ (coming.place ≡ coming.limit)) → Known d → others ≡ frames
      → Turns d takes (state d takes before values pace first frames) (state d takes before values pace coming others) before before Waits
  waits_unready {frames = frames} {others} most some same unready good within unclosed known put =
      let none = no_bits_ready coming most some unready good unclosed in
      turns_since d takes before before frames values pace same (state d takes before values pace coming others) Waits
      (stays d takes before values pace coming Waits (state d takes before values pace coming frames) before put
      (waits_here frames known none (omega (arith, within, ap (λ (l : List ℕ). length l) none))
      (going_on coming.ended (λ over. unclosed (inl over))) good.inside))
