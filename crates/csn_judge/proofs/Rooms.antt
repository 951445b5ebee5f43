-- Where no bit is ready, and what is known of what look-ahead answers.
use Rattle.std.proofs.Common.{◌≡◌, ℕ, zero, suc, ◌-◌, ◌++◌, take, ap, ◌<◌, ◌≤◌, ◌⊎◌, inl, inr, Bool, true, false}
use Rattle.std.proofs.Common.{List, [], ◌∷◌, length, min, refl, ◌∙◌, arith, Option, Some, None, subst}
use Rattle.std.proofs.lemmas.Bool.Decides.{leb_tells}
use Rattle.csn_desc.specs.Nodes.{DescV}
use Rattle.csn_judge.specs.declared.frame.Frame.{Frame}
use Rattle.csn_judge.specs.declared.frame.Frame.TheVariants as frame
use Rattle.csn_certify.specs.declared.numbers.Number.{Number}
use Rattle.csn_judge.specs.Known.{Known}
use Rattle.csn_judge.specs.Left.{Left, turns_left}
use Rattle.csn_judge.specs.Inside.{IsStack}
use Rattle.csn_judge.specs.Shown.{Shows, shows_begin}
use Rattle.csn_judge.proofs.Turning.{room, round_length, begun_within, turns_stand, turn_stack}
use Rattle.csn_judge.specs.Coming.{Coming, IsGood}
use Rattle.std.proofs.lemmas.List.{nil_from_length}
use Rattle.csn_judge.specs.Turns.{fresh_at, over}
use Rattle.csn_judge.specs.declared.pace.Pace.{Pace}

-- with a frame on them there are no fewer frames
pub no_fewer : (behind : Option Frame) (frames : List Frame) → length frames ≤ length (over behind frames)
no_fewer (Some frame) frames = omega arith
no_fewer None frames = omega arith

-- no bit is ready, though one might be taken: none comes
pub no_bits_ready : (coming : Coming) (most : ℕ) → 0 < most → min most (min (length coming.bits) (coming.limit - coming.place)) ≡ 0 → IsGood coming
    → ¬ ((coming.ended ≡ true) ⊎ (coming.place ≡ coming.limit)) → coming.bits ≡ []
no_bits_ready coming most some none good unclosed =
    nil_from_length coming.bits (omega (
      arith,
      some,
      none,
      good.inside,
      away coming.place coming.limit good.inside
          (λ full. unclosed (inr full)),
    ))
  where
    away : (a b : ℕ) → a ≤ b → ¬ (a ≡ b) → a < b
    away a b less not = elim (leb_tells b a) [ inl over ↦ absurd (not (omega (arith, less, over.1))) | inr under ↦ under.1 ]

pub unready : (coming : Coming) (most : ℕ) → 0 < most → min most (min (length coming.bits) (coming.limit - coming.place)) ≡ 0 → IsGood coming
    → (coming.bits ≡ []) ⊎ (coming.place ≡ coming.limit)
unready coming most some none good = by coming.bits none
  where
    by : (bits : List ℕ) → min most (min (length bits) (coming.limit - coming.place)) ≡ 0 → (bits ≡ []) ⊎ (coming.place ≡ coming.limit)
    by [] none = inl refl
    by (bit ∷ bits) none = inr (omega (arith, some, none, good.inside))

-- bits that are not none have a first
pub first_of : (bits : List ℕ) → 0 < length bits → (bit : ℕ) × (more : List ℕ) × (bits ≡ bit ∷ more)
first_of [] some = absurd (omega (arith, some))
first_of (bit ∷ more) some = (bit, more, refl)

-- a bit behind some others
pub record IsCut (n : ℕ) (bits : List ℕ) : Type 0 where
  pub bit : ℕ
  pub later : List ℕ
  pub all : bits ≡ take n bits ++ bit ∷ later
  pub more : take (suc n) bits ≡ take n bits ++ bit ∷ []
  pub few : length (take n bits) ≡ n

pub cut_behind : (n : ℕ) (bits : List ℕ) → n < length bits → IsCut n bits
cut_behind n [] less = absurd (omega (arith, less))
cut_behind zero (bit ∷ bits) less = record { bit = bit; later = bits; all = refl; more = refl; few = refl }
cut_behind (suc n) (first ∷ bits) less =
    let found = cut_behind n bits (omega (arith, less)) in
    record {
      bit = found.bit;
      later = found.later;
      all = ap (λ l. first ∷ l) found.all;
      more = ap (λ l. first ∷ l) found.more;
      few = ap suc found.few;
    }

pub going_on : (ended : Bool) → ¬ (ended ≡ true) → ended ≡ false
going_on true not = absurd (not refl)
going_on false not = refl

-- a node that begins is one of the description, and there is room for the frame round it
pub begin_room : {d : DescV} {next j : ℕ} {fresh : Option ℕ} {top : Frame} {frames : List Frame}
    {values : List Number} {stack : List Left} {done : List ℕ} → Known d
    → Shows d (frame.Begin j ∷ top ∷ frames) values stack done → IsStack d next fresh stack done → (j < 16384) × (length frames < 63)
begin_room {d} known (shows_begin seen kept round) is =
    (omega (arith, begun_within d is, known.description.few), omega (arith, room d is, round_length d round))

pub begin_within : {d : DescV} {next j : ℕ} {fresh : Option ℕ} {frames : List Frame} {values : List Number} {stack : List Left} {done : List ℕ}
    → Shows d (frame.Begin j ∷ frames) values stack done → IsStack d next fresh stack done → j < length d.nodes
begin_within {d} (shows_begin seen kept round) is = begun_within d is

pub turn_room : {d : DescV} {k i m : ℕ} {frames : List Frame} {values : List Number} {stack : List Left}
    {done : List ℕ} (pace : Pace) (n : ℕ) → Known d → m ≡ suc n
    → Shows d (frame.Times k i m ∷ frames) values stack done → IsStack d pace.next (fresh_at pace (length done))
    stack done → (i < length d.nodes) × (length frames < 63)
turn_room {d} {i = i} {done = done} pace n known some shows is =
    let t = turns_stand d shows in
    let stack = subst (λ (l : List Left). IsStack d pace.next (fresh_at pace (length done)) l done) (t.is ∙ ap (λ j. turns_left j i t.v ∷ t.outer) some) is in
    let begun = turn_stack d pace known stack in
    (begun_within d begun, omega (arith, room d begun, round_length d t.round))
