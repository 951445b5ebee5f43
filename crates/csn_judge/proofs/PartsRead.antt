-- Parts of a sequence begin one after another, and are read at once.
use Rattle.std.proofs.Common.{◌≡◌, ℕ, suc, ◌+◌, ◌≤◌, inl, ◌||◌, nat_lt, List, ◌∷◌, length, refl, sym, ◌∙◌, ap, subst, arith, Some, slice_get}
use Rattle.csn_desc.specs.declared.moves.Move.{Move}
use Rattle.csn_desc.specs.declared.node.Node.{Node}
use Rattle.csn_desc.specs.declared.node.Node.TheVariants.{Seq}
use Rattle.csn_desc.specs.Nodes.{DescV}
use Rattle.csn_judge.specs.declared.frame.Frame.{Frame}
use Rattle.csn_judge.specs.declared.frame.Frame.TheVariants as frame
use Rattle.csn_certify.specs.declared.numbers.Number.{Number}
use Rattle.csn_judge.specs.declared.pace.Pace.{Pace}
use Rattle.csn_judge.specs.declared.turn.Turn.TheVariants.{Moved}
use Rattle.csn_judge.specs.Coming.{Coming, IsSame}
use Rattle.csn_judge.specs.Credit.{credit_in, credit_of}
use Rattle.csn_judge.specs.Turns.{StateV, begun_by, StandsSomewhere}
use Rattle.csn_judge.proofs.GoingOn.{Going, going_stands, going_more}
use Rattle.csn_judge.proofs.Paying.{begun_pays}
use Rattle.csn_judge.proofs.Turning.{state, stays_as, GoesOn-along}
use Rattle.csn_judge.proofs.TurningParts.{NextBegins, next_begins, begins_next}
use Rattle.csn_judge.proofs.TurningSame.{turns_since}

module _ (d : DescV) {S : Type 0} (takes : S → Move → Node → S → Type 0) where
  -- the parts so far have come to where the next one begins, and a step with it is paid for
  pub record PartBegun (first : StateV) (s t : S) (j : ℕ) (pace next : Pace) (frames : List Frame)
      (values : List Number) (coming : Coming) (behind : Frame) : Type 0 where
    pub begins : NextBegins d pace j frames
    pub going : Going d takes first (state d takes t values next coming (frame.Begin j ∷ behind ∷ frames)) s t 0 0
    pub paid : 1 + credit_in d (state d takes t values next coming (frame.Begin j ∷ behind ∷ frames)) ≤ credit_in d first

  pub part_begun : {first : StateV} {s t : S} {k at count j : ℕ} {frames : List Frame} {values : List Number}
      {pace next : Pace} {coming : Coming} (parts : List ℕ)
      → slice_get d.nodes k ≡ Some (Seq parts) → slice_get parts at ≡ Some j → StandsSomewhere d first
      → Going d takes first (state d takes t values pace coming (frame.Seq k at count ∷ frames)) s t 0 0
      → next ≡ record { next = j + 1; again = pace.again || nat_lt j pace.next }
      → PartBegun first s t j pace next frames values coming (frame.Seq k (at + 1) count)
  part_begun {t = t} {k} {at} {count} {j} {frames} {values} {pace} {next} {coming} parts here there some going is_next =
      let one : j + 1 ≡ suc j = omega arith in
      let paced : next ≡ begun_by j pace = is_next ∙ ap (λ n. record { next = n; again = pace.again || nat_lt j pace.next }) one in
      let now = going_stands d takes refl going some in
      let begins = next_begins d pace parts here there now.known now.stands.shows now.stands.stack_is in
      let pays = begun_pays {frames = frames} {pace = pace} 0 (length coming.bits) 1 (frame.Seq k at count)
      (frame.Seq k (at + 1) count) refl paced refl begins.is_node (inl begins.rises) (omega arith)
      (omega arith) in
      record {
        begins = begins;
        going = going_more d takes (state d takes t values next coming (frame.Begin j ∷ frame.Seq k (at + 1) count ∷ frames)) t 0 refl going
            (λ stack done stands. GoesOn-along d takes t values pace coming refl refl paced
            (begins_next d takes t values pace coming parts here there now.known stands))
            (omega (arith, pays.0)) (omega (arith, pays.1));
        paid = omega (arith, pays.0, going.less);
      }

  -- bits that are made ready change nothing
  pub going_since : {first : StateV} {s t : S} {frames : List Frame} {values : List Number} {pace : Pace} {old new : Coming} → IsSame old new
      → Going d takes first (state d takes t values pace old frames) s t 0 0 → Going d takes first (state d takes t values pace new frames) s t 0 0
  going_since {t = t} {frames} {values} {pace} {old} {new} same going =
      let P : List ℕ → Type 0 = λ l. 0 + credit_of (length d.nodes) frames pace (length l) ≤ 0 + credit_of (length d.nodes) frames pace (length old.bits) in
      let no_more = subst P (sym same.bits) (omega arith) in
      going_more d takes (state d takes t values pace new frames) t 0 refl going
      (turns_since d takes t t frames values pace same (state d takes t values pace new frames) Moved (λ stack done stands. stays_as d takes t _ stands))
      no_more (omega (arith, no_more))
