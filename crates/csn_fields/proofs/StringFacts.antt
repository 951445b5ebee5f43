-- What one judge tells of a block that is there as a whole.
use Rattle.std.proofs.Common.{◌≡◌, ◌≤◌, ◌∙◌, ℕ, List, [], ◌++◌, length, sym, subst, ap, Option, None}
use Rattle.csn_bits.specs.Octets.{most_bits}
use Rattle.csn_desc.specs.declared.moves.Move.{Move}
use Rattle.csn_desc.specs.declared.node.Node.{Node}
use Rattle.csn_desc.specs.Nodes.{DescV}
use Rattle.csn_desc.specs.Formed.{IsDescription}
use Rattle.csn_desc.specs.Laws.{StringsAreFollowed}
use Rattle.csn_certify.specs.Plans.{HasOneTree}
use Rattle.csn_judge.specs.Told.{Tells}
use Rattle.csn_judge.specs.Remains.{IsBlock}
use Rattle.csn_judge.specs.Blocks.{IsJudged}
use Rattle.csn_judge.specs.Judging.{JudgeV, JudgesFor, Judges, Ends, opened}
use Rattle.csn_judge.specs.declared.verdict.Verdict.{Verdict}
use Rattle.csn_judge.specs.declared.verdict.Verdict.TheVariants.{Going, Refused}
use Rattle.csn_judge.specs.declared.verdict.Judged.{Judged}
use Rattle.csn_judge.specs.declared.verdict.Judged.TheVariants.{Ok, Refused as no_string}
use Rattle.csn_fields.specs.declared.event.Event.{Event}
use Rattle.csn_fields.specs.declared.refusal.Ended.TheVariants.{Whole}
use Rattle.csn_fields.specs.Numbers.{HasNumbers}
use Rattle.csn_fields.specs.Alternatives.{AlternativesV, HasAlternatives}
use Rattle.csn_fields.specs.Places.{PlacesV, nothing}
use Rattle.csn_fields.specs.Tracks.{Takes}
use Rattle.csn_fields.specs.Telling.{ToldV, untold, Goes}
use Rattle.csn_fields.specs.Reading.{EndsTold, IsReady}
use Rattle.csn_fields.proofs.TellingTrees.{tells_then}
use Rattle.csn_fields.proofs.TrackFacts.{kept_along, tracked}
use Rattle.csn_fields.proofs.ReadingFacts.{KnownTrees, same_numbers, whole_told, told_then}

-- all bits were fed at once, and can be followed: what the judge says at the end
pub judged_at_end : (are_told then_told : List ℕ → List Move → Type 0) (d : DescV) (start fed : JudgeV) (b : List ℕ) (judged : Judged)
    → JudgesFor start [] [] → start.desc ≡ d → fed.desc ≡ start.desc
    → Judges are_told start fed b Going → Ends then_told fed judged → IsJudged d b judged
judged_at_end are_told then_told d start fed b Ok begun same kept going ends =
    let on = going [] [] begun in
    let end = ends b on.made on.judges in
    let P : DescV → Type 0 = λ x. IsJudged x b Ok in
    subst P same (subst P kept (end.block.tree, end.block.means))
judged_at_end are_told then_told d start fed b (no_string place) begun same kept going ends =
    let on = going [] [] begun in
    let end = ends b on.made on.judges in
    let P : DescV → Type 0 = λ x. IsJudged x b (no_string place) in
    subst P same (subst P kept (end.place_is, end.no_tree))

-- a bit of them cannot be followed
pub judged_before : (are_told : List ℕ → List Move → Type 0) (d : DescV) (start fed : JudgeV) (b : List ℕ) (place : ℕ)
    → StringsAreFollowed → JudgesFor start [] [] → start.desc ≡ d → Judges are_told start fed b (Refused place)
    → IsJudged d b (no_string place)
judged_before are_told d start fed b place followed begun same refused =
    let is = refused [] [] begun in
    let P : DescV → Type 0 = λ x. IsJudged x b (no_string place) in
    subst P same (is.place_is, λ t means. is.not_followed (followed start.desc 0 0 [] b t means))

-- a new reader is ready
pub ready_from : (judge : JudgeV) (places : PlacesV) (d : DescV) (a : AlternativesV) → IsDescription d → HasOneTree d
    → HasAlternatives d a → JudgesFor judge [] [] → judge.desc ≡ d → judge.refused ≡ None → judge.seen ≡ 0 → opened judge ≡ []
    → places ≡ nothing a.numbers → IsReady judge places a
ready_from judge places d a is one has judges same going seen none nothing_is =
    record {
      description = subst IsDescription (sym same) is;
      one_tree = subst HasOneTree (sym same) one;
      has = subst (λ (x : DescV). HasAlternatives x a) (sym same) has;
      judges = judges;
      going = going;
      seen_is = seen;
      opened_are = none;
      places_are = nothing_is;
    }

-- so is one whose judge stands for no bits again, and that has the alternatives and the numbers that it had
pub ready_again : (start next : JudgeV) (before places kept : PlacesV) (old new : AlternativesV) → IsReady start before old → next.desc ≡ start.desc
    → JudgesFor next [] [] → next.refused ≡ None → next.seen ≡ 0 → opened next ≡ [] → new ≡ old
    → kept.numbers ≡ before.numbers → places ≡ nothing kept.numbers → IsReady next places new
ready_again start next before places kept old new ready same judges going seen none alternatives numbers nothing_is =
    let P : AlternativesV → Type 0 = λ a. IsReady next places a in
    let all : kept.numbers ≡ old.numbers = numbers ∙ ap (λ (p : PlacesV). p.numbers) ready.places_are in
    subst P (sym alternatives)
    (ready_from next places start.desc old ready.description ready.one_tree ready.has judges same going seen none
    (nothing_is ∙ ap nothing all))

module _ {E : Type 0} (tells : E → Event → E → Type 0) {S : Type 0} (places : S → PlacesV) (heard : S → E) (takes : S → Move → Node → S → Type 0)
    (each : (s t : S) (move : Move) (node : Node) → takes s move node t → Takes tells (places s) (heard s) move node
    (places t) (heard t)) where
  -- the block is a string: its events were told
  pub string_told : (old middle new : S) (known : KnownTrees) (d : DescV) (numbers : List (Option ℕ)) (start fed : JudgeV) (b : List ℕ)
      → IsDescription d → HasOneTree d → HasNumbers d numbers → length b ≤ most_bits → places old ≡ nothing numbers
      → JudgesFor start [] [] → opened start ≡ [] → start.desc ≡ d → fed.desc ≡ start.desc
      → Judges (λ around made. Tells start.desc takes (opened start) made around old middle) start fed b Going
      → Ends (λ around made. Tells fed.desc takes (opened fed) made around middle new) fed Ok
      → EndsTold tells d b [] (heard old) (heard new) Whole
  string_told old middle new known d numbers start fed b is one has few begin begun none same kept going ends =
      let on = going [] [] begun in
      let end = ends b on.made on.judges in
      let first = tracked tells start.desc places heard takes each [] on.told in
      let last = tracked tells fed.desc places heard takes each first.more end.told in
      let to : ToldV = record { places = places new; events = first.more ++ last.more } in
      let P : DescV → Type 0 = λ x. Tells x Goes (opened fed) end.made [] (record { places = places middle; events = first.more }) to in
      let Q : DescV → Type 0 = λ x. Tells x Goes [] (on.made ++ end.made) [] (untold numbers) to in
      let R : List ℕ → Type 0 = λ around. Tells start.desc Goes around (on.made ++ end.made) [] (untold numbers) to in
      let U : PlacesV → Type 0 = λ p. Tells start.desc Goes (opened start) (on.made ++ end.made) [] (record { places = p; events = [] }) to in
      let B : DescV → Type 0 = λ x. IsBlock x b (on.made ++ end.made) in
      record {
        more = first.more ++ last.more;
        told = told_then tells first.more last.more (heard old) (heard middle) (heard new) first.told last.told;
        ends =
            whole_told d known is numbers has one b (on.made ++ end.made) (places new) (first.more ++ last.more) [] few
            (subst B same (subst B kept end.block))
            (subst Q same (subst R none (subst U begin (tells_then start.desc first.goes (subst P kept last.goes)))));
      }

  module _ (alternatives : S → AlternativesV)
      (same : (s t : S) (move : Move) (node : Node) → takes s move node t → alternatives t ≡ alternatives s) where
    -- the alternatives and their numbers stay
    pub record Keeps (old new : S) : Type 0 where
      pub alternatives_are : alternatives new ≡ alternatives old
      pub numbers_are : (places new).numbers ≡ (places old).numbers

    -- so it is along moves that are told
    keeps_told : (d : DescV) {around others : List ℕ} {moves : List Move} {old new : S} → Tells d takes around moves others old new
        → Keeps old new
    keeps_told d told =
        record {
          alternatives_are = kept_along d takes alternatives same told;
          numbers_are = same_numbers d (tracked tells d places heard takes each [] told).goes;
        }

    -- behind the bits of a block
    pub keeps_fed : (start fed : JudgeV) (b : List ℕ) (old new : S) (verdict : Verdict) → JudgesFor start [] [] → start.refused ≡ None
        → Judges (λ around made. Tells start.desc takes (opened start) made around old new) start fed b verdict → Keeps old new
    keeps_fed start fed b old new Going begun none going = keeps_told start.desc (going [] [] begun).told
    keeps_fed start fed b old new (Refused place) begun none refused = keeps_told start.desc ((refused [] [] begun).told none).2

    -- and behind the end of one that goes on
    pub keeps_ended : (fed : JudgeV) (b : List ℕ) (moves : List Move) (old new : S) (judged : Judged) → JudgesFor fed b moves → fed.refused ≡ None
        → Ends (λ around made. Tells fed.desc takes (opened fed) made around old new) fed judged → Keeps old new
    keeps_ended fed b moves old new Ok judges none ends = keeps_told fed.desc (ends b moves judges).told
    keeps_ended fed b moves old new (no_string place) judges none ends = keeps_told fed.desc ((ends b moves judges).told none).2

    -- along both, and where a bit is refused along the first
    pub keeps_whole : (start fed : JudgeV) (b : List ℕ) (old middle new : S) (judged : Judged) → JudgesFor start [] [] → start.refused ≡ None
        → fed.refused ≡ None
        → Judges (λ around made. Tells start.desc takes (opened start) made around old middle) start fed b Going
        → Ends (λ around made. Tells fed.desc takes (opened fed) made around middle new) fed judged → Keeps old new
    keeps_whole start fed b old middle new judged begun none still going ends =
        let on = going [] [] begun in
        let first = keeps_fed start fed b old middle Going begun none going in
        let last = keeps_ended fed b on.made middle new judged on.judges still ends in
        record {
          alternatives_are = last.alternatives_are ∙ first.alternatives_are;
          numbers_are = last.numbers_are ∙ first.numbers_are;
        }
