use Rattle.std.proofs.Common.{◌≡◌, ◌≤◌, ◌∙◌, ℕ, List, length, take, refl, sym, ap, subst, arith}
use Rattle.std.proofs.lemmas.List.{length-take}
use Rattle.csn_bits.specs.Octets.{bits_of_octets}
use Rattle.csn_desc.specs.declared.moves.Move.{Move}
use Rattle.csn_desc.specs.declared.node.Node.{Node}
use Rattle.csn_judge.specs.Told.{Tells}
use Rattle.csn_judge.specs.Judging.{JudgeV, Judges, Ends, opened, refusal_of}
use Rattle.csn_judge.specs.declared.verdict.Verdict.{Verdict}
use Rattle.csn_judge.specs.declared.verdict.Judged.{Judged}
use Rattle.csn_judge.specs.declared.verdict.Judged.TheVariants.{Ok, Refused as no_string}
use Rattle.csn_fields.specs.declared.track.WholeTrack.{WholeTrack}
use Rattle.csn_fields.specs.Tracks.{Takes}
use Rattle.csn_fields.specs.Alternatives.{AlternativesV}
use Rattle.csn_fields.specs.Outlines.{AreOutlines}
use Rattle.csn_fields.specs.Places.{nothing}
use Rattle.csn_judge.specs.declared.verdict.Verdict.TheVariants.{Going, Refused}
use Rattle.csn_fields.proofs.StringFacts.{judged_at_end, judged_before, keeps_fed, keeps_whole, ready_again, string_told}
use Rattle.csn_fields.proofs.string.StringReader.tell_counted.Goals as goal
use Rattle.csn_fields.proofs.string.StringReader.tell_counted.Goals.{in-Going, in-Refused}

pub feed_to-verdict-requires-clause-fits : goal.feed_to-verdict-requires-clause-fits
feed_to-verdict-requires-clause-fits g c = c.requires.ready.has.outlines

pub next_block_to-judged-requires : goal.next_block_to-judged-requires
next_block_to-judged-requires g c =
    let Track : Type 0 = WholeTrack g.row.E.Denot in
    let takes : Track → Move → Node → Track → Type 0 =
    λ old move node new. Takes {S = g.row.E.Denot} g.E.Events.tells old.fields.places old.fields.events move node new.fields.places new.fields.events
    × (new.alternatives.now ≡ old.alternatives.now) in
    let start : JudgeV = c.args.self.now.judge in
    let fed : JudgeV = c.feed_to-verdict.new.self in
    let begun : Track = c.args.self.now.track in
    let behind : Track = c.feed_to-verdict.new.track in
    let b : List ℕ = take c.args.bits (bits_of_octets c.args.octets.now) in
    let are_told : List ℕ → List Move → Type 0 = λ around made. Tells start.desc takes (opened start) made around begun behind in
    let P : Verdict → Type 0 = λ v. Judges are_told start fed b v in
    let kept = keeps_fed g.E.Events.tells (λ s. s.fields.places) (λ s. s.fields.events) takes (λ s u move node h. h.0)
    (λ s. s.alternatives.now) (λ s u move node h. h.1) start fed b begun behind Going c.requires.ready.judges c.requires.ready.going
    (subst P c.in-Going.is c.feed_to-verdict.ensures.judges) in
    record {
      fits =
          subst (λ d. AreOutlines d behind.alternatives.now.outlines) (sym c.feed_to-verdict.ensures.desc)
          (subst (λ (a : AlternativesV). AreOutlines start.desc a.outlines) (sym kept.alternatives_are) c.requires.ready.has.outlines);
    }

pub returns-clause-judged : goal.returns-clause-judged
returns-clause-judged g c =
    let Track : Type 0 = WholeTrack g.row.E.Denot in
    let takes : Track → Move → Node → Track → Type 0 =
    λ old move node new. Takes {S = g.row.E.Denot} g.E.Events.tells old.fields.places old.fields.events move node new.fields.places new.fields.events
    × (new.alternatives.now ≡ old.alternatives.now) in
    let start : JudgeV = c.args.self.now.judge in
    let fed : JudgeV = c.feed_to-verdict.new.self in
    let begun : Track = c.args.self.now.track in
    let behind : Track = c.feed_to-verdict.new.track in
    let b : List ℕ = take c.args.bits (bits_of_octets c.args.octets.now) in
    let are_told : List ℕ → List Move → Type 0 = λ around made. Tells start.desc takes (opened start) made around begun behind in
    let P : Verdict → Type 0 = λ v. Judges are_told start fed b v in
    elim c.match-verdict.branch [
      | in-Going w ↦ rw w.judged-is
          (judged_at_end are_told (λ around made. Tells fed.desc takes (opened fed) made around behind w.next_block_to-judged.new.track)
          start.desc start fed b w.next_block_to-judged.result c.requires.ready.judges refl c.feed_to-verdict.ensures.desc
          (subst P w.in-Going.is c.feed_to-verdict.ensures.judges) w.next_block_to-judged.ensures.ends)
      | in-Refused w ↦ rw w.judged-is
          (judged_before are_told start.desc start fed b w.in-Refused.place c.strings_are_followed.ensures c.requires.ready.judges
          refl (subst P w.in-Refused.is c.feed_to-verdict.ensures.judges))
    ]

pub returns-clause-told : goal.returns-clause-told
returns-clause-told g c = λ ok.
    let Track : Type 0 = WholeTrack g.row.E.Denot in
    let takes : Track → Move → Node → Track → Type 0 =
    λ old move node new. Takes {S = g.row.E.Denot} g.E.Events.tells old.fields.places old.fields.events move node new.fields.places new.fields.events
    × (new.alternatives.now ≡ old.alternatives.now) in
    let start : JudgeV = c.args.self.now.judge in
    let fed : JudgeV = c.feed_to-verdict.new.self in
    let begun : Track = c.args.self.now.track in
    let behind : Track = c.feed_to-verdict.new.track in
    let b : List ℕ = take c.args.bits (bits_of_octets c.args.octets.now) in
    let are_told : List ℕ → List Move → Type 0 = λ around made. Tells start.desc takes (opened start) made around begun behind in
    let P : Verdict → Type 0 = λ v. Judges are_told start fed b v in
    let few : length b ≤ 524288 = omega (arith, c.requires.few, length-take c.args.bits (bits_of_octets c.args.octets.now)) in
    elim c.match-verdict.branch [
      | in-Going w ↦
          let Q : Judged → Type 0 = λ j. Ends (λ around made. Tells fed.desc takes
          (opened fed) made around behind w.next_block_to-judged.new.track) fed j in
          rw w.self-is
          (string_told g.E.Events.tells (λ s. s.fields.places) (λ s. s.fields.events) takes (λ s u move node h. h.0) begun behind
          w.next_block_to-judged.new.track
          (record { have = c.trees_have_moves.ensures.some; one = c.trees_have_moves.ensures.one; bits = c.meanings_are_bits.ensures.meant })
          start.desc begun.alternatives.now.numbers start fed b c.requires.ready.description c.requires.ready.one_tree
          c.requires.ready.has.numbers few c.requires.ready.places_are c.requires.ready.judges c.requires.ready.opened_are refl
          c.feed_to-verdict.ensures.desc (subst P w.in-Going.is c.feed_to-verdict.ensures.judges)
          (subst Q (sym w.judged-is ∙ ok) w.next_block_to-judged.ensures.ends))
      | in-Refused w ↦ let clash : no_string w.in-Refused.place ≡ Ok = sym w.judged-is ∙ ok in absurd (cc)
    ]

pub returns-clause-ready : goal.returns-clause-ready
returns-clause-ready g c =
    let Track : Type 0 = WholeTrack g.row.E.Denot in
    let takes : Track → Move → Node → Track → Type 0 =
    λ old move node new. Takes {S = g.row.E.Denot} g.E.Events.tells old.fields.places old.fields.events move node new.fields.places new.fields.events
    × (new.alternatives.now ≡ old.alternatives.now) in
    let start : JudgeV = c.args.self.now.judge in
    let fed : JudgeV = c.feed_to-verdict.new.self in
    let begun : Track = c.args.self.now.track in
    let behind : Track = c.feed_to-verdict.new.track in
    let b : List ℕ = take c.args.bits (bits_of_octets c.args.octets.now) in
    let are_told : List ℕ → List Move → Type 0 = λ around made. Tells start.desc takes (opened start) made around begun behind in
    let P : Verdict → Type 0 = λ v. Judges are_told start fed b v in
    elim c.match-verdict.branch [
      | in-Going w ↦
          let kept = keeps_whole g.E.Events.tells (λ s. s.fields.places) (λ s. s.fields.events) takes (λ s u move node h. h.0)
          (λ s. s.alternatives.now) (λ s u move node h. h.1) start fed b begun behind w.next_block_to-judged.new.track w.next_block_to-judged.result
          c.requires.ready.judges c.requires.ready.going (c.feed_to-verdict.ensures.refused ∙ ap refusal_of w.in-Going.is)
          (subst P w.in-Going.is c.feed_to-verdict.ensures.judges) w.next_block_to-judged.ensures.ends in
          rw w.self-is
          (ready_again start w.next_block_to-judged.new.self begun.fields.places c.restart.new.self w.next_block_to-judged.new.track.fields.places
          begun.alternatives.now w.next_block_to-judged.new.track.alternatives.now c.requires.ready
          (w.next_block_to-judged.ensures.desc ∙ c.feed_to-verdict.ensures.desc) w.next_block_to-judged.ensures.judges
          w.next_block_to-judged.ensures.refused w.next_block_to-judged.ensures.seen w.next_block_to-judged.ensures.opened
          kept.alternatives_are kept.numbers_are (c.restart.ensures ∙ ap (λ s. nothing s.track.fields.places.numbers) w.self-is))
      | in-Refused w ↦
          let kept = keeps_fed g.E.Events.tells (λ s. s.fields.places) (λ s. s.fields.events) takes (λ s u move node h. h.0)
          (λ s. s.alternatives.now) (λ s u move node h. h.1) start fed b begun behind (Refused w.in-Refused.place) c.requires.ready.judges
          c.requires.ready.going (subst P w.in-Refused.is c.feed_to-verdict.ensures.judges) in
          rw w.self-is
          (ready_again start w.next_block-again.new.self begun.fields.places c.restart.new.self behind.fields.places
          begun.alternatives.now behind.alternatives.now c.requires.ready
          (w.next_block-again.ensures.desc ∙ c.feed_to-verdict.ensures.desc) w.next_block-again.ensures.judges
          w.next_block-again.ensures.refused w.next_block-again.ensures.seen w.next_block-again.ensures.opened
          kept.alternatives_are kept.numbers_are (c.restart.ensures ∙ ap (λ s. nothing s.track.fields.places.numbers) w.self-is))
    ]
