use Rattle.std.proofs.Common.{◌≡◌, ℕ, suc, ◌+◌, ◌*◌, ◌<◌, ◌≤◌, List, ◌++◌, length, take, false, Option, None, refl, sym, ap, subst, ◌∙◌, arith, length-append}
use Rattle.std.proofs.lemmas.List.{length-take-le, take_all}
use Rattle.std.proofs.Math.Nat.{mul_assoc}
use Rattle.csn_bits.specs.Octets.{bits_of_octets}
use Rattle.csn_bits.proofs.Packing.{length-bits_of_octets}
use Rattle.csn_desc.specs.Nodes.{DescV}
use Rattle.csn_judge.specs.declared.judge.Judge.TheInside.{Inside}
use Rattle.csn_judge.specs.Known.{Known}
use Rattle.csn_judge.specs.Coming.{Coming}
use Rattle.csn_judge.specs.Credit.{credit_of}
use Rattle.csn_judge.specs.Turns.{StateV, state_of, Stands}
use Rattle.csn_judge.specs.Told.{Tells}
use Rattle.csn_judge.specs.Judging.{JudgeV, judge_of, opened, while_going, credit, Judges}
use Rattle.csn_judge.specs.declared.machine.Machine.{Machine}
use Rattle.csn_judge.specs.declared.source.Held.{Held}
use Rattle.csn_bits.specs.Numbers.{low_bits}
use Rattle.csn_judge.specs.declared.verdict.Verdict.{Verdict}
use Rattle.csn_judge.specs.declared.verdict.Verdict.TheVariants.{Going, Refused}
use Rattle.csn_bits.proofs.NumberFacts.{length-low_bits}
use Rattle.csn_judge.proofs.JudgingFacts.{IsFed, IsBehind, fed_stands, behind_stands, feeds_on, feeds_none}
use Rattle.csn_judge.proofs.JudgingFacts.{feeds_nothing, feeds_still, some_nodes, credit_more, more_steps}
use Rattle.csn_judge.proofs.judge.Judge.feed_to.Goals as goal

-- the bits of the piece
piece_length : (bits : ℕ) (piece : List ℕ) → bits ≤ 8 * length piece → length (take bits (bits_of_octets piece)) ≡ bits
piece_length bits piece within = length-take-le bits (bits_of_octets piece) (omega (arith, within, length-bits_of_octets piece))

pub returns-in-Some-clause-judges : goal.returns-in-Some-clause-judges
returns-in-Some-clause-judges g c =
    feeds_still c.prefixes_are_followed.ensures (λ around made. Tells c.args.self.now.desc g.T.Track.takes
    (opened c.args.self.now) made around c.args.track.now c.args.track.now)
    c.args.self.now c.args.self.now (take c.args.bits (bits_of_octets c.args.piece.now)) c.in-Some.place
    (sym (ap (λ j. j.refused) c.self.view_is) ∙ c.in-Some.is)

pub returns-then-bits-eq0-clause-judges : goal.returns-then-bits-eq0-clause-judges
returns-then-bits-eq0-clause-judges g c =
    feeds_nothing g.T.Track.takes c.args.self.now (take c.args.bits (bits_of_octets c.args.piece.now)) c.args.track.now
    (sym (ap (λ j. j.refused) c.self.view_is) ∙ c.in_default.is) (ap (λ n. take n (bits_of_octets c.args.piece.now)) c.if-bits-eq0.true)

come : (j : Inside) (more : List ℕ) (coming : Coming)
    → coming ≡ record {
      bits = (judge_of j).state.coming.bits ++ more;
      held = j.held.count;
      place = j.place;
      limit =
          j.limit;
      ended = false;
    } → IsFed (judge_of j) more coming
come j more coming is = record { bits = ap (λ c. c.bits) is; place = ap (λ c. c.place) is; limit = ap (λ c. c.limit) is; going = ap (λ c. c.ended) is }

pub go-verdict-requires-clause-fits : goal.go-verdict-requires-clause-fits
go-verdict-requires-clause-fits g c = subst (λ (j : JudgeV). g.T.Track.fits c.args.track.now j.desc) (sym c.self.view_is) c.requires.fits

pub go-verdict-requires-clause-stands : goal.go-verdict-requires-clause-stands
go-verdict-requires-clause-stands g c =
    let d : DescV = c.self.inside.machine.plan.now in
    let more : List ℕ = take c.args.bits (bits_of_octets c.args.piece.now) in
    let there = c.self.invariant.stands c.in_default.is in
    let fed = come c.self.inside more c.new-source.result c.new-source.ensures in
    record {
      known = there.known;
      stack = there.stack;
      done = there.done;
      stands =
          fed_stands d more c.new-source.result fed.bits fed.place fed.limit there.stands;
    }

-- the judge where the machine waits
abbrev waiting : Inside → Machine → Held → (place limit bits : ℕ) → Inside
waiting j machine held place limit bits = record { machine = machine; held = held; place = place; limit = limit; seen = j.seen + bits; refused = j.refused }

behind_of : (j : Inside) (machine : Machine) (source : Coming) (held : Held) (place limit bits : ℕ) (piece : List ℕ) → bits ≤ 8 * length piece
    → machine.plan.now ≡ j.machine.plan.now → j.refused ≡ None
    → low_bits held.count held.number ≡ take source.held source.bits → place ≡ source.place → limit ≡ source.limit
    → IsBehind (judge_of j) (judge_of (waiting j machine held place limit bits)) (take bits (bits_of_octets piece)) (state_of machine source)
behind_of j machine source held place limit bits piece within plan none held_is place_is limit_is =
    record {
      desc = plan;
      refused = none;
      seen = ap (λ n. j.seen + n) (sym (piece_length bits piece within));
      frames = refl;
      values = refl;
      pace = refl;
      bits = held_is;
      place = place_is;
      limit = limit_is;
    }

-- how far the places are behind the machine's turns
far : {old seen place place_new held_new : ℕ} (bits held : ℕ) (fed done taken left : List ℕ) → seen ≡ old → old ≡ place + held → length fed ≡ held + bits
    → place ≡ length done → fed ≡ taken ++ left → place_new ≡ length (done ++ taken) → held_new ≡ length left → seen + bits ≡ place_new + held_new
far bits held fed done taken left now is more at cut at_new left_is =
    omega (arith, now, is, more, at, ap (λ l. length l) cut, length-append taken left, length-append done taken, at_new, left_is)

pub invariant_of-self : goal.invariant_of-self
invariant_of-self g c =
    let d : DescV = c.self.inside.machine.plan.now in
    let old : JudgeV = judge_of c.self.inside in
    let after : StateV = state_of c.go-verdict.new.self c.go-verdict.new.source in
    let new : JudgeV =
    judge_of (waiting c.self.inside c.go-verdict.new.self c.held-self-inside.result c.place-self-inside.result
    c.limit-self-inside.result c.args.bits) in
    let more : List ℕ = take c.args.bits (bits_of_octets c.args.piece.now) in
    let there = c.self.invariant.stands c.in_default.is in
    let fed = come c.self.inside more c.new-source.result c.new-source.ensures in
    let on = c.in-Going.ensures.turns there.stack there.done (fed_stands d more c.new-source.result fed.bits fed.place fed.limit there.stands) in
    let plan : c.go-verdict.new.self.plan.now ≡ d = ap (λ p. p.now) c.in-Going.ensures.plan in
    let size = piece_length c.args.bits c.args.piece.now c.requires.within in
    let is = behind_of c.self.inside c.go-verdict.new.self c.go-verdict.new.source c.held-self-inside.result
    c.place-self-inside.result c.limit-self-inside.result c.args.bits c.args.piece.now
    c.requires.within plan c.in_default.is c.held-self-inside.ensures.bits c.place-self-inside.ensures.place c.limit-self-inside.ensures in
    let stand = behind_stands g.T.Track.takes old new more c.new-source.result after c.args.track.now c.go-verdict.new.track is on in
    let K : DescV → Type 0 = λ d. Known d in
    let S : DescV → Type 0 = λ d. Stands d new.state on.on.now (there.done ++ on.on.taken) in
    record {
      few = omega (arith, c.held-self-inside.ensures.count, on.held, on.few);
      small = omega (arith, ap (λ j. j.seen) c.self.view_is, c.requires.few);
      seen_is = λ none.
          far c.args.bits c.self.inside.held.count c.new-source.result.bits there.done on.on.taken
          c.go-verdict.new.source.bits refl (c.self.invariant.seen_is none)
          (ap (λ l. length l) fed.bits ∙ length-append old.state.coming.bits more ∙ ap
          (λ n. length old.state.coming.bits + n) size
          ∙ ap (λ n. n + c.args.bits) (length-low_bits c.self.inside.held.count c.self.inside.held.number))
          there.stands.place on.on.bits stand.stands.place (c.held-self-inside.ensures.count ∙ on.held);
      inside = omega (arith, c.place-self-inside.ensures.place, c.place-self-inside.ensures.inside, c.limit-self-inside.ensures);
      stands = λ none.
          record { known = subst K (sym plan) there.known; stack = on.on.now; done = there.done ++ on.on.taken; stands = subst S (sym plan) stand.stands };
    }

pub returns-in-Going-clause-judges : goal.returns-in-Going-clause-judges
returns-in-Going-clause-judges g c =
    let d : DescV = c.self.inside.machine.plan.now in
    let old : JudgeV = judge_of c.self.inside in
    let after : StateV = state_of c.go-verdict.new.self c.go-verdict.new.source in
    let new : JudgeV =
    judge_of (waiting c.self.inside c.go-verdict.new.self c.held-self-inside.result c.place-self-inside.result
    c.limit-self-inside.result c.args.bits) in
    let more : List ℕ = take c.args.bits (bits_of_octets c.args.piece.now) in
    let P : JudgeV → Type 0 =
    λ j. Judges (λ around made. Tells j.desc g.T.Track.takes (opened j)
    made around c.args.track.now c.go-verdict.new.track) j new more Going in
    let V : Verdict → Type 0 = λ v. Judges (λ around made. Tells c.args.self.now.desc g.T.Track.takes
    (opened c.args.self.now) made around c.args.track.now c.go-verdict.new.track) c.args.self.now new more v in
    subst V (sym c.in-Going.is)
    (subst P c.self.view_is
    (feeds_on g.T.Track.takes old new more c.new-source.result after c.args.track.now c.go-verdict.new.track
    c.in_default.is (come c.self.inside more c.new-source.result c.new-source.ensures)
    (behind_of c.self.inside c.go-verdict.new.self c.go-verdict.new.source c.held-self-inside.result
    c.place-self-inside.result c.limit-self-inside.result c.args.bits c.args.piece.now
    c.requires.within (ap (λ p. p.now) c.in-Going.ensures.plan) c.in_default.is c.held-self-inside.ensures.bits
    c.place-self-inside.ensures.place c.limit-self-inside.ensures)
    c.in-Going.ensures.turns))

pub returns-in-Refused-clause-judges : goal.returns-in-Refused-clause-judges
returns-in-Refused-clause-judges g c =
    let old : JudgeV = judge_of c.self.inside in
    let more : List ℕ = take c.args.bits (bits_of_octets c.args.piece.now) in
    let P : JudgeV → Type 0 =
    λ j. Judges (λ around made. Tells j.desc g.T.Track.takes (opened j)
    made around c.args.track.now c.go-verdict.new.track) j j more (Refused c.in-Refused.place) in
    subst P c.self.view_is
    (feeds_none g.T.Track.takes old old more c.new-source.result
    (state_of c.go-verdict.new.self c.go-verdict.new.source) c.args.track.now c.go-verdict.new.track
    c.prefixes_are_followed.ensures c.in-Refused.place c.in_default.is
    (come c.self.inside more c.new-source.result c.new-source.ensures) c.in-Refused.ensures.turns)

-- the credit with the bits of the piece
with_piece : (j : Inside) (bits : ℕ) (piece : List ℕ) (coming : Coming)
    → bits ≤ 8 * length piece → coming.bits ≡ (judge_of j).state.coming.bits ++ take bits (bits_of_octets piece)
    → credit_of (length j.machine.plan.now.nodes) (state_of j.machine coming).frames j.machine.pace (length coming.bits)
    ≡ credit_of (length j.machine.plan.now.nodes) (state_of j.machine coming).frames j.machine.pace
    (length (judge_of j).state.coming.bits) + 6 * (length j.machine.plan.now.nodes * bits)
with_piece j bits piece coming within is =
    let nodes : ℕ = length j.machine.plan.now.nodes in
    let held : List ℕ = (judge_of j).state.coming.bits in
    ap (λ n. credit_of nodes (state_of j.machine coming).frames j.machine.pace n)
    (ap (λ l. length l) is ∙ length-append held (take bits (bits_of_octets piece)) ∙ ap (λ n. length held + n) (piece_length bits piece within))
    ∙ credit_more nodes (state_of j.machine coming).frames j.machine.pace (length held) bits

-- where all bits that come are held, these are they
held_all : (held : Held) (source : Coming) → low_bits held.count held.number ≡ take source.held source.bits
    → source.held ≡ length source.bits → low_bits held.count held.number ≡ source.bits
held_all held source is all = is ∙ ap (λ n. take n source.bits) all ∙ take_all (length source.bits) source.bits (omega arith)

pub returns-in-Going-clause-steps : goal.returns-in-Going-clause-steps
returns-in-Going-clause-steps g c =
    let d : DescV = c.self.inside.machine.plan.now in
    let nodes : ℕ = length d.nodes in
    let old : JudgeV = judge_of c.self.inside in
    let new : JudgeV =
    judge_of (waiting c.self.inside c.go-verdict.new.self c.held-self-inside.result c.place-self-inside.result
    c.limit-self-inside.result c.args.bits) in
    let there = c.self.invariant.stands c.in_default.is in
    let fed = come c.self.inside (take c.args.bits (bits_of_octets c.args.piece.now)) c.new-source.result c.new-source.ensures in
    let on = c.in-Going.ensures.turns there.stack there.done
    (fed_stands d (take c.args.bits (bits_of_octets c.args.piece.now)) c.new-source.result fed.bits fed.place
    fed.limit there.stands) in
    let plan : c.go-verdict.new.self.plan.now ≡ d = ap (λ p. p.now) c.in-Going.ensures.plan in
    let kept = held_all c.held-self-inside.result c.go-verdict.new.source c.held-self-inside.ensures.bits on.held in
    let P : JudgeV → Type 0 = λ j. c.go-verdict.new.steps + credit new ≤ c.args.steps.now + credit j + 8 * length j.desc.nodes * c.args.bits in
    let held : List ℕ = old.state.coming.bits in
    let before : ℕ = credit_of nodes old.state.frames old.state.pace (length held) in
    let now : ℕ → List ℕ → ℕ = λ n l. credit_of n new.state.frames new.state.pace (length l) in
    let Q : Option ℕ → Type 0 = λ r. c.go-verdict.new.steps + while_going r
    (suc (now (length new.desc.nodes) new.state.coming.bits)) ≤ c.args.steps.now + while_going r (suc before)
    + 8 * nodes * c.args.bits in
    let some : 0 < c.args.bits = omega (arith, c.if-bits-eq0.false) in
    let spent = more_steps nodes c.args.bits c.args.steps.now before c.go-verdict.new.steps
    (now nodes c.go-verdict.new.source.bits) (some_nodes d there.known.description) some
    (omega (arith, c.in-Going.ensures.pays.0, with_piece c.self.inside c.args.bits c.args.piece.now c.new-source.result c.requires.within fed.bits)) in
    let R : ℕ → List ℕ → Type 0 = λ n l. c.go-verdict.new.steps + suc (now n l) ≤ c.args.steps.now + suc before + 8 * nodes * c.args.bits in
    let R1 : ℕ → Type 0 = λ n. R n new.state.coming.bits in
    let R2 : List ℕ → Type 0 = λ l. R nodes l in
    subst P c.self.view_is (subst Q (sym c.in_default.is) (subst R1 (sym (ap (λ d. length d.nodes) plan)) (subst R2 (sym kept) spent)))

pub returns-in-Refused-clause-steps : goal.returns-in-Refused-clause-steps
returns-in-Refused-clause-steps g c =
    let fed = come c.self.inside (take c.args.bits (bits_of_octets c.args.piece.now)) c.new-source.result c.new-source.ensures in
    let P : JudgeV → Type 0 = λ j. c.go-verdict.new.steps + 0 ≤ c.args.steps.now + credit j + 8 * length j.desc.nodes * c.args.bits in
    subst P c.self.view_is (let none = c.in_default.is in
    rw none (omega (
      arith,
      c.in-Refused.ensures.pays,
      with_piece c.self.inside c.args.bits c.args.piece.now
          c.new-source.result c.requires.within fed.bits,
      mul_assoc 8 (length c.self.inside.machine.plan.now.nodes)
          c.args.bits,
    )))
