use Rattle.std.proofs.Common.{◌≡◌, ◌+◌, ◌-◌, ◌*◌, ◌≤◌, ℕ, List, ◌++◌, length, take, drop, ap, sym, subst, arith, ◌∙◌}
use Rattle.std.proofs.lemmas.List.{length-take, length-take-le}
use Rattle.csn_bits.specs.Feed.{octets_given}
use Rattle.csn_movetext.specs.Lines.{LineV, ReadsLine, credit, line_of}
use Rattle.csn_movetext.proofs.LineFacts.{part_is, few_more, reads_more}
use Rattle.csn_movetext.proofs.StepFacts.{steps_fewer}
use Rattle.csn_movetext.proofs.line.LineText.take_some.Goals as goal

pub take-requires-clause-few : goal.take-requires-clause-few
take-requires-clause-few g c =
    let line : List ℕ = c.self.invariant.0 in
    let reads : ReadsLine (line_of c.self.inside) line = c.self.invariant.1 in
    let from : ℕ = c.take_next-taken.result.from in
    let to : ℕ = c.take_next-taken.result.to in
    let room : List ℕ = c.take_next-taken.new.room in
    few_more line (take c.take_next-taken.result.bytes c.args.bytes.now) (take (to - from) (drop from room)) c.self.inside.given.octets reads.given
    (c.take_next-taken.ensures.given line reads.fed ∙ ap (λ l. octets_given line ++ l) (part_is from to room c.take_next-taken.ensures.from))

pub invariant_of-self : goal.invariant_of-self
invariant_of-self g c =
    let old : LineV = line_of c.self.inside in
    let new : LineV = line_of (record { feed = c.take_next-taken.new.feed; given = c.take.new.self }) in
    let line : List ℕ = c.self.invariant.0 in
    let reads : ReadsLine old line = c.self.invariant.1 in
    let from : ℕ = c.take_next-taken.result.from in
    let to : ℕ = c.take_next-taken.result.to in
    let room : List ℕ = c.take_next-taken.new.room in
    let bytes : List ℕ = take c.take_next-taken.result.bytes c.args.bytes.now in
    let seen : new.seen ≡ old.seen + length bytes =
    omega (
      arith,
      c.take_next-taken.ensures.seen,
      length-take-le c.take_next-taken.result.bytes c.args.bytes.now
          c.take_next-taken.ensures.within,
    ) in (
      line ++ bytes,
      reads_more old new line bytes (take (to - from) (drop from room)) reads (c.take_next-taken.ensures.fed line reads.fed)
          (c.take_next-taken.ensures.given line reads.fed ∙ ap (λ l. octets_given line ++ l) (part_is from to room c.take_next-taken.ensures.from))
          seen c.take.ensures.octets c.take.ensures.seen c.take.ensures.writes,
    )

pub returns-clause-reads : goal.returns-clause-reads
returns-clause-reads g c = λ line reads_now.
    let old : LineV = line_of c.self.inside in
    let new : LineV = line_of (record { feed = c.take_next-taken.new.feed; given = c.take.new.self }) in
    let reads : ReadsLine old line = subst (λ (t : LineV). ReadsLine t line) (sym c.self.view_is) reads_now in
    let from : ℕ = c.take_next-taken.result.from in
    let to : ℕ = c.take_next-taken.result.to in
    let room : List ℕ = c.take_next-taken.new.room in
    let bytes : List ℕ = take c.take_next-taken.result.bytes c.args.bytes.now in
    let seen : new.seen ≡ old.seen + length bytes =
    omega (
      arith,
      c.take_next-taken.ensures.seen,
      length-take-le c.take_next-taken.result.bytes c.args.bytes.now
          c.take_next-taken.ensures.within,
    ) in
    reads_more old new line bytes (take (to - from) (drop from room)) reads (c.take_next-taken.ensures.fed line reads.fed)
    (c.take_next-taken.ensures.given line reads.fed ∙ ap (λ l. octets_given line ++ l) (part_is from to room c.take_next-taken.ensures.from))
    seen c.take.ensures.octets c.take.ensures.seen c.take.ensures.writes

pub take_next-taken-requires-clause-some : goal.take_next-taken-requires-clause-some
take_next-taken-requires-clause-some g c = c.requires.some

pub take_next-taken-requires-clause-few : goal.take_next-taken-requires-clause-few
take_next-taken-requires-clause-few g c = omega (arith, c.requires.few, ap (λ (t : LineV). t.seen) c.self.view_is)

pub take-requires-clause-seen : goal.take-requires-clause-seen
take-requires-clause-seen g c = let reads : ReadsLine (line_of c.self.inside) c.self.invariant.0 = c.self.invariant.1 in reads.few

pub returns-clause-some : goal.returns-clause-some
returns-clause-some g c = c.take_next-taken.ensures.some

pub returns-clause-within : goal.returns-clause-within
returns-clause-within g c = c.take_next-taken.ensures.within

pub returns-clause-seen : goal.returns-clause-seen
returns-clause-seen g c = c.take_next-taken.ensures.seen ∙ ap (λ (t : LineV). t.seen + c.take_next-taken.result.bytes) c.self.view_is

pub returns-clause-form : goal.returns-clause-form
returns-clause-form g c = c.take.ensures.form ∙ ap (λ (t : LineV). t.form) c.self.view_is

pub returns-clause-desc : goal.returns-clause-desc
returns-clause-desc g c = c.take.ensures.desc ∙ ap (λ (t : LineV). t.desc) c.self.view_is

pub returns-clause-steps : goal.returns-clause-steps
returns-clause-steps g c =
    let new : LineV = line_of (record { feed = c.take_next-taken.new.feed; given = c.take.new.self }) in
    let part : List ℕ = take (c.take_next-taken.result.to - c.take_next-taken.result.from)
    (drop c.take_next-taken.result.from c.take_next-taken.new.room) in
    let few : length part ≤ c.take_next-taken.result.bytes =
    omega (
      arith,
      c.take_next-taken.ensures.count,
      length-take (c.take_next-taken.result.to - c.take_next-taken.result.from)
          (drop c.take_next-taken.result.from c.take_next-taken.new.room),
    ) in
    subst (λ (t : LineV). c.take.new.steps + credit new ≤ c.args.steps.now + credit t + 8 * length t.desc.nodes * (8 * c.take_next-taken.result.bytes))
    c.self.view_is
    (steps_fewer _ _ _ (length part) c.take_next-taken.result.bytes few c.take.ensures.steps)
