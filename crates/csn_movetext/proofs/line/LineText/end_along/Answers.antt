use Rattle.std.proofs.Common.{ℕ, List, [], length, ◌+◌, ◌*◌, ◌≤◌, IfOk, refl, sym, ap, ◌∙◌, subst, arith}
use Rattle.csn_bits.specs.Feed.{Fed, EndsWith, seen_of}
use Rattle.csn_bits.specs.declared.feed.HexFeed.{HexFeed}
use Rattle.csn_movetext.specs.declared.line.LineEnd.{LineEnd}
use Rattle.csn_movetext.specs.Lines.{LineV, ReadsLine, EndsText, credit, line_of}
use Rattle.csn_movetext.proofs.LineFacts.{few_given, reads_anew, ends_with, if_ok, ends_empty, ends_last, few_bits}
use Rattle.csn_movetext.proofs.StepFacts.{steps_of_end}
use Rattle.csn_movetext.proofs.line.LineText.end_along.Goals as goal

pub end-requires-clause-few : goal.end-requires-clause-few
end-requires-clause-few g c =
    let line : List ℕ = c.self.invariant.0 in
    let reads : ReadsLine (line_of c.self.inside) line = c.self.invariant.1 in
    let few : c.self.inside.given.octets ≤ 65536 = subst (λ n. n ≤ 65536) (sym reads.given) (few_given line) in
    omega (arith, few)

pub invariant_of-self : goal.invariant_of-self
invariant_of-self g c = (
  [],
  reads_anew c.replace-feed.new.dest c.new.result c.end.new.self c.replace-feed.ensures.after c.new.ensures.fed
      c.new.ensures.seen c.end.ensures.octets c.end.ensures.seen c.end.ensures.writes,
)

pub returns-in-Empty-clause-ends : goal.returns-in-Empty-clause-ends
returns-in-Empty-clause-ends g c = record {
  ends =
      let t : LineV = line_of c.self.inside in
      let old : List ℕ = c.args.out.now.items in
      let new : List ℕ = c.end.new.out.items in
      let P : LineV → Type 0 = λ t. IfOk c.end.result (λ e. (line : List ℕ) → ReadsLine t line → EndsText t.form t.desc line e old new) in
      subst P c.self.view_is
      (if_ok c.end.result _ _
      (λ (e : LineEnd) ends. ends_with t 0 0 old new e
      (λ line reads block. ends_empty t.form t.desc line old new e
      (c.in-Empty.ensures.ends line (subst (λ (f : HexFeed). Fed f line) (sym c.replace-feed.ensures.value)
      reads.fed)) block)
      ends)
      c.end.ensures.ends);
  anew = reads_anew c.replace-feed.new.dest c.new.result c.end.new.self c.replace-feed.ensures.after c.new.ensures.fed
      c.new.ensures.seen c.end.ensures.octets c.end.ensures.seen c.end.ensures.writes;
  seen = ap seen_of c.replace-feed.ensures.after ∙ c.new.ensures.seen;
  form = c.end.ensures.form ∙ ap (λ (t : LineV). t.form) c.self.view_is;
  desc = c.end.ensures.desc ∙ ap (λ (t : LineV). t.desc) c.self.view_is;
  err = c.end.ensures.err;
}

pub end-requires-in-Last-clause-within : goal.end-requires-in-Last-clause-within
end-requires-in-Last-clause-within g c =
    let line : List ℕ = c.self.invariant.0 in
    let reads : ReadsLine (line_of c.self.inside) line = c.self.invariant.1 in
    let last : EndsWith line c.in-Last.octet c.in-Last.bits =
    c.in-Last.ensures.ends line (subst (λ (f : HexFeed). Fed f line) (sym c.replace-feed.ensures.value) reads.fed)
    in
    last.few

pub end-requires-in-Last-clause-few : goal.end-requires-in-Last-clause-few
end-requires-in-Last-clause-few g c =
    let line : List ℕ = c.self.invariant.0 in
    let reads : ReadsLine (line_of c.self.inside) line = c.self.invariant.1 in
    let last : EndsWith line c.in-Last.octet c.in-Last.bits =
    c.in-Last.ensures.ends line (subst (λ (f : HexFeed). Fed f line) (sym c.replace-feed.ensures.value) reads.fed)
    in
    few_bits line c.self.inside.given.octets c.in-Last.octet c.in-Last.bits reads.given last

pub invariant_of-self-in-Last : goal.invariant_of-self-in-Last
invariant_of-self-in-Last g c = (
  [],
  reads_anew c.replace-feed.new.dest c.new.result c.end-in-Last.new.self c.replace-feed.ensures.after
      c.new.ensures.fed c.new.ensures.seen c.end-in-Last.ensures.octets c.end-in-Last.ensures.seen
      c.end-in-Last.ensures.writes,
)

pub returns-in-Last-clause-ends : goal.returns-in-Last-clause-ends
returns-in-Last-clause-ends g c = record {
  ends =
      let t : LineV = line_of c.self.inside in
      let old : List ℕ = c.args.out.now.items in
      let new : List ℕ = c.end-in-Last.new.out.items in
      let octet : ℕ = c.in-Last.octet in
      let bits : ℕ = c.in-Last.bits in
      let P : LineV → Type 0 = λ t. IfOk c.end-in-Last.result (λ e. (line : List ℕ) → ReadsLine t line → EndsText t.form t.desc line e old new) in
      subst P c.self.view_is
      (if_ok c.end-in-Last.result _ _
      (λ (e : LineEnd) ends. ends_with t octet bits old new e
      (λ line reads block. ends_last t.form t.desc line old new octet bits e
      (c.in-Last.ensures.ends line (subst (λ (f : HexFeed). Fed f line) (sym c.replace-feed.ensures.value)
      reads.fed)) block)
      ends)
      c.end-in-Last.ensures.ends);
  anew = reads_anew c.replace-feed.new.dest c.new.result c.end-in-Last.new.self c.replace-feed.ensures.after
      c.new.ensures.fed c.new.ensures.seen c.end-in-Last.ensures.octets c.end-in-Last.ensures.seen
      c.end-in-Last.ensures.writes;
  seen = ap seen_of c.replace-feed.ensures.after ∙ c.new.ensures.seen;
  form = c.end-in-Last.ensures.form ∙ ap (λ (t : LineV). t.form) c.self.view_is;
  desc = c.end-in-Last.ensures.desc ∙ ap (λ (t : LineV). t.desc) c.self.view_is;
  err = c.end-in-Last.ensures.err;
}

pub invariant_of-self-in-Fault : goal.invariant_of-self-in-Fault
invariant_of-self-in-Fault g c = (
  [],
  reads_anew c.replace-feed.new.dest c.new.result c.give_up.new.self c.replace-feed.ensures.after
      c.new.ensures.fed c.new.ensures.seen c.give_up.ensures.octets c.give_up.ensures.seen c.give_up.ensures.writes,
)

pub returns-in-Fault-clause-ends : goal.returns-in-Fault-clause-ends
returns-in-Fault-clause-ends g c = record {
  ends = λ line reads_now.
      let reads : ReadsLine (line_of c.self.inside) line = subst (λ (t : LineV). ReadsLine t line) (sym c.self.view_is) reads_now in
      (c.in-Fault.ensures.ends line (subst (λ (f : HexFeed). Fed f line) (sym c.replace-feed.ensures.value) reads.fed), refl);
  anew = reads_anew c.replace-feed.new.dest c.new.result c.give_up.new.self c.replace-feed.ensures.after
      c.new.ensures.fed c.new.ensures.seen c.give_up.ensures.octets c.give_up.ensures.seen c.give_up.ensures.writes;
  seen = ap seen_of c.replace-feed.ensures.after ∙ c.new.ensures.seen;
  form = c.give_up.ensures.form ∙ ap (λ (t : LineV). t.form) c.self.view_is;
  desc = c.give_up.ensures.desc ∙ ap (λ (t : LineV). t.desc) c.self.view_is;
  err = tt;
}

pub end-requires-clause-seen : goal.end-requires-clause-seen
end-requires-clause-seen g c = let reads : ReadsLine (line_of c.self.inside) c.self.invariant.0 = c.self.invariant.1 in reads.few

pub end-requires-in-Last-clause-seen : goal.end-requires-in-Last-clause-seen
end-requires-in-Last-clause-seen g c = let reads : ReadsLine (line_of c.self.inside) c.self.invariant.0 = c.self.invariant.1 in reads.few

pub returns-in-Empty-clause-steps : goal.returns-in-Empty-clause-steps
returns-in-Empty-clause-steps g c =
    let new : LineV = line_of (record { feed = c.replace-feed.new.dest; given = c.end.new.self }) in
    subst (λ (t : LineV). c.end.new.steps + credit new ≤ c.args.steps.now + credit t + 8 * length t.desc.nodes * 9) c.self.view_is
    (steps_of_end _ _ _ 0 (omega arith) c.end.ensures.steps)

pub returns-in-Last-clause-steps : goal.returns-in-Last-clause-steps
returns-in-Last-clause-steps g c =
    let new : LineV = line_of (record { feed = c.replace-feed.new.dest; given = c.end-in-Last.new.self }) in
    let line : List ℕ = c.self.invariant.0 in
    let reads : ReadsLine (line_of c.self.inside) line = c.self.invariant.1 in
    let last : EndsWith line c.in-Last.octet c.in-Last.bits =
    c.in-Last.ensures.ends line (subst (λ (f : HexFeed). Fed f line) (sym c.replace-feed.ensures.value) reads.fed)
    in
    subst (λ (t : LineV). c.end-in-Last.new.steps + credit new ≤ c.args.steps.now + credit t + 8 * length t.desc.nodes * 9) c.self.view_is
    (steps_of_end _ _ _ c.in-Last.bits last.few c.end-in-Last.ensures.steps)

pub returns-in-Fault-clause-steps : goal.returns-in-Fault-clause-steps
returns-in-Fault-clause-steps g c =
    let new : LineV = line_of (record { feed = c.replace-feed.new.dest; given = c.give_up.new.self }) in
    subst (λ (t : LineV). c.give_up.new.steps + credit new ≤ c.args.steps.now + credit t + 8 * length t.desc.nodes * 9) c.self.view_is
    (omega (arith, c.give_up.ensures.steps))
