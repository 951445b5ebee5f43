use Rattle.std.proofs.Common.{◌≡◌, [], ◌∷◌, length, reverse, List, refl, sym, ◌∙◌, ap, subst, arith}
use Rattle.csn_judge.specs.declared.frame.Frame.{Frame}
use Rattle.csn_judge.specs.declared.frame.Frame.TheVariants as frame
use Rattle.csn_judge.specs.declared.turn.Turn.TheVariants.{Moved}
use Rattle.csn_judge.specs.Credit.{credit_of}
use Rattle.csn_judge.specs.Turns.{state_at, state_of, state_then, passed_choice, passed_label, Turns}
use Rattle.csn_judge.proofs.Popping.{popped, popped_next, popped_stands, popped_turn, stopped_pays}
use Rattle.csn_judge.proofs.Turning.{stays_as}
use Rattle.csn_judge.proofs.TurningOn.{popped_frame, no_items, stops_behind, choice_within, label_within}
use Rattle.csn_judge.proofs.machine.Machine.turn.Goals as goal

pub returns-in_default-clause-turns : goal.returns-in_default-clause-turns
returns-in_default-clause-turns g c =
    let none : c.args.self.now.frames.items ≡ [] = no_items c.args.self.now.frames.items (λ some. let h = c.in_default.ensures.variant.1 some in cc) in
    let gone : c.pop.new.self.items ≡ [] = ap (λ v. v.items) (c.in_default.ensures.empty) ∙ none in
    let P : List Frame → Type 0 = λ l. Turns c.args.self.now.plan.now g.T.Track.takes
    (record {
      frames = reverse l;
      values = c.args.self.now.values.items;
      pace = c.args.self.now.pace;
      coming =
          c.args.source.now;
    }) (record {
      frames = reverse c.pop.new.self.items;
      values =
          c.args.self.now.values.items;
      pace = c.args.self.now.pace;
      coming = c.args.source.now;
    })
    c.args.track.now c.args.track.now c.stopped.result in
    let Q : List Frame → Type 0 = λ l. Turns c.args.self.now.plan.now g.T.Track.takes
    (record {
      frames = [];
      values = c.args.self.now.values.items;
      pace = c.args.self.now.pace;
      coming =
          c.args.source.now;
    }) (record {
      frames = reverse l;
      values = c.args.self.now.values.items;
      pace =
          c.args.self.now.pace;
      coming = c.args.source.now;
    }) c.args.track.now c.args.track.now c.stopped.result in
    subst P (sym none)
    (subst Q (sym gone) (stops_behind c.args.self.now.plan.now g.T.Track.takes c.args.track.now
    c.args.self.now.values.items c.args.self.now.pace c.args.source.now c.stopped.result c.stopped.ensures
    c.requires.stands.known))

pub returns-in_default-clause-pays : goal.returns-in_default-clause-pays
returns-in_default-clause-pays g c =
    let same = ap (λ v. credit_of (length c.args.self.now.plan.now.nodes) (reverse v.items) c.args.self.now.pace
    (length c.args.source.now.bits)) (sym c.in_default.ensures.empty) in
    stopped_pays c.args.source.now c.args.steps.now c.stopped.result same c.stopped.ensures

pub returns-in-Begin : goal.returns-in-Begin
returns-in-Begin g c = record {
  turns =
      let is = popped_frame c.pop.new.self.items c.in-Some.ensures.items c.in-Begin.is in
      let P : List Frame → Type 0 = λ l. Turns c.args.self.now.plan.now g.T.Track.takes
      (record {
        frames = l;
        values = c.args.self.now.values.items;
        pace = c.args.self.now.pace;
        coming =
            c.args.source.now;
      }) (record {
        frames = frame.Begin c.in-Begin.node ∷ reverse c.pop.new.self.items;
        values =
            c.args.self.now.values.items;
        pace = c.args.self.now.pace;
        coming = c.args.source.now;
      })
      c.args.track.now c.args.track.now Moved in
      subst P (sym is) (λ stack done stands. stays_as c.args.self.now.plan.now g.T.Track.takes c.args.track.now _ stands);
  pays =
      let same = ap (λ (l : List Frame). credit_of (length c.args.self.now.plan.now.nodes) l c.args.self.now.pace
      (length c.args.source.now.bits)) (popped_frame c.pop.new.self.items c.in-Some.ensures.items c.in-Begin.is)
      in
      (omega (arith, same), omega (arith, same));
  plan = refl;
}

pub returns-in-Leaf : goal.returns-in-Leaf
returns-in-Leaf g c = let t =
    popped_turn (popped c.args.self.now c.pop.new.self.items c.in-Some.ensures.items c.in-Leaf.is)
    c.args.source.now g.T.Track.takes (state_of c.read_on.new.self c.read_on.new.source)
    c.args.track.now c.read_on.new.track c.args.steps.now c.read_on.new.steps c.read_on.result c.read_on.ensures.turns
    c.read_on.ensures.pays in record { turns = t.turns; pays = t.pays; plan = c.read_on.ensures.plan }

pub returns-in-Counted : goal.returns-in-Counted
returns-in-Counted g c = let t =
    popped_turn (popped c.args.self.now c.pop.new.self.items c.in-Some.ensures.items c.in-Counted.is)
    c.args.source.now g.T.Track.takes (state_of c.count.new.self c.count.new.source)
    c.args.track.now c.count.new.track c.args.steps.now c.count.new.steps c.count.result c.count.ensures.turns
    c.count.ensures.pays in record { turns = t.turns; pays = t.pays; plan = c.count.ensures.plan }

pub seq-requires : goal.seq-requires
seq-requires g c =
    record {
      stands = popped_stands (popped c.args.self.now c.pop.new.self.items c.in-Some.ensures.items c.in-Seq.is)
          c.args.source.now c.requires.stands;
      fits = c.requires.fits;
    }

pub returns-in-Seq : goal.returns-in-Seq
returns-in-Seq g c = let t =
    popped_next (popped c.args.self.now c.pop.new.self.items c.in-Some.ensures.items c.in-Seq.is)
    c.args.source.now g.T.Track.takes (state_then c.seq.result c.seq.new.self c.seq.new.source)
    c.args.track.now c.seq.new.track c.args.steps.now c.seq.new.steps c.seq.result c.seq.ensures.turns
    c.seq.ensures.pays in record { turns = t.turns; pays = t.pays; plan = c.seq.ensures.plan }

pub returns-in-Trunc : goal.returns-in-Trunc
returns-in-Trunc g c = let t =
    popped_next (popped c.args.self.now c.pop.new.self.items c.in-Some.ensures.items c.in-Trunc.is)
    c.args.source.now g.T.Track.takes (state_then c.trunc.result c.trunc.new.self c.trunc.new.source)
    c.args.track.now c.trunc.new.track c.args.steps.now c.trunc.new.steps c.trunc.result c.trunc.ensures.turns
    c.trunc.ensures.pays in record { turns = t.turns; pays = t.pays; plan = c.trunc.ensures.plan }

pub returns-in-Open : goal.returns-in-Open
returns-in-Open g c = let t =
    popped_next (popped c.args.self.now c.pop.new.self.items c.in-Some.ensures.items c.in-Open.is)
    c.args.source.now g.T.Track.takes (state_then c.choose_on.result c.choose_on.new.self c.choose_on.new.source)
    c.args.track.now c.choose_on.new.track c.args.steps.now c.choose_on.new.steps c.choose_on.result
    c.choose_on.ensures.turns c.choose_on.ensures.pays in record {
      turns = t.turns;
      pays = t.pays;
      plan =
          c.choose_on.ensures.plan;
    }

pub pass-requires : goal.pass-requires
pass-requires g c = record {
  known = c.requires.stands.known;
  node = choice_within c.args.self.now.plan.now
      (popped_stands (popped c.args.self.now c.pop.new.self.items c.in-Some.ensures.items c.in-Choice.is)
      c.args.source.now c.requires.stands).stands.shows;
}

pub returns-in-Choice : goal.returns-in-Choice
returns-in-Choice g c =
    let t = popped_turn (popped c.args.self.now c.pop.new.self.items c.in-Some.ensures.items c.in-Choice.is)
    c.args.source.now g.T.Track.takes (state_at (reverse c.pop.new.self.items) c.args.self.now c.args.source.now)
    c.args.track.now c.pass.new.track c.args.steps.now c.pass.new.steps c.pass.result
    (c.pass.ensures.turns (frame.Choice c.in-Choice.node) (passed_choice refl))
    (c.pass.ensures.pays (frame.Choice c.in-Choice.node) (passed_choice refl)) in
    record { turns = t.turns; pays = t.pays; plan = refl }

pub returns-in-Times : goal.returns-in-Times
returns-in-Times g c = let t =
    popped_next (popped c.args.self.now c.pop.new.self.items c.in-Some.ensures.items c.in-Times.is)
    c.args.source.now g.T.Track.takes (state_then c.times.result c.times.new.self c.args.source.now)
    c.args.track.now c.times.new.track c.args.steps.now c.times.new.steps c.times.result c.times.ensures.turns
    c.times.ensures.pays in record { turns = t.turns; pays = t.pays; plan = c.times.ensures.plan }

pub returns-in-Many : goal.returns-in-Many
returns-in-Many g c = let t =
    popped_next (popped c.args.self.now c.pop.new.self.items c.in-Some.ensures.items c.in-Many.is)
    c.args.source.now g.T.Track.takes (state_then c.many.result c.many.new.self c.many.new.source)
    c.args.track.now c.many.new.track c.args.steps.now c.many.new.steps c.many.result c.many.ensures.turns
    c.many.ensures.pays in record { turns = t.turns; pays = t.pays; plan = c.many.ensures.plan }

pub returns-in-Window : goal.returns-in-Window
returns-in-Window g c = let t =
    popped_turn (popped c.args.self.now c.pop.new.self.items c.in-Some.ensures.items c.in-Window.is)
    c.args.source.now g.T.Track.takes (state_of c.window.new.self c.window.new.source)
    c.args.track.now c.window.new.track c.args.steps.now c.window.new.steps c.window.result c.window.ensures.turns
    c.window.ensures.pays in record { turns = t.turns; pays = t.pays; plan = c.window.ensures.plan }

pub pass-requires-in-Named : goal.pass-requires-in-Named
pass-requires-in-Named g c = record {
  known = c.requires.stands.known;
  node = label_within c.args.self.now.plan.now
      (popped_stands (popped c.args.self.now c.pop.new.self.items c.in-Some.ensures.items c.in-Named.is)
      c.args.source.now c.requires.stands).stands.shows;
}

pub returns-in-Named : goal.returns-in-Named
returns-in-Named g c =
    let t = popped_turn (popped c.args.self.now c.pop.new.self.items c.in-Some.ensures.items c.in-Named.is)
    c.args.source.now g.T.Track.takes (state_at (reverse c.pop.new.self.items) c.args.self.now c.args.source.now)
    c.args.track.now c.pass-in-Named.new.track c.args.steps.now c.pass-in-Named.new.steps c.pass-in-Named.result
    (c.pass-in-Named.ensures.turns (frame.Named c.in-Named.node) (passed_label refl))
    (c.pass-in-Named.ensures.pays (frame.Named c.in-Named.node) (passed_label refl)) in
    record { turns = t.turns; pays = t.pays; plan = refl }
