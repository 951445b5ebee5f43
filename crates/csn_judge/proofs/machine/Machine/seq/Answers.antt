use Rattle.std.proofs.Common.{lit<, ◌≡◌, ℕ, ◌+◌, List, ◌∷◌, length, reverse, refl, sym, ◌∙◌, ap, subst, arith, Some}
use Rattle.std.proofs.lemmas.List.{length-reverse}
use Rattle.std.proofs.lemmas.Option.{slice_get_within}
use Rattle.csn_desc.specs.Nodes.{DescV}
use Rattle.csn_desc.specs.declared.moves.Move.TheVariants.{Leave}
use Rattle.csn_desc.specs.declared.node.Node.{Node}
use Rattle.csn_judge.specs.declared.frame.Frame.{Frame}
use Rattle.csn_judge.specs.declared.frame.Frame.TheVariants as frame
use Rattle.csn_judge.specs.Credit.{credit_of}
use Rattle.csn_judge.specs.Turns.{StateV, state_at, state_with, GoesOn}
use Rattle.csn_judge.proofs.Clashes.{one_value}
use Rattle.csn_judge.proofs.GoingOn.{Going, going_none, going_stands, going_fits, going_more}
use Rattle.csn_judge.proofs.PartsRead.{part_begun, going_since}
use Rattle.csn_judge.proofs.Turning.{pushed, GoesOn-along}
use Rattle.csn_judge.proofs.TurningOn.{on_then}
use Rattle.csn_judge.proofs.TurningParts.{next_within, ends_parts, parts_stand}
use Rattle.csn_judge.proofs.machine.Machine.seq.Goals as goal

pub loop-at-init : goal.loop-at-init
loop-at-init g c = (
  refl,
  going_none c.args.self.now.plan.now g.T.Track.takes
      (state_with (frame.Seq c.args.i c.args.at c.args.values) c.args.self.now c.args.source.now) c.args.track.now 0,
)

pub begin-requires : goal.begin-requires
begin-requires g c =
    let part = part_begun c.args.self.now.plan.now g.T.Track.takes c.in-Seq.parts
    (c.node-node.ensures.node ∙ ap (λ n. Some n) c.in-Seq.is) c.part_at-part.ensures c.requires.stands
    c.loop-at.invariant.1 refl in
    omega (arith, part.begins.within)

pub read_whole-requires-clause-node : goal.read_whole-requires-clause-node
read_whole-requires-clause-node g c =
    let part = part_begun c.args.self.now.plan.now g.T.Track.takes c.in-Seq.parts
    (c.node-node.ensures.node ∙ ap (λ n. Some n) c.in-Seq.is) c.part_at-part.ensures c.requires.stands
    c.loop-at.invariant.1 c.begin.ensures in
    omega (arith, part.begins.is_node, ap (λ p. length p.now.nodes) c.loop-at.invariant.0)

pub read_whole-requires-clause-fits : goal.read_whole-requires-clause-fits
read_whole-requires-clause-fits g c =
    going_fits c.args.self.now.plan.now g.T.Track.takes g.T.Track.fits g.T.Track.keeps
    (ap (λ p. p.now) c.loop-at.invariant.0) c.loop-at.invariant.1 c.requires.stands c.requires.fits

pub push-requires : goal.push-requires
push-requires g c =
    let part = part_begun c.args.self.now.plan.now g.T.Track.takes c.in-Seq.parts
    (c.node-node.ensures.node ∙ ap (λ n. Some n) c.in-Seq.is) c.part_at-part.ensures c.requires.stands
    c.loop-at.invariant.1 c.begin.ensures in
    (lit< tt, omega (arith, part.begins.room, length-reverse c.loop-at.self.frames.items, ap (λ f. length f.items) c.read_whole.ensures.frames))

pub returns-then-not-read_whole-clause-turns : goal.returns-then-not-read_whole-clause-turns
returns-then-not-read_whole-clause-turns g c =
    let d : DescV = c.args.self.now.plan.now in
    let part = part_begun d g.T.Track.takes c.in-Seq.parts (c.node-node.ensures.node ∙ ap (λ n. Some n) c.in-Seq.is)
    c.part_at-part.ensures c.requires.stands c.loop-at.invariant.1 c.begin.ensures in
    let kept = c.read_whole.ensures.machine c.if-not-read_whole.true in
    let begun = going_since d g.T.Track.takes (c.read_whole.ensures.same c.if-not-read_whole.true) part.going in
    let first : StateV = state_with (frame.Seq c.args.i c.args.at c.args.values) c.args.self.now c.args.source.now in
    let frames = pushed c.read_whole.new.self.frames.items (frame.Seq c.args.i (c.loop-at.at + 1) c.args.values)
    c.push.ensures.items ∙ ap (λ f. frame.Seq c.args.i (c.loop-at.at + 1) c.args.values ∷ reverse f.items)
    c.read_whole.ensures.frames in
    λ stack done stands.
    let P : g.row.T.Denot → Type 0 = λ u. GoesOn d g.T.Track.takes first
    (record {
      frames = frame.Begin c.part_at-part.result ∷ reverse c.push.new.self.items;
      values =
          c.read_whole.new.self.values.items;
      pace = c.read_whole.new.self.pace;
      coming = c.read_whole.new.source;
    })
    c.args.track.now u stack done in
    subst P (sym (c.read_whole.ensures.untold c.if-not-read_whole.true))
    (GoesOn-along d g.T.Track.takes c.args.track.now c.args.self.now.values.items c.args.self.now.pace
    c.read_whole.new.source (ap (λ (l : List Frame). frame.Begin c.part_at-part.result ∷ l) frames)
    (ap (λ m. m.values.items) kept) (ap (λ m. m.pace) kept) (begun.on stack done stands))

pub returns-then-not-read_whole-clause-pays : goal.returns-then-not-read_whole-clause-pays
returns-then-not-read_whole-clause-pays g c =
    let d : DescV = c.args.self.now.plan.now in
    let part = part_begun d g.T.Track.takes c.in-Seq.parts (c.node-node.ensures.node ∙ ap (λ n. Some n) c.in-Seq.is)
    c.part_at-part.ensures c.requires.stands c.loop-at.invariant.1 c.begin.ensures in
    let kept = c.read_whole.ensures.machine c.if-not-read_whole.true in
    let bits = length c.read_whole.new.source.bits in
    let N = length d.nodes in
    let frames = pushed c.read_whole.new.self.frames.items (frame.Seq c.args.i (c.loop-at.at + 1) c.args.values)
    c.push.ensures.items ∙ ap (λ f. frame.Seq c.args.i (c.loop-at.at + 1) c.args.values ∷ reverse f.items)
    c.read_whole.ensures.frames in
    let behind : List Frame = frame.Begin c.part_at-part.result ∷ frame.Seq c.args.i (c.loop-at.at + 1) c.args.values ∷ reverse c.loop-at.self.frames.items in
    let same = ap (λ (l : List Frame). credit_of N (frame.Begin c.part_at-part.result ∷ l)
    c.read_whole.new.self.pace bits) frames ∙ ap (λ m. credit_of N behind m.pace bits) kept
    ∙ ap (λ (l : List ℕ). credit_of N behind c.begin.new.self (length l)) (c.read_whole.ensures.same c.if-not-read_whole.true).bits in
    (omega (arith, part.paid, same, c.node-node.ensures.step), omega (arith, part.paid, same))

pub loop-at-preserved : goal.loop-at-preserved
loop-at-preserved g c =
    let d : DescV = c.args.self.now.plan.now in
    let same = ap (λ p. p.now) c.loop-at.invariant.0 in
    let part = part_begun d g.T.Track.takes c.in-Seq.parts (c.node-node.ensures.node ∙ ap (λ n. Some n) c.in-Seq.is)
    c.part_at-part.ensures c.requires.stands c.loop-at.invariant.1 c.begin.ensures in
    let behind : List Frame = frame.Seq c.args.i (c.loop-at.at + 1) c.args.values ∷ reverse c.loop-at.self.frames.items in
    let pays = c.read_whole.ensures.pays c.if-not-read_whole.false behind in
    let read = going_more d g.T.Track.takes (state_at behind c.read_whole.new.self c.read_whole.new.source) c.read_whole.new.track 0 same part.going
    (c.read_whole.ensures.turns c.if-not-read_whole.false behind (going_stands d g.T.Track.takes same part.going c.requires.stands))
    (omega (arith, pays)) (omega (arith, pays)) in
    let P : List Frame → Type 0 =
    λ l. Going d g.T.Track.takes (state_with (frame.Seq c.args.i c.args.at c.args.values)
    c.args.self.now c.args.source.now) (state_at (frame.Seq c.args.i (c.loop-at.at + 1) c.args.values ∷ reverse l)
    c.read_whole.new.self c.read_whole.new.source) c.args.track.now c.read_whole.new.track 0 0 in
    (c.read_whole.ensures.plan ∙ c.loop-at.invariant.0, subst P (sym (ap (λ f. f.items) c.read_whole.ensures.frames)) read)

pub returns-clause-turns : goal.returns-clause-turns
returns-clause-turns g c =
    let d : DescV = c.args.self.now.plan.now in
    let here = c.node-node.ensures.node ∙ ap (λ n. Some n) c.in-Seq.is in
    let going = c.loop-at.invariant.1 in
    let now = going_stands d g.T.Track.takes refl going c.requires.stands in
    let all : c.loop-at.at ≡ length c.in-Seq.parts =
    omega (arith, c.loop-at-test.false, c.len.ensures.len, next_within d c.in-Seq.parts here now.stands.shows) in
    λ stack done stands.
    let on = going.on stack done stands in
    on_then d g.T.Track.takes on
    (GoesOn-along d g.T.Track.takes c.loop-at.track c.loop-at.self.values.items c.loop-at.self.pace c.loop-at.source refl c.truncate.ensures.items refl
    (ends_parts d g.T.Track.takes c.loop-at.track c.loop-at.self.values.items c.loop-at.self.pace c.loop-at.source c.in-Seq.parts here all
    (subst (λ (n : Node). g.T.Track.takes c.loop-at.track Leave n c.step.new.self) c.in-Seq.is c.step.ensures)
    c.requires.stands.known on.stands))

pub node-node-requires : goal.node-node-requires
node-node-requires g c =
    let on = parts_stand c.args.self.now.plan.now c.requires.stands.stands.shows in
    slice_get_within _ _ _ on.has.at

pub unreachable-requires : goal.unreachable-requires
unreachable-requires g c =
    let on = parts_stand c.args.self.now.plan.now c.requires.stands.stands.shows in
    c.in_default.not-Seq on.parts (one_value c.node-node.ensures.node on.has.at)
