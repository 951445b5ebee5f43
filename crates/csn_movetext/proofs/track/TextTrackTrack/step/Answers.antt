use Rattle.std.proofs.Common.{Bool, false, sym, subst, ap, ◌∙◌}
use Rattle.csn_movetext.specs.Kept.{KeptV, kept_of}
use Rattle.csn_movetext.specs.Track.{TrackV, Writes}
use Rattle.csn_movetext.proofs.TrackFacts.{view, still, writes_move}
use Rattle.csn_movetext.proofs.track.TextTrackTrack.step.Goals as goal

pub returns-then-self : goal.returns-then-self
returns-then-self c = still c.args.self.now c.args.step c.args.node.now (sym (ap (λ (t : TrackV). t.refused) c.self.view_is) ∙ c.if-self.true)

pub returns : goal.returns
returns c =
    let old : KeptV = kept_of c.self.inside.writing in
    let new : KeptV = kept_of c.write_move.new.writing in
    let P : TrackV → Type 0 = λ t. Writes t c.args.step c.args.node.now (view c.self.inside.openings.now new c.is_err-self-inside.result) in
    let Q : Bool → Type 0 = λ b. Writes (view c.self.inside.openings.now old false) c.args.step c.args.node.now (view c.self.inside.openings.now new b) in
    subst P (ap (λ b. view c.self.inside.openings.now old b) (sym c.if-self.false) ∙ c.self.view_is)
    (subst Q (sym c.is_err-self-inside.ensures.value)
    (writes_move c.write_move.result c.self.inside.openings.now old new c.args.step c.args.node.now c.write_move.ensures.extends c.write_move.ensures.moves))
