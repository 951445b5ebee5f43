use Rattle.std.proofs.Common.{Bool, false, sym, subst, ap, ◌∙◌}
use Rattle.csn_bits.specs.Numbers.{low_bits}
use Rattle.csn_judge.specs.Told.{WholeTold}
use Rattle.csn_movetext.specs.Kept.{KeptV, kept_of}
use Rattle.csn_movetext.specs.Openings.{OpeningsV, HasOpenings}
use Rattle.csn_movetext.specs.Track.{TrackV, Writes}
use Rattle.csn_movetext.proofs.TrackFacts.{view}
use Rattle.csn_movetext.proofs.WholeFacts.{told_at_once}
use Rattle.csn_movetext.proofs.track.TextTrackTrack.whole.Goals as goal

pub returns-in-Some-clause-told : goal.returns-in-Some-clause-told
returns-in-Some-clause-told c =
    let old : KeptV = kept_of c.self.inside.writing in
    let new : KeptV = kept_of c.whole.new.self in
    let openings : OpeningsV = c.self.inside.openings.now in
    let P : TrackV → Type 0 = λ t. WholeTold c.args._plan.now Writes c.args._i
    (low_bits c.args._layout.width c.args._number) t (view openings new c.is_err-self-inside.result) in
    let Q : Bool → Type 0 = λ b. WholeTold c.args._plan.now Writes c.args._i
    (low_bits c.args._layout.width c.args._number) (view openings old false) (view openings new b) in
    let has : HasOpenings c.args._plan.now openings = subst (λ o. HasOpenings c.args._plan.now o)
    (sym (ap (λ (t : TrackV). t.openings) c.self.view_is)) c.requires.fits in
    λ yes.
    subst P (ap (λ b. view openings old b) (sym c.if-self.false) ∙ c.self.view_is)
    (subst Q (sym c.is_err-self-inside.ensures.value)
    (told_at_once c.whole.result openings c.args._plan.now old new c.args._i c.args._layout.width c.args._number
    c.in-Some.template.now c.moves_write_their_tree.ensures.node has
    (sym c.in-Some.ensures) (c.is_open.ensures.held c.if-is_open.false) (c.is_open.ensures.long c.if-is_open.false)
    c.whole.ensures.extends c.whole.ensures.whole))
