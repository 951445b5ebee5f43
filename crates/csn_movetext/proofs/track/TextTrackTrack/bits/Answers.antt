use Rattle.std.proofs.Common.{Bool, false, sym, subst, ap, ◌∙◌, OnOk}
use Rattle.csn_bits.specs.Numbers.{low_bits}
use Rattle.csn_judge.specs.Told.{BitsTold}
use Rattle.csn_movetext.specs.Kept.{KeptV, kept_of}
use Rattle.csn_json.specs.declared.form.TreeForm.{TreeForm}
use Rattle.csn_movetext.specs.Track.{TrackV, TookAll, Writes}
use Rattle.csn_movetext.proofs.TrackFacts.{view, told_still, told_taken}
use Rattle.csn_movetext.proofs.track.TextTrackTrack.bits.Goals as goal

pub returns-then-self : goal.returns-then-self
returns-then-self c = told_still c.args.self.now c.args.node.now (low_bits c.args.count c.args.number)
    (sym (ap (λ (t : TrackV). t.refused) c.self.view_is) ∙ c.if-self.true)

pub returns-then-count-gt0 : goal.returns-then-count-gt0
returns-then-count-gt0 c =
    let old : KeptV = kept_of c.self.inside.writing in
    let new : KeptV = kept_of c.take_bits.new.writing in
    let P : TrackV → Type 0 = λ t. BitsTold Writes c.args.node.now (low_bits c.args.count c.args.number) t
    (view c.self.inside.openings.now new c.is_err-self-inside.result) in
    let Q : Bool → Type 0 = λ b. BitsTold Writes c.args.node.now (low_bits c.args.count c.args.number)
    (view c.self.inside.openings.now old false) (view c.self.inside.openings.now new b) in
    let F : TreeForm → Type 0 = λ f. OnOk c.take_bits.result (TookAll f c.args.node.now (low_bits c.args.count c.args.number) old new) in
    subst P (ap (λ b. view c.self.inside.openings.now old b) (sym c.if-self.false) ∙ c.self.view_is)
    (subst Q (sym c.is_err-self-inside.ensures.value)
    (told_taken c.take_bits.result c.self.inside.openings.now old new c.args.node.now c.args.count c.args.number
    c.if-count-gt0.true c.take_bits.ensures.extends (subst F c.form-form.ensures c.take_bits.ensures.took)))
