use Rattle.std.proofs.Common.{◌≡◌, refl}
use Rattle.csn_bits.specs.Numbers.{low_bits}
use Rattle.csn_desc.specs.declared.moves.Move.{Move}
use Rattle.csn_desc.specs.declared.node.Node.{Node}
use Rattle.csn_fields.specs.declared.track.FieldTrack.{FieldTrack}
use Rattle.csn_fields.specs.declared.track.WholeTrack.{WholeTrack}
use Rattle.csn_fields.specs.Tracks.{Takes}
use Rattle.csn_fields.proofs.TrackFacts.{bits_within}
use Rattle.csn_fields.proofs.track.WholeTrackTrack.bits.Goals as goal

pub returns : goal.returns
returns g c =
    let Inner : Type 0 = FieldTrack g.row.E.Denot in
    let Outer : Type 0 = WholeTrack g.row.E.Denot in
    let takes : Inner → Move → Node → Inner → Type 0 =
    λ old move node new. Takes {S = g.row.E.Denot} g.E.Events.tells old.places old.events move node new.places new.events in
    let holds : Outer → Move → Node → Outer → Type 0 =
    λ old move node new. Takes {S = g.row.E.Denot} g.E.Events.tells old.fields.places old.fields.events move node new.fields.places new.fields.events
    × (new.alternatives.now ≡ old.alternatives.now) in
    bits_within takes holds (λ s. record { alternatives = c.args.self.now.alternatives; fields = s }) (λ s t move node h. (h, refl)) c.args.node.now
    (low_bits c.args.count c.args.number) c.args.self.now.fields c.bits.new.self c.bits.ensures
