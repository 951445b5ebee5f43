use Rattle.std.proofs.Common.{sym, subst}
use Rattle.csn_bits.specs.Numbers.{low_bits}
use Rattle.csn_desc.specs.declared.moves.Move.{Move}
use Rattle.csn_desc.specs.declared.node.Node.{Node}
use Rattle.csn_judge.specs.Told.{BitsTold}
use Rattle.csn_fields.specs.declared.track.FieldTrack.{FieldTrack}
use Rattle.csn_fields.specs.Places.{PlacesV}
use Rattle.csn_fields.specs.Tracks.{Takes}
use Rattle.csn_fields.proofs.TrackFacts.{bits_told}
use Rattle.csn_fields.proofs.track.FieldTrackTrack.bits.Goals as goal

pub returns : goal.returns
returns g c =
    let takes : FieldTrack g.row.E.Denot → Move → Node → FieldTrack g.row.E.Denot → Type 0 =
    λ old move node new. Takes {S = g.row.E.Denot} g.E.Events.tells old.places old.events move node new.places new.events in
    let P : PlacesV → Type 0 = λ p. BitsTold {S = FieldTrack g.row.E.Denot} takes c.args._node.now
    (low_bits c.args.count c.args.number) c.args.self.now
    (record { places = p; events = c.args.self.now.events }) in
    subst P (sym c.take.ensures)
    (bits_told g.E.Events.tells takes (λ p e. record { places = p; events = e }) (λ p q e move node h. h) c.args._node.now
    (low_bits c.args.count c.args.number) c.args.self.now.places c.args.self.now.events)
