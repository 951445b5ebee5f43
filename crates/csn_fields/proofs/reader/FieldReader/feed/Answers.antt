use Rattle.std.proofs.Common.{take}
use Rattle.csn_bits.specs.Octets.{bits_of_octets}
use Rattle.csn_desc.specs.declared.moves.Move.{Move}
use Rattle.csn_desc.specs.declared.node.Node.{Node}
use Rattle.csn_fields.specs.declared.track.FieldTrack.{FieldTrack}
use Rattle.csn_fields.specs.Tracks.{Takes}
use Rattle.csn_fields.proofs.ReadingFacts.{reads_on}
use Rattle.csn_fields.proofs.reader.FieldReader.feed.Goals as goal

pub returns-clause-tells : goal.returns-clause-tells
returns-clause-tells g c =
    let takes : FieldTrack g.row.E.Denot → Move → Node → FieldTrack g.row.E.Denot → Type 0 =
    λ old move node new. Takes {S = g.row.E.Denot} g.E.Events.tells old.places old.events move node new.places new.events in
    λ b events t. reads_on g.E.Events.tells (λ s. s.places) (λ s. s.events) takes (λ s u move node h. h) c.args.self.now.track c.feed_to.new.track
    c.args.self.now.follower c.feed_to.new.self b (take c.args.bits
    (bits_of_octets c.args.piece.now)) c.feed_to.ensures.desc c.feed_to.ensures.follows events t

pub returns-clause-says : goal.returns-clause-says
returns-clause-says g c = λ b events t. c.feed_to.ensures.says b t.moves t.follows
