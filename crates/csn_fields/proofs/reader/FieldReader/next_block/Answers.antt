use Rattle.std.proofs.Common.{sym, subst}
use Rattle.csn_desc.specs.declared.moves.Move.{Move}
use Rattle.csn_desc.specs.declared.node.Node.{Node}
use Rattle.csn_fields.specs.declared.track.FieldTrack.{FieldTrack}
use Rattle.csn_fields.specs.declared.refusal.Ended.{Ended}
use Rattle.csn_fields.specs.Tracks.{Takes}
use Rattle.csn_fields.specs.Reading.{EndsTold}
use Rattle.csn_fields.proofs.ReadingFacts.{ends_told, ends_numbers, reads_again}
use Rattle.csn_fields.proofs.reader.FieldReader.next_block.Goals as goal

pub returns-clause-ends : goal.returns-clause-ends
returns-clause-ends g c =
    let takes : FieldTrack g.row.E.Denot → Move → Node → FieldTrack g.row.E.Denot → Type 0 =
    λ old move node new. Takes {S = g.row.E.Denot} g.E.Events.tells old.places old.events move node new.places new.events in
    λ b events t.
    let P : Ended → Type 0 = λ e. EndsTold {S = g.row.E.Denot} g.E.Events.tells c.args.self.now.follower.desc b events c.args.self.now.track.events
    c.next_block_to-judged.new.track.events e in
    subst P (sym c.ended_by-ended.ensures)
    (ends_told g.E.Events.tells (λ s. s.places) (λ s. s.events) takes (λ s u move node h. h) c.args.self.now.track c.next_block_to-judged.new.track
    c.args.self.now.follower c.next_block_to-judged.result c.next_block_to-judged.ensures.ends c.next_block_to-judged.ensures.stays
    (record { have = c.trees_have_moves.ensures.some; one = c.trees_have_moves.ensures.one; bits = c.meanings_are_bits.ensures.meant })
    c.innermost.result c.innermost.ensures b events t)

pub returns-clause-tells : goal.returns-clause-tells
returns-clause-tells g c =
    let takes : FieldTrack g.row.E.Denot → Move → Node → FieldTrack g.row.E.Denot → Type 0 =
    λ old move node new. Takes {S = g.row.E.Denot} g.E.Events.tells old.places old.events move node new.places new.events in
    λ b events t.
    reads_again c.args.self.now.follower c.next_block_to-judged.new.self c.args.self.now.track.places c.restart.new.self
    c.next_block_to-judged.new.track.places.numbers b events c.next_block_to-judged.ensures.desc c.next_block_to-judged.ensures.follows
    c.next_block_to-judged.ensures.opened c.restart.ensures
    (ends_numbers g.E.Events.tells (λ s. s.places) (λ s. s.events) takes
    (λ s u move node h. h) c.args.self.now.track c.next_block_to-judged.new.track
    c.args.self.now.follower c.next_block_to-judged.result c.next_block_to-judged.ensures.ends c.next_block_to-judged.ensures.stays b events t) t
