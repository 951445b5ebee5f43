use Rattle.std.proofs.Common.{◌≡◌, ◌+◌, ℕ, refl, sym, ap, subst, ◌∙◌, arith, Some}
use Rattle.std.specs.Prelude.{option_copied}
use Rattle.csn_desc.specs.declared.moves.Move.{Move}
use Rattle.csn_desc.specs.declared.node.Node.{Node}
use Rattle.csn_fields.specs.declared.leaf.Role.{Role}
use Rattle.csn_fields.specs.declared.track.WholeTrack.{WholeTrack}
use Rattle.csn_fields.specs.Events.{Told}
use Rattle.csn_fields.specs.Outlines.{filled, outline_at}
use Rattle.csn_fields.specs.Places.{PlacesV, role_in}
use Rattle.csn_fields.specs.Tracks.{Takes}
use Rattle.csn_fields.proofs.WholeFacts.{whole_told}
use Rattle.csn_fields.proofs.track.WholeTrackTrack.whole.Goals as goal

pub returns-clause-told : goal.returns-clause-told
returns-clause-told g c = λ yes.
    let Outer : Type 0 = WholeTrack g.row.E.Denot in
    let holds : Outer → Move → Node → Outer → Type 0 =
    λ old move node new. Takes {S = g.row.E.Denot} g.E.Events.tells old.fields.places old.fields.events move node new.fields.places new.fields.events
    × (new.alternatives.now ≡ old.alternatives.now) in
    let old : PlacesV = c.args.self.now.fields.places in
    let marks = c.in-Some.outline.now in
    let there : outline_at c.args.self.now.alternatives.now.outlines c.args._i ≡ Some marks =
    sym c.outline.ensures ∙ ap option_copied c.in-Some.is in
    let end : c.place-end.result ≡ old.place + c.args._layout.width =
    c.place-end.ensures ∙ ap (λ (s : PlacesV). s.place) c.pass-role.ensures.places in
    let P : Role → Type 0 = λ r. Told {S = g.row.E.Denot} g.E.Events.tells (filled r marks c.place-end.result c.args._number)
    c.args.self.now.fields.events c.tell.new.events in
    let Q : ℕ → Type 0 = λ e. Told {S = g.row.E.Denot} g.E.Events.tells (filled (role_in old.numbers c.args._i old.nodes) marks e c.args._number)
    c.args.self.now.fields.events c.tell.new.events in
    whole_told c.args._plan.now g.E.Events.tells holds
    (λ p e. record { alternatives = c.args.self.now.alternatives; fields = record { places = p; events = e } })
    (λ p q e f move node h. (h, refl)) c.args._i c.args._layout.width c.args._number marks old c.pass-role.new.self
    c.args.self.now.fields.events c.tell.new.events (c.requires.fits c.args._i marks there)
    (omega (arith, c.if-not-has_room.ensures.nodes refl, c.len.ensures)) (c.if-not-has_room.ensures.bits refl) c.pass-role.ensures.places
    (subst Q end (subst P c.pass-role.ensures.role c.tell.ensures))
