use Rattle.std.proofs.Common.{◌≡◌, ◌+◌, ◌*◌, slice_get, length, ap, ◌∙◌, arith}
use Rattle.std.specs.Prelude.{slice_index}
use Rattle.std.proofs.lemmas.Option.{slice_get_within}
use Rattle.csn_desc.specs.declared.node.Node.TheVariants.{Choice}
use Rattle.csn_look.proofs.Handing.ReachedParts.{parts_below}
use Rattle.csn_certify.proofs.TableFacts.{table_shared}
use Rattle.csn_certify.proofs.pick_tables.PickTables.shared.Goals as goal

pub bounds-as_slice-place : goal.bounds-as_slice-place
bounds-as_slice-place c =
    let d = c.args.known.now.desc.now in
    let inside = slice_get_within d.nodes c.args.node (Choice c.args.parts.now) c.requires.choice in
    let size = c.requires.before.size in
    let items : length c.as_slice.result.now ≡ length c.args.self.now.numbers = ap length c.as_slice.ensures.value
    ∙ ap (λ v. length v.numbers) c.self.view_is in
    let place = c.place.ensures in
    let less = c.in_ok-other.ensures.before in
    let small = c.requires.octet in
    omega (arith, inside, size, items, place, less, small)

pub returns : goal.returns
returns c =
    let d = c.args.known.now.desc.now in
    let node = c.args.node in
    let other = c.in_ok-other.other in
    let parts = c.args.parts.now in
    let same = c.in_ok-other.ensures in
    let less = same.before in
    let small = c.requires.octet in
    let below = parts_below d node (Choice parts) (length d.nodes) c.requires.known.description c.requires.choice (omega arith) in
    let h = c.requires.before.tables node other parts (omega arith) (omega arith) c.requires.choice same.reached in
    let read : slice_index c.as_slice.result.now c.place.result ≡ slice_index c.args.self.now.numbers (8 * node + other) =
    ap (λ l. slice_index l c.place.result) c.as_slice.ensures.value ∙ ap (λ v. slice_index v.numbers c.place.result)
    c.self.view_is ∙ ap (λ n. slice_index c.args.self.now.numbers n) c.place.ensures in (
      h.0,
      ap (λ n. slice_get c.args.self.now.tables n) read ∙ h.1,
      table_shared d c.args.known.now.look.now parts c.args.octet other c.requires.known.keys below c.requires.octet (omega arith) same.tables h.0 h.2,
    )
