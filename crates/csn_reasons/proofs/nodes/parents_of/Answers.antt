use Rattle.std.proofs.Common.{◌≡◌, ◌+◌, length, sym, ap, subst, arith}
use Rattle.csn_look.proofs.Handing.ReachedParts.{written_back}
use Rattle.csn_reasons.proofs.Ways.{AreNoted, all_noted, more_noted}
use Rattle.csn_reasons.proofs.nodes.parents_of.Goals as goal

pub loop-number-preserved : goal.loop-number-preserved
loop-number-preserved c =
    let d = c.args.desc.now in
    let items = c.loop-number.parents.items in
    let new = c.note_parts.new.parents in
    let value = c.as_mut_slice.ensures.value in
    let size : length new ≡ length items = omega (arith, c.note_parts.ensures.same, ap length value) in
    let len : c.loop-number.parents.len ≡ length items = omega (arith, c.loop-number.parents.ok.0) in
    let before = subst (λ l. AreNoted d.nodes c.loop-number.number l) (sym value) c.loop-number.invariant in
    subst (λ l. AreNoted d.nodes (c.loop-number.number + 1) l) (sym (written_back new items c.loop-number.parents.len size len))
    (more_noted d c.loop-number.number c.node.result.now c.as_mut_slice.result.now new c.len.ensures.description c.node.ensures before
    c.note_parts.ensures.same c.note_parts.ensures.noted c.note_parts.ensures.others)

pub returns : goal.returns
returns c =
    all_noted c.args.desc.now c.loop-number.number c.loop-number.parents.items c.len.ensures.description
    (omega (arith, c.loop-number-test.false, c.len-number-end.ensures.len)) c.loop-number.invariant
