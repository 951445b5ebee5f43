use Rattle.std.proofs.Common.{◌≡◌, ◌+◌, ◌<◌, length, Some, refl, sym, ap, subst, ◌∙◌, arith}
use Rattle.std.specs.Prelude.{slice_get}
use Rattle.std.proofs.lemmas.Option.{slice_get_read}
use Rattle.csn_look.specs.Steps.{KeepsOthers}
use Rattle.csn_look.proofs.Handing.HandDown.{Handed, handed_none, handed_here, handed_more, handed_end}
use Rattle.csn_look.proofs.Handing.ReachedParts.{parts_once, parts_below, written_back}
use Rattle.csn_look.proofs.hand_down.handed_down.Goals as goal

pub loop-k-init : goal.loop-k-init
loop-k-init g c =
    let d = c.args.desc.now in
    let is = c.len-count.ensures.description in
    handed_none (λ i a. g.T.HandDown.is_right d i a) d is c.in_ok-table.table.items c.args.root
    (c.in_ok-table.ensures ∙ c.len-count.ensures.len) (c.requires.root is)

pub hand_down-requires : goal.hand_down-requires
hand_down-requires g c =
    let d = c.args.desc.now in
    let k = c.loop-k.k in
    let node = c.node.result.now in
    let is = c.len-count.ensures.description in
    let size = ap length c.as_mut_slice.ensures.value in
    let same = c.loop-k.invariant.same in
    record {
      once = parts_once d k node is c.node.ensures;
      below = parts_below d k node (length c.as_mut_slice.result.now) is c.node.ensures (omega (arith, size, same));
      known = parts_below d k node (length c.args.look.now.sets) is c.node.ensures (omega (arith, c.requires.known.same));
    }

pub loop-k-preserved : goal.loop-k-preserved
loop-k-preserved g c =
    let d = c.args.desc.now in
    let k = c.loop-k.k in
    let node = c.node.result.now in
    let above = c.index-above.result.now in
    let items = c.loop-k.table.items in
    let new = c.hand_down.new.table in
    let value = c.as_mut_slice.ensures.value in
    let size : length new ≡ length items = omega (arith, c.hand_down.auto.table, ap length value) in
    let len : c.loop-k.table.len ≡ length items = omega (arith, c.loop-k.table.ok.0) in
    let inside : k < length items = omega (arith, c.loop-k.invariant.same, c.loop-k-test.true, c.len-count.ensures.len) in
    let here : slice_get items k ≡ Some above = slice_get_read items (length items) k above refl inside c.index-above.ensures in
    let others : KeepsOthers node items new = subst (λ l. KeepsOthers node l new) value c.hand_down.ensures.others in
    let is = c.len-count.ensures.description in
    let nodes_inside : k < length d.nodes = omega (arith, c.loop-k-test.true, c.len-count.ensures.len) in
    let right = handed_here (λ i a. g.T.HandDown.is_right d i a) d is k items above nodes_inside c.loop-k.invariant here in
    subst (λ l. Handed (λ i a. g.T.HandDown.is_right d i a) d (k + 1) l) (sym (written_back new items c.loop-k.table.len size len))
    (handed_more (λ i a. g.T.HandDown.is_right d i a) d is k node items new c.node.ensures size c.loop-k.invariant
    (c.hand_down.ensures.parts d k is c.requires.known c.node.ensures right) others)

pub returns : goal.returns
returns g c =
    let d = c.args.desc.now in
    record {
      same = c.loop-k.invariant.same;
      right = handed_end (λ i a. g.T.HandDown.is_right d i a) d c.len-count.ensures.description c.loop-k.k
          c.loop-k.table.items (omega (arith, c.loop-k-test.false, c.len-count.ensures.len)) c.loop-k.invariant;
    }

pub index-above-requires : goal.index-above-requires
index-above-requires g c = omega (arith, c.loop-k.invariant.same, c.loop-k-test.true, c.len-count.ensures.len)

pub node-requires : goal.node-requires
node-requires g c = omega (arith, c.loop-k-test.true, c.len-count.ensures.len)
