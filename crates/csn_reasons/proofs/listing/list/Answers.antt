use Rattle.std.proofs.Common.{◌≡◌, ◌<◌, [], ◌∷◌, ◌++◌, length, None, get_or, refl, sym, subst, arith}
use Rattle.std.proofs.lemmas.List.{length-append}
use Rattle.std.proofs.lemmas.Option.{get_or_from_slice_get, slice_get_read}
use Rattle.csn_reasons.specs.Facts.{IsFacts}
use Rattle.csn_reasons.proofs.Told.{more_lines, one_more_fact}
use Rattle.csn_reasons.proofs.listing.list.Goals as goal

pub loop-number-preserved : goal.loop-number-preserved
loop-number-preserved c =
    let so_far = c.loop-number.invariant in
    let told = c.in_ok-told.told in
    let is =
    subst (λ i. IsFacts c.args.asked.text.now c.args.found.now.desc.nodes c.args.found.now.origins.items i told)
    (sym so_far.so_many) c.in_ok-told.ensures in
    let bits = c.in_ok-bits.bits.items in
    let bit = c.index.result.now in
    let inside : c.loop-number.number < length bits = omega (arith, c.loop-number-test.true, c.len-number-end.ensures.len, c.in_ok-bits.ensures) in
    let here : get_or bits c.loop-number.number None ≡ bit =
    get_or_from_slice_get bits c.loop-number.number bit None (slice_get_read bits (length bits) c.loop-number.number bit refl inside c.index.ensures) in
    record {
      facts = so_far.facts ++ told ∷ [];
      so_many = (let more = length-append so_far.facts (told ∷ []) in omega (arith, more, so_far.so_many));
      are = one_more_fact c.args.asked.text.now c.args.found.now.desc.nodes c.args.found.now.origins.items so_far.facts told so_far.are is;
      lines = more_lines (λ i. get_or bits i None) so_far.facts told c.args.out.now.items c.loop-number.out.items
          c.push_line.new.out.items c.loop-number.number c.index.result.now so_far.so_many here so_far.lines c.in_ok-push_line.ensures;
    }
