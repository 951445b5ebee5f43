use Rattle.std.proofs.Common.{refl, arith}
use Rattle.csn_bits.specs.Numbers.{low_bits}
use Rattle.csn_bits.proofs.NumberFacts.{length-low_bits}
use Rattle.csn_desc.specs.TreeV.{bits}
use Rattle.csn_encode.proofs.NodeKinds.{field_added}
use Rattle.csn_encode.proofs.Texts.{short_begins, short_added}
use Rattle.csn_encode.proofs.draft.Draft.number_text.Goals as goal

pub returns : goal.returns
returns c =
    let leaf = low_bits c.args.wanted c.in_ok-value.value in
    let room = c.if-wanted-len.false in (
      bits leaf,
      short_begins c.args.wanted c.in_ok-value.value c.in_ok-width.width _ c.in_ok-width.value_text.now
          c.in_ok-behind.field-0.now _ (omega (arith, c.requires.some)) (omega (arith, c.requires.few))
          (let zero = c.if-value-wanted-ne0.false in omega (arith, zero)) (let same = c.if-width-from.false in omega (arith, same, c.from.ensures))
          c.in_ok-width.ensures c.in_ok-behind.ensures c.in_ok-value.ensures,
      λ d v unit count n counted all. field_added d leaf n c.args.wanted counted all (length-low_bits c.args.wanted c.in_ok-value.value) refl
          (short_added c.args.wanted c.in_ok-value.value (omega (arith, room, c.len.ensures.count, c.len.ensures.within)) c.in-Ok.ensures.ok refl refl),
    )
