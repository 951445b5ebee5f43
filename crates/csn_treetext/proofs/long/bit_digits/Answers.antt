use Rattle.std.proofs.Common.{Some, refl, sym, subst, inl, inr}
use Rattle.csn_treetext.specs.declared.version.Version.TheVariants.{First}
use Rattle.csn_treetext.specs.reader.Machine.{with_tree}
use Rattle.csn_treetext.specs.reader.Reading.{Stands}
use Rattle.csn_treetext.proofs.ReadingFacts.{bits_closed, gives_from}
use Rattle.csn_treetext.proofs.StopFacts.{bits_short, bits_more}
use Rattle.csn_treetext.proofs.long.bit_digits.Goals as goal

pub returns-then-not-is_leaf : goal.returns-then-not-is_leaf
returns-then-not-is_leaf c =
    let text = c.args.source.text.now in
    let end = c.in_ok-bits.field-0.end in
    let e = c.in_ok-bits.ensures.comes c.args.stack.now c.requires.comes in
    rw c.requires.first (elim (c.if-not-is_leaf.ensures.no refl) [
      | inl short ↦ bits_short text end c.in_ok-bits.field-0.bits c.args.stack.now c.in_ok-bits.ensures.within e short c.in_ok-bits.ensures.stops
      | inr digit ↦ bits_more text end c.in_ok-bits.field-0.bits (Some digit.0) c.args.stack.now e c.in_ok-bits.ensures.stops (digit.1, digit.2, digit.3) refl
    ])

pub close-requires-clause-stands : goal.close-requires-clause-stands
close-requires-clause-stands c =
    let e = c.in_ok-bits.ensures.comes c.args.stack.now c.requires.comes in
    rw c.requires.first
    (subst (λ t. Stands First c.args.source.text.now c.in_ok-bits.field-0.end (with_tree c.args.stack.now t)) (sym c.leaf.ensures)
    (bits_closed c.args.source.text.now c.in_ok-bits.field-0.end c.in_ok-bits.field-0.bits c.args.stack.now e
    (c.if-not-is_leaf.ensures.long refl) (c.if-not-is_leaf.ensures.ends refl)))

pub returns : goal.returns
returns c = gives_from _ _ _ _ _ c.close.result c.in_ok-bits.ensures.from c.close.ensures
