use Rattle.std.proofs.Common.{refl, sym, ◌∙◌, subst, arith}
use Rattle.csn_treetext.specs.declared.version.Version.TheVariants.{Second}
use Rattle.csn_treetext.specs.Place.{IsFaultPlace}
use Rattle.csn_treetext.proofs.ReadingFacts.{octets_closed}
use Rattle.csn_treetext.proofs.StopFacts.{digit_there, no_digit, octets_unpaired, octets_full, octets_few}
use Rattle.csn_treetext.proofs.long.block_line_end.Goals as goal
use Rattle.csn_treetext.proofs.long.block_line_end.Goals.{then-count-lt-MOST_OCTETS, else-count-lt-MOST_OCTETS}

pub returns-then-is_some : goal.returns-then-is_some
returns-then-is_some c =
    let (high, low, first) = digit_there c.args.source.text.now c.args.end c.digit_at.result c.digit_at.ensures.some
    (sym c.is_some.ensures ∙ c.if-is_some.true) in
    rw c.requires.second (elim c.if-count-lt-MOST_OCTETS.branch [
      | then-count-lt-MOST_OCTETS w ↦ subst (λ p. IsFaultPlace Second c.args.source.text.now p) (sym w.place-is)
          (octets_unpaired c.args.source.text.now c.args.end c.args.octets.now high c.args.stack.now c.requires.comes low first c.requires.stops (omega arith))
      | else-count-lt-MOST_OCTETS w ↦ subst (λ p. IsFaultPlace Second c.args.source.text.now p) (sym w.place-is)
          (octets_full c.args.source.text.now c.args.end c.args.octets.now high c.args.stack.now c.requires.comes low first (omega arith))
    ])

pub returns-then-count-lt-FEWEST_OCTETS : goal.returns-then-count-lt-FEWEST_OCTETS
returns-then-count-lt-FEWEST_OCTETS c =
    rw c.requires.second
    (octets_few c.args.source.text.now c.args.end c.args.octets.now c.args.stack.now c.requires.within c.requires.comes
    (no_digit c.args.source.text.now c.args.end c.digit_at.result c.digit_at.ensures.none (sym c.is_some.ensures ∙ c.if-is_some.false)) (omega arith))

pub octets_end-requires-clause-stands : goal.octets_end-requires-clause-stands
octets_end-requires-clause-stands c =
    rw c.requires.second
    (octets_closed c.args.source.text.now c.args.end c.args.octets.now c.args.stack.now c.requires.comes (omega arith)
    (no_digit c.args.source.text.now c.args.end c.digit_at.result c.digit_at.ensures.none (sym c.is_some.ensures ∙ c.if-is_some.false))
    (c.if-stands_at.ensures.no refl))
