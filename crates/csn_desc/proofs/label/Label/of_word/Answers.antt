use Rattle.std.proofs.Common.{sym, subst}
use Rattle.csn_desc.specs.Label.{IsLabel}
use Rattle.csn_desc.proofs.LabelFacts.{word_is_label}
use Rattle.csn_desc.proofs.label.Label.of_word.Goals as goal

pub invariant_of-result : goal.invariant_of-result
invariant_of-result c =
    subst IsLabel (sym c.in_ok-bytes.ensures) (word_is_label c.args.word.now c.requires)
