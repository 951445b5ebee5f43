-- The worked examples hold, case by case.
use Rattle.std.proofs.Common.{[], ◌∷◌, refl}
use Rattle.csn_desc.specs.declared.symbol.Symbol.TheVariants.{Zero}
use Rattle.csn_desc.specs.declared.node.Count.TheVariants.{Fixed, Counted}
use Rattle.csn_desc.specs.declared.node.Node.TheVariants.{Lits, Field, Seq, Choice, Named}
use Rattle.csn_compat.specs.Takes.{any_bits, any_bits_labelled, takes_at, takes_labelled, takes_by_labelled}
use Rattle.csn_compat.specs.Takes.{takes_by_choice, takes_leaf, takes_seq, parts_taken, parts_take}
use Rattle.csn_compat.specs.Takes.{parts_taken_by_rest}
use Rattle.csn_compat.specs.Examples.{LaterMessageTakesMessage, CountsGoByPairs}

pub later_message_takes_message : LaterMessageTakesMessage
later_message_takes_message =
    takes_at (Seq (1 ∷ 2 ∷ 4 ∷ [])) (Choice (1 ∷ 7 ∷ [])) refl refl
    (takes_by_choice 0 1 refl refl
    (takes_at (Seq (1 ∷ 2 ∷ 4 ∷ [])) (Seq (2 ∷ 3 ∷ 5 ∷ [])) refl refl
    (takes_seq
    (parts_take (takes_at (Lits (Zero ∷ [])) (Lits (Zero ∷ [])) refl refl (takes_leaf refl))
    (parts_take
    (takes_at (Named (65 ∷ []) 3) (Named (65 ∷ []) 4) refl refl
    (takes_labelled
    (takes_at (Field 1 (Fixed 3)) (Named (65 ∷ []) 4) refl refl
    (takes_by_labelled refl (takes_at (Field 1 (Fixed 3)) (Field 1 (Fixed 3)) refl refl (takes_leaf refl))))))
    (parts_taken_by_rest (any_bits_labelled (67 ∷ []) 6 refl (any_bits refl))))))))

pub counts_go_by_pairs : CountsGoByPairs
counts_go_by_pairs =
    takes_at (Seq (1 ∷ 3 ∷ [])) (Seq (1 ∷ 3 ∷ [])) refl refl
    (takes_seq
    (parts_take
    (takes_at (Named (78 ∷ []) 2) (Named (78 ∷ []) 2) refl refl
    (takes_labelled
    (takes_at (Field 1 (Fixed 2)) (Named (78 ∷ []) 2) refl refl
    (takes_by_labelled refl (takes_at (Field 1 (Fixed 2)) (Field 1 (Fixed 2)) refl refl (takes_leaf refl))))))
    (parts_take
    (takes_at (Named (86 ∷ []) 4) (Named (67 ∷ []) 4) refl refl
    (takes_labelled
    (takes_at (Field 1 (Counted 1 1 1)) (Named (67 ∷ []) 4) refl refl
    (takes_by_labelled refl (takes_at (Field 1 (Counted 1 1 1)) (Field 1 (Counted 1 1 1)) refl refl (takes_leaf (refl, refl, refl, refl)))))))
    parts_taken)))
