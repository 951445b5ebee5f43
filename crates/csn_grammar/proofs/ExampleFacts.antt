-- The worked examples.
use Rattle.std.proofs.Common.{◌≡◌, ℕ, ◌*◌, ◌≤◌, List, [], ◌∷◌, length, refl, Some, lit≤, lit<}
use Rattle.csn_bits.specs.Octets.{IsBits}
use Rattle.csn_desc.specs.declared.reading.Reading.{Reading}
use Rattle.csn_desc.specs.declared.reading.Reading.TheVariants.{Received, Sent}
use Rattle.csn_desc.specs.declared.symbol.Symbol.{Symbol}
use Rattle.csn_desc.specs.declared.symbol.Symbol.TheVariants.{Zero, One}
use Rattle.csn_desc.specs.TreeV.{empty, bits}
use Rattle.csn_desc.specs.Spelled.{spelled}
use Rattle.csn_grammar.specs.declared.exponent.Exponent.{Exponent}
use Rattle.csn_grammar.specs.declared.exponent.Exponent.TheVariants.{Number}
use Rattle.csn_grammar.specs.RulesV.{RulesV}
use Rattle.csn_grammar.specs.Environment.{Env, count_of}
use Rattle.csn_grammar.specs.Void.{Void, void_none, void_sent, void_labelled, void_seq, void_here, void_later, kept_end, kept_next, kept_error}
use Rattle.csn_grammar.specs.Meaning.{Means, means_lits, means_field, means_padding, means_seq, means_only}
use Rattle.csn_grammar.specs.Meaning.{means_many, means_cut_all, means_cut, means_window, means_labelled, means_group}
use Rattle.csn_grammar.specs.Meaning.{items_end, items_next, many_end, many_next, lead_last, lead_next, rule_plain}
use Rattle.csn_grammar.specs.Meaning.{rule_tail, tail_stop, tail_again}
use Rattle.csn_grammar.specs.Strings.{Strings}
use Rattle.csn_grammar.specs.Examples.{M, A, word, braces, sequence, field, bits_by, leaf, row_of, A5HasItsTree}
use Rattle.csn_grammar.specs.Examples.{LettersGoByPlace, padding, CountsGoByValue, NearestLabelCounts}
use Rattle.csn_grammar.specs.Examples.{PlacesGoOnInWindows, TruncationsTakeFirstParts, RepetitionsHaveARow, guarded}
use Rattle.csn_grammar.specs.Examples.{ErrorBranchesAreDropped, TailFormsHaveARow}

o : 0 ≤ 1
o = lit≤ tt

l : 1 ≤ 1
l = lit≤ tt

module _ {rules : RulesV} {r : Reading} where
  -- a field, a labelled one, and a literal
  a_field : {at : ℕ} {env : Env} {k : Exponent} (n : ℕ) (b : List ℕ) → count_of env k ≡ Some n
      → length b ≡ 1 * n → IsBits b → Means rules r (bits_by k) at env b (bits b)
  a_field n b counts wide are = means_field 1 n refl counts wide are

  labelled_field : {at : ℕ} {env : Env} {label : List ℕ} {k : Exponent} (n : ℕ) (b : List ℕ)
      → count_of env k ≡ Some n → length b ≡ 1 * n → IsBits b
      → Means rules r (field label k) at env b (leaf label b)
  labelled_field n b counts wide are = means_labelled (a_field n b counts wide are)

  literal : {at : ℕ} {env : Env} {run : List Symbol} (b : List ℕ) → b ≡ spelled run at
      → Means rules r (word run) at env b empty
  literal b spells = means_lits spells

pub a5_has_its_tree : A5HasItsTree
a5_has_its_tree = (
  _,
  refl,
  rule_plain refl (means_seq
      (items_next (1 ∷ 0 ∷ 1 ∷ []) _ refl (labelled_field 3 (1 ∷ 0 ∷ 1 ∷ []) refl refl (l, (o, (l, tt))))
      (items_next (0 ∷ []) _ refl (literal (0 ∷ []) refl)
      (items_next (0 ∷ 1 ∷ 0 ∷ 1 ∷ []) [] refl (labelled_field 4 (0 ∷ 1 ∷ 0 ∷ 1 ∷ []) refl refl (o, (l, (o, (l, tt)))))
      (items_end refl))))),
)

pub letters_go_by_place : LettersGoByPlace
letters_go_by_place = (
  (
    _,
    refl,
    rule_plain refl (means_seq
        (items_next (0 ∷ []) _ refl (a_field 1 (0 ∷ []) refl refl (o, tt))
        (items_next (0 ∷ 0 ∷ []) [] refl (literal (0 ∷ 0 ∷ []) refl)
        (items_end refl)))),
  ),
  (
    _,
    refl,
    rule_plain refl (means_seq
        (items_next (0 ∷ 0 ∷ []) _ refl (a_field 2 (0 ∷ 0 ∷ []) refl refl (o, (o, tt)))
        (items_next (1 ∷ 1 ∷ []) [] refl (literal (1 ∷ 1 ∷ []) refl)
        (items_end refl)))),
  ),
)

pub counts_go_by_value : CountsGoByValue
counts_go_by_value = (
  _,
  refl,
  rule_plain refl (means_seq
      (items_next (1 ∷ 0 ∷ []) _ refl (labelled_field 2 (1 ∷ 0 ∷ []) refl refl (l, (o, tt)))
      (items_next (0 ∷ 1 ∷ 1 ∷ []) [] refl (a_field 3 (0 ∷ 1 ∷ 1 ∷ []) refl refl (o, (l, (l, tt))))
      (items_end refl)))),
)

pub nearest_label_counts : NearestLabelCounts
nearest_label_counts = (
  _,
  refl,
  rule_plain refl (means_seq
      (items_next (1 ∷ []) _ refl (labelled_field 1 (1 ∷ []) refl refl (l, tt))
      (items_next (1 ∷ 0 ∷ []) _ refl (labelled_field 2 (1 ∷ 0 ∷ []) refl refl (l, (o, tt)))
      (items_next (0 ∷ 1 ∷ []) [] refl (a_field 2 (0 ∷ 1 ∷ []) refl refl (o, (l, tt)))
      (items_end refl))))),
)

pub places_go_on_in_windows : PlacesGoOnInWindows
places_go_on_in_windows = (
  _,
  refl,
  rule_plain refl (means_seq
      (items_next (0 ∷ 0 ∷ []) _ refl (a_field 2 (0 ∷ 0 ∷ []) refl refl (o, (o, tt)))
      (items_next (1 ∷ 1 ∷ []) [] refl (means_window _ 2 refl refl refl (means_group (literal (1 ∷ 1 ∷ []) refl)))
      (items_end refl)))),
)

pub truncations_take_first_parts : TruncationsTakeFirstParts
truncations_take_first_parts = (
  (_, refl, rule_plain refl (means_group (means_cut_all refl))),
  (
    _,
    refl,
    rule_plain refl (means_group (means_cut
        (lead_last (lit< tt) (labelled_field 2 (0 ∷ 1 ∷ []) refl refl (o, (l, tt)))))),
  ),
  (
    _,
    refl,
    rule_plain refl (means_group (means_cut
        (lead_next (0 ∷ 1 ∷ []) _ refl (labelled_field 2 (0 ∷ 1 ∷ []) refl refl (o, (l, tt)))
        (lead_last (lit< tt) (labelled_field 2 (1 ∷ 1 ∷ []) refl refl (l, (l, tt))))))),
  ),
)

-- one repetition: a 1 and a field of one bit
turn : {rules : RulesV} {r : Reading} {at : ℕ} {env : Env} (value : ℕ) → value ≤ 1
    → Means rules r (braces (sequence (word (One ∷ []) ∷ field A (Number 1) ∷ []))) at env (1 ∷ value ∷ []) (row_of (empty ∷ leaf A (value ∷ []) ∷ []))
turn value is =
    means_group (means_seq
    (items_next (1 ∷ []) _ refl (literal (1 ∷ []) refl)
    (items_next (value ∷ []) [] refl (labelled_field 1 (value ∷ []) refl refl (is, tt))
    (items_end refl))))

pub repetitions_have_a_row : RepetitionsHaveARow
repetitions_have_a_row = (
  _,
  refl,
  rule_plain refl (means_seq
      (items_next (1 ∷ 0 ∷ 1 ∷ 1 ∷ []) _ refl (means_many refl
      (many_next (1 ∷ 0 ∷ []) _ refl (lit< tt) (turn 0 o)
      (many_next (1 ∷ 1 ∷ []) [] refl (lit< tt) (turn 1 l)
      (many_end refl))))
      (items_next (0 ∷ []) [] refl (literal (0 ∷ []) refl)
      (items_end refl)))),
)

-- the branch that is kept is not empty of strings
branch_full : Void guarded Received (sequence (word (Zero ∷ []) ∷ field A (Number 1) ∷ [])) → ⊥
branch_full (void_seq (void_here v)) = elim v [ ]
branch_full (void_seq (void_later (void_here (void_labelled v)))) = elim v [ ]
branch_full (void_seq (void_later (void_later v))) = elim v [ ]

pub error_branches_are_dropped : ErrorBranchesAreDropped
error_branches_are_dropped = (
  void_sent refl (void_none refl),
  (
    _,
    refl,
    rule_plain refl (means_group (means_only (kept_next branch_full (kept_error kept_end)) (means_seq
        (items_next (0 ∷ []) _ refl (literal (0 ∷ []) refl)
        (items_next (1 ∷ []) [] refl (labelled_field 1 (1 ∷ []) refl refl (l, tt))
        (items_end refl)))))),
  ),
)

pub tail_forms_have_a_row : TailFormsHaveARow
tail_forms_have_a_row = (
  _,
  refl,
  rule_tail _ refl
      (tail_again (1 ∷ 0 ∷ 1 ∷ []) (1 ∷ []) _ refl
      (items_next (1 ∷ 0 ∷ 1 ∷ []) [] refl (labelled_field 3 (1 ∷ 0 ∷ 1 ∷ []) refl refl (l, (o, (l, tt)))) (items_end refl))
      refl
      (tail_stop (0 ∷ 1 ∷ 0 ∷ []) (0 ∷ []) refl
      (items_next (0 ∷ 1 ∷ 0 ∷ []) [] refl (labelled_field 3 (0 ∷ 1 ∷ 0 ∷ []) refl refl (o, (l, (o, tt)))) (items_end refl))
      refl)),
)

pub padding_is_received : Strings padding M Received (0 ∷ 0 ∷ 0 ∷ []) (bits (0 ∷ 0 ∷ 0 ∷ []))
padding_is_received = (_, refl, rule_plain refl (means_padding refl (lit< tt) (o, (o, (o, tt)))))

pub padding_is_sent : Strings padding M Sent (0 ∷ 0 ∷ 1 ∷ []) (bits (0 ∷ 0 ∷ 1 ∷ []))
padding_is_sent = (_, refl, rule_plain refl (means_padding refl (lit< tt) refl))
