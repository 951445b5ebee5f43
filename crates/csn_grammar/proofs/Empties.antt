-- A well-formed expression follows the empty bits, where the labels that it sees have values.
use Rattle.std.proofs.Common.{◌≡◌, ℕ, zero, suc, ◌+◌, ◌*◌, List, [], ◌∷◌, inl, inr, refl, arith, Some, None}
use Rattle.std.specs.Prelude.{replicate, IsSome}
use Rattle.std.proofs.lemmas.List.{length-replicate}
use Rattle.csn_desc.specs.declared.reading.Reading.{Reading}
use Rattle.csn_desc.specs.declared.symbol.Symbol.TheVariants.{Zero, Low}
use Rattle.csn_desc.specs.TreeV.{empty, bits, row, none}
use Rattle.csn_desc.specs.Spelled.{spelled}
use Rattle.csn_desc.proofs.BitFacts.{spelled_is_spare}
use Rattle.csn_grammar.specs.declared.exponent.Exponent.{Exponent}
use Rattle.csn_grammar.specs.declared.exponent.Exponent.TheVariants.{Any, Number, Linear}
use Rattle.csn_grammar.specs.declared.rules.Rule.{Rule}
use Rattle.csn_grammar.specs.ExprV.{ExprV, expr, power, ExprsV}
use Rattle.csn_grammar.specs.RulesV.{RulesV}
use Rattle.csn_grammar.specs.Forms.{unit_of}
use Rattle.csn_grammar.specs.Environment.{Env, value_of, count_of}
use Rattle.csn_grammar.specs.Void.{Void, SomeVoid, void_group, void_labelled, void_seq, void_choice, void_here, void_later}
use Rattle.csn_grammar.specs.Meaning.{means_lits, means_null, means_bit, means_octet, means_field, means_rest}
use Rattle.csn_grammar.specs.Meaning.{means_spare_bit, means_spare_low, means_padding, means_seq, means_times}
use Rattle.csn_grammar.specs.Meaning.{means_many, means_cut_all, items_end, times_end, many_end}
use Rattle.csn_grammar.specs.Follow.{Follow, RuleFollows, follows_whole, follows_leaf, follows_seq, follows_choice}
use Rattle.csn_grammar.specs.Follow.{follows_times, follows_window, follows_labelled, follows_name, follows_group}
use Rattle.csn_grammar.specs.Follow.{follows_received, follows_sent, items_here, times_here, follows_plain}
use Rattle.csn_grammar.specs.Follow.{follows_tail}
use Rattle.csn_grammar.specs.Formed.{IsCount, Formed, ItemsFormed, RuleFormed, HaveValues, formed_lits, formed_null}
use Rattle.csn_grammar.specs.Formed.{formed_bit, formed_octet, formed_field, formed_rest, formed_spare_bit}
use Rattle.csn_grammar.specs.Formed.{formed_spare_low, formed_padding, formed_seq, formed_choice, formed_times}
use Rattle.csn_grammar.specs.Formed.{formed_many, formed_cut, formed_window, formed_labelled, formed_name}
use Rattle.csn_grammar.specs.Formed.{formed_group, formed_received, formed_sent, formed_end, formed_next, each_next}
use Rattle.csn_grammar.specs.Formed.{formed_plain, formed_tail}
use Rattle.csn_grammar.proofs.VoidFacts.{none_kept, tail_void, spare_bit_full, spare_low_full, padding_full, part_void, body_void, left_void, right_void}
use Rattle.csn_grammar.proofs.Prefixes.{field_leaf, spare_bit_name, spare_low_name, padding_name, ItemsBegun, begun}
use Rattle.csn_bits.proofs.Packing.{IsBits-zeros}

-- an exponent on labels that have values is a number
has_count : (seen : List (List ℕ)) (env : Env) (k : Exponent) → HaveValues env seen → IsCount seen k
    → (n : ℕ) × (count_of env k ≡ Some n)
has_count seen env Any values is = elim is [ ]
has_count seen env (Number n) values is = (n, refl)
has_count seen env (Linear m label c) values is = found (value_of env label) refl (values label is)
  where
    found : (value : _) → value_of env label ≡ value → IsSome value
        → (n : ℕ) × (count_of env (Linear m label c) ≡ Some n)
    found None e some = cc
    found (Some x) e some = (m * x + c, rw e refl)

module _ (rules : RulesV) (r : Reading) where
  -- ---- what is well formed is not empty of strings

  mutual
    formed_full : {seen : List (List ℕ)} {x : ExprV} → Formed rules r seen x → Void rules r x → ⊥
    formed_full formed_lits v = elim v [ ]
    formed_full formed_null v = elim v [ ]
    formed_full formed_bit v = elim v [ ]
    formed_full formed_octet v = elim v [ ]
    formed_full (formed_field unit is count) v = elim v [ ]
    formed_full (formed_rest is) v = elim v [ ]
    formed_full (formed_spare_bit {n = n} is) v = spare_bit_full rules r n is v
    formed_full (formed_spare_low {n = n} is) v = spare_low_full rules r n is v
    formed_full (formed_padding {n = n} is) v = padding_full rules r n is v
    formed_full (formed_seq h) (void_seq v) = items_formed_full h v
    formed_full (formed_choice {x = x} xs kept each) (void_choice all) = let none : x ∷ xs ≡ [] = none_kept rules r kept all in cc
    formed_full (formed_times is count h) v = elim v [ ]
    formed_full (formed_many is h) v = elim v [ ]
    formed_full (formed_cut h) v = elim v [ ]
    formed_full (formed_window w at count h) v = formed_full h (part_void rules r at v)
    formed_full (formed_labelled h) (void_labelled v) = formed_full h v
    formed_full (formed_name rule at h) v = rule_formed_full h (body_void rules r at v)
    formed_full (formed_group h) (void_group v) = formed_full h v
    formed_full (formed_received is h) v = formed_full h (left_void rules r is v)
    formed_full (formed_sent is h) v = formed_full h (right_void rules r is v)

    items_formed_full : {seen : List (List ℕ)} {xs : ExprsV} → ItemsFormed rules r seen xs
        → SomeVoid rules r xs → ⊥
    items_formed_full formed_end v = elim v [ ]
    items_formed_full (formed_next h others) (void_here v) = formed_full h v
    items_formed_full (formed_next h others) (void_later v) = items_formed_full others v

    rule_formed_full : {seen : List (List ℕ)} {rule : Rule} → RuleFormed rules r seen rule
        → Void rules r rule.body → ⊥
    rule_formed_full (formed_plain is h) v = formed_full h v
    rule_formed_full (formed_tail {rule = rule} tail is h) v = items_formed_full h (tail_void rules r rule.name rule.body tail is v)

  -- ---- the empty bits

  times_empty : {s e : ℕ} (x : ExprV) (k : Exponent) (env : Env) (o n : ℕ) → unit_of x ≡ None
      → count_of env k ≡ Some n → Follow rules r x o env [] → Follow rules r (expr s e (power x k)) o env []
  times_empty x k env o zero is count first = follows_whole (row none) (means_times 0 is count (times_end refl refl))
  times_empty x k env o (suc n) is count first = follows_times (suc n) is count (times_here (omega arith) first)

  field_empty : (s e : ℕ) (x : ExprV) (k : Exponent) (env : Env) (o unit n : ℕ) → unit_of x ≡ Some unit
      → count_of env k ≡ Some n → Follow rules r (expr s e (power x k)) o env []
  field_empty s e x k env o unit n is count =
      let zeros = replicate (unit * n) 0 in
      follows_leaf zeros zeros (field_leaf s e x k env unit n is count) refl
      (means_field unit n is count (length-replicate (unit * n) 0) (IsBits-zeros (unit * n)))

  mutual
    pub empty_followed : {seen : List (List ℕ)} {x : ExprV} (o : ℕ) (env : Env) → HaveValues env seen
        → Formed rules r seen x → Follow rules r x o env []
    empty_followed o env values (formed_lits {run = run}) = follows_leaf (spelled run o) (spelled run o) refl refl (means_lits refl)
    empty_followed o env values formed_null = follows_whole empty (means_null refl)
    empty_followed o env values formed_bit = follows_leaf (0 ∷ []) (0 ∷ []) refl refl (means_bit refl (omega arith, tt))
    empty_followed o env values formed_octet = follows_leaf (replicate 8 0) (replicate 8 0) refl refl (means_octet refl (IsBits-zeros 8))
    empty_followed {seen = seen} o env values (formed_field {s = s} {e = e} {x = x} {k = k} unit is count) =
        let c = has_count seen env k values count in field_empty s e x k env o unit c.0 is c.1
    empty_followed o env values (formed_rest is) = follows_whole (bits []) (means_rest is tt)
    empty_followed o env values (formed_spare_bit {n = n} is) =
        let one = spelled (Zero ∷ []) o in follows_leaf one one (spare_bit_name n is) refl (means_spare_bit is refl (spelled_is_spare r Zero o))
    empty_followed o env values (formed_spare_low {n = n} is) =
        let one = spelled (Low ∷ []) o in follows_leaf one one (spare_low_name n is) refl (means_spare_low is refl (spelled_is_spare r Low o))
    empty_followed o env values (formed_padding {n = n} is) =
        let one = spelled (Low ∷ []) o in follows_leaf one one (padding_name n is) refl (means_padding is (omega arith) (spelled_is_spare r Low o))
    empty_followed o env values (formed_seq h) =
        elim (empty_items_begun o env values h) [ inl f ↦ follows_seq (items_formed_full h) f | inr whole ↦ follows_whole (row whole.0) (means_seq whole.1) ]
    empty_followed o env values (formed_choice {x = x} xs kept (each_next first others)) =
        follows_choice (x ∷ xs) 0 kept refl (empty_followed o env values first)
    empty_followed {seen = seen} o env values (formed_times {x = x} {k = k} is count h) =
        let c = has_count seen env k values count in times_empty x k env o c.0 is c.1 (empty_followed o env values h)
    empty_followed o env values (formed_many is h) = follows_whole (row none) (means_many is (many_end refl))
    empty_followed o env values (formed_cut h) = follows_whole (row none) (means_cut_all refl)
    empty_followed {seen = seen} o env values (formed_window w at count h) =
        let c = has_count seen env w.width.count values count in
        follows_window w c.0 at c.1 (omega arith) (empty_followed o env values h)
    empty_followed o env values (formed_labelled h) = follows_labelled (empty_followed o env values h)
    empty_followed o env values (formed_name rule at h) = follows_name rule at (empty_rule_followed o env values h)
    empty_followed o env values (formed_group h) = follows_group (empty_followed o env values h)
    empty_followed o env values (formed_received is h) = follows_received is (empty_followed o env values h)
    empty_followed o env values (formed_sent is h) = follows_sent is (empty_followed o env values h)

    pub empty_rule_followed : {seen : List (List ℕ)} {rule : Rule} (o : ℕ) (env : Env) → HaveValues env seen
        → RuleFormed rules r seen rule → RuleFollows rules r rule o env []
    empty_rule_followed o env values (formed_plain is h) = follows_plain is (empty_followed o env values h)
    empty_rule_followed o env values (formed_tail tail is h) =
        follows_tail tail is (begun rules r [] (items_formed_full h) (empty_items_begun o env values h))

    -- of the items of a sequence
    empty_items_begun : {seen : List (List ℕ)} {xs : ExprsV} (o : ℕ) (env : Env) → HaveValues env seen
        → ItemsFormed rules r seen xs → ItemsBegun rules r xs o [] env []
    empty_items_begun o env values formed_end = inr (none, items_end refl)
    empty_items_begun o env values (formed_next first others) = inl (items_here (empty_followed o ([] ∷ env) values first))

pub nothing_seen : HaveValues [] []
nothing_seen label h = absurd (omega (arith, h.1))
