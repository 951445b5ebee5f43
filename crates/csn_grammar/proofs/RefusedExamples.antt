-- The worked examples of refused blocks: where a rule has a 0, the octet B5 has a 1; and three zeros are no
-- padding that is sent.
use Rattle.std.proofs.Common.{◌≡◌, ℕ, zero, suc, ◌*◌, ◌≤◌, List, [], ◌∷◌, ◌++◌, length, take, refl, sym, ◌∙◌, ap, arith, lit≤, length-append, subst, codes}
use Rattle.csn_desc.specs.declared.reading.Reading.TheVariants.{Received, Sent}
use Rattle.csn_desc.specs.declared.symbol.Symbol.TheVariants.{Zero}
use Rattle.csn_desc.specs.TreeV.{TreeV, Trees}
use Rattle.csn_grammar.specs.declared.exponent.Exponent.TheVariants.{Number}
use Rattle.csn_grammar.specs.ExprV.{ExprV, name, item, no_item}
use Rattle.csn_grammar.specs.Environment.{Frame, Env}
use Rattle.csn_grammar.specs.Meaning.{Means, ItemsMean, means_lits, means_field, means_times, means_seq}
use Rattle.csn_grammar.specs.Meaning.{means_labelled, means_spare_bit, means_spare_low, means_padding, means_name}
use Rattle.csn_grammar.specs.Meaning.{items_next}
use Rattle.csn_grammar.specs.Follow.{Follow, ItemsFollow, follows_whole, follows_leaf, follows_seq, follows_times, follows_labelled, items_here, items_later}
use Rattle.csn_grammar.specs.Strings.{Strings}
use Rattle.csn_grammar.specs.Examples.{M, A, B, part, word, sequence, field, bits_by, fields, octet_B5, B5IsRefusedAtThree, padding, PaddingGoesByReading}
use Rattle.csn_desc.proofs.Splits.{behind_front}
use Rattle.csn_grammar.proofs.Prefixes.{begins, rule_begins, prefix_followed}
use Rattle.csn_grammar.proofs.VoidFacts.{no_rule}
use Rattle.csn_grammar.proofs.ExampleFacts.{a5_has_its_tree, padding_is_received, padding_is_sent}
use Rattle.csn_grammar.proofs.OneRule.{body_means, body_follows}

-- the field of A has three bits
field_has_three : {o : ℕ} {env : Env} {b : List ℕ} {t : TreeV}
    → Means fields Received (bits_by (Number 3)) o env b t → length b ≡ 3
field_has_three (means_field unit n is counts wide are) = let three : 3 ≡ n = cc in let one : 1 ≡ unit = cc in
    let product : unit * n ≡ 1 * n = ap (λ k. k * n) (sym one) in omega arith
field_has_three (means_times n is counts h) = cc

a_has_three : {o : ℕ} {env : Env} {b : List ℕ} {t : TreeV}
    → Means fields Received (field A (Number 3)) o env b t → length b ≡ 3
a_has_three (means_labelled h) = field_has_three h

field_at_most_three : {o : ℕ} {env : Env} {b : List ℕ} → Follow fields Received (bits_by (Number 3)) o env b
    → length b ≤ 3
field_at_most_three (follows_whole t h) = omega (arith, field_has_three h)
field_at_most_three {b = b} (follows_leaf whole rest leaf joins h) = omega (arith, field_has_three h, ap length joins, length-append b rest)
field_at_most_three (follows_times n is counts h) = cc

a_at_most_three : {o : ℕ} {env : Env} {b : List ℕ} → Follow fields Received (field A (Number 3)) o env b
    → length b ≤ 3
a_at_most_three (follows_whole t h) = omega (arith, a_has_three h)
a_at_most_three (follows_leaf whole rest leaf joins h) = cc
a_at_most_three (follows_labelled h) = field_at_most_three h

-- the literal is a 0
literal_is_zero : {o : ℕ} {env : Env} {b : List ℕ} {t : TreeV}
    → Means fields Received (word (Zero ∷ [])) o env b t → b ≡ 0 ∷ []
literal_is_zero (means_lits h) = h

literal_begins_zero : {o bit : ℕ} {env : Env} {b : List ℕ}
    → Follow fields Received (word (Zero ∷ [])) o env (bit ∷ b) → bit ≡ 0
literal_begins_zero (follows_whole t h) = let zero_bit = literal_is_zero h in cc
literal_begins_zero {bit = bit} {b = b} (follows_leaf whole rest leaf joins h) =
    let both : bit ∷ (b ++ rest) ≡ 0 ∷ [] = sym joins ∙ literal_is_zero h in cc

-- behind three bits of these four stands a 1
one_behind : (b1 b2 : List ℕ) → 1 ∷ 0 ∷ 1 ∷ 1 ∷ [] ≡ b1 ++ b2 → length b1 ≡ 3 → b2 ≡ 1 ∷ []
one_behind b1 b2 = behind_front (1 ∷ 0 ∷ 1 ∷ 1 ∷ []) b1 b2 3

-- the items behind A do not begin with a 1
no_one_means : {o : ℕ} {frame : Frame} {env : Env} {b : List ℕ} {ts : Trees}
    → ItemsMean fields Received (item (word (Zero ∷ []))
    (item (field B (Number 4)) no_item)) o frame env b ts
    → b ≡ 1 ∷ [] → ⊥
no_one_means (items_next c1 c2 joins h others) is =
    let first : c1 ≡ 0 ∷ [] = literal_is_zero h in
    let both : 0 ∷ c2 ≡ 1 ∷ [] = ap (λ c. c ++ c2) (sym first) ∙ sym joins ∙ is in cc

no_one_follows : {o : ℕ} {frame : Frame} {env : Env} {b : List ℕ}
    → ItemsFollow fields Received (item (word (Zero ∷ []))
    (item (field B (Number 4)) no_item)) o frame env b
    → b ≡ 1 ∷ [] → ⊥
no_one_follows {o} {frame} {env} {b} (items_here h) is =
    let P : List ℕ → Type 0 = λ c. Follow fields Received (word (Zero ∷ [])) o (frame ∷ env) c in
    let one : 1 ≡ 0 = literal_begins_zero (subst P is h) in absurd (omega (arith, one))
no_one_follows (items_later c1 c2 joins h others) is =
    let first : c1 ≡ 0 ∷ [] = literal_is_zero h in
    let both : 0 ∷ c2 ≡ 1 ∷ [] = ap (λ c. c ++ c2) (sym first) ∙ sym joins ∙ is in cc

abbrev body : ExprV
body = sequence (field A (Number 3) ∷ word (Zero ∷ []) ∷ field B (Number 4) ∷ [])

not_1011 : Follow fields Received body 0 [] (1 ∷ 0 ∷ 1 ∷ 1 ∷ []) → ⊥
not_1011 (follows_whole t (means_seq (items_next b1 b2 joins h others))) = no_one_means others (one_behind b1 b2 joins (a_has_three h))
not_1011 (follows_leaf whole rest leaf joins h) = cc
not_1011 (follows_seq full (items_here h)) = let few : 4 ≤ 3 = a_at_most_three h in absurd (omega arith)
not_1011 (follows_seq full (items_later b1 b2 joins h others)) = no_one_follows others (one_behind b1 b2 joins (a_has_three h))

at_most_three : (many : ℕ) → Follow fields Received body 0 [] (take many octet_B5) → many ≤ 3
at_most_three zero h = omega arith
at_most_three (suc zero) h = omega arith
at_most_three (suc (suc zero)) h = omega arith
at_most_three (suc (suc (suc zero))) h = omega arith
at_most_three (suc (suc (suc (suc many)))) h =
    absurd (not_1011 (prefix_followed fields Received h (1 ∷ 0 ∷ 1 ∷ 1 ∷ []) (take many (0 ∷ 1 ∷ 0 ∷ 1 ∷ [])) refl))

pub b5_is_refused_at_three : B5IsRefusedAtThree
b5_is_refused_at_three = (
  record {
    within = lit≤ tt;
    followed =
        (a5_has_its_tree.0, a5_has_its_tree.1, rule_begins fields Received a5_has_its_tree.2 (1 ∷ 0 ∷ 1 ∷ []) (0 ∷ 0 ∷ 1 ∷ 0 ∷ 1 ∷ []) refl);
    greatest = λ many within h. at_most_three many (body_follows Received body refl (take many octet_B5) h);
  },
  λ t h. not_1011 (begins fields Received (body_means Received body refl octet_B5 t h) (1 ∷ 0 ∷ 1 ∷ 1 ∷ []) (0 ∷ 1 ∷ 0 ∷ 1 ∷ []) refl),
)

-- the third bit of the padding pattern is a 1
not_padding : (t : TreeV) → Means padding Sent (part (name (codes "spare padding"))) 0 [] (0 ∷ 0 ∷ 0 ∷ []) t
    → ⊥
not_padding t (means_spare_bit is one h) = absurd (omega arith)
not_padding t (means_spare_low is one h) = absurd (omega arith)
not_padding t (means_padding is some h) = cc
not_padding t (means_name rule at h) = no_rule padding (codes "spare padding") rule refl at

zeros_are_not_sent : (t : TreeV) → ¬ Strings padding M Sent (0 ∷ 0 ∷ 0 ∷ []) t
zeros_are_not_sent t h = not_padding t (body_means Sent (part (name (codes "spare padding"))) refl (0 ∷ 0 ∷ 0 ∷ []) t h)

pub padding_goes_by_reading : PaddingGoesByReading
padding_goes_by_reading = (padding_is_received, padding_is_sent, zeros_are_not_sent)
