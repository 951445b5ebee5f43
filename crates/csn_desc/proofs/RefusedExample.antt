-- The worked example of a refused block: where the description has a 0, the octet B5 has a 1.
use Rattle.std.proofs.Common.{◌≡◌, ℕ, zero, suc, ◌≤◌, List, [], ◌∷◌, ◌++◌, length, take, refl, sym, ◌∙◌, ap, arith, lit≤, length-append, subst}
use Rattle.csn_desc.specs.declared.node.Count.TheVariants.{Fixed}
use Rattle.csn_desc.specs.declared.node.Node.TheVariants.{Lits, Field, Seq, Named}
use Rattle.csn_desc.specs.declared.symbol.Symbol.TheVariants.{Zero}
use Rattle.csn_desc.specs.TreeV.{TreeV}
use Rattle.csn_desc.specs.Values.{Values}
use Rattle.csn_desc.specs.Means.{NodeMeans, PartsMean, means_lits, means_field, means_seq, means_named, parts_next}
use Rattle.csn_desc.specs.Follows.{NFollow, NodeFollows, PartsFollow, follows_at, follows_whole, follows_lits}
use Rattle.csn_desc.specs.Follows.{follows_field, follows_seq, follows_named, parts_here, parts_later}
use Rattle.csn_desc.specs.Examples.{A, fields, octet_B5, B5IsRefusedAtThree}
use Rattle.csn_desc.proofs.Nodewise.{meaning_at, follow_at}
use Rattle.csn_desc.proofs.Splits.{behind_front}
use Rattle.csn_desc.proofs.Prefixes.{prefix_followed, string_followed}

-- the field of A has three bits
field_has_three : {o : ℕ} {v : Values} {b : List ℕ} {t : TreeV} → NodeMeans fields (Field 1 (Fixed 3)) o v b t → length b ≡ 3
field_has_three (means_field n counts wide are) = let three : 3 ≡ n = cc in omega arith

a_has_three : {o : ℕ} {v : Values} {b : List ℕ} {t : TreeV} → NodeMeans fields (Named A 2) o v b t → length b ≡ 3
a_has_three (means_named h) = field_has_three (meaning_at fields refl h)

field_at_most_three : {o : ℕ} {v : Values} {b : List ℕ} → NodeFollows fields (Field 1 (Fixed 3)) o v b → length b ≤ 3
field_at_most_three (follows_whole t h) = omega (arith, field_has_three h)
field_at_most_three {b = b} (follows_field whole rest cut h) = omega (arith, field_has_three h, ap length cut, length-append b rest)

a_at_most_three : {o : ℕ} {v : Values} {b : List ℕ} → NodeFollows fields (Named A 2) o v b → length b ≤ 3
a_at_most_three (follows_whole t h) = omega (arith, a_has_three h)
a_at_most_three (follows_named h) = field_at_most_three (follow_at fields refl h)

-- the literal is a 0
literal_is_zero : {o : ℕ} {v : Values} {b : List ℕ} {t : TreeV} → NodeMeans fields (Lits (Zero ∷ [])) o v b t → b ≡ 0 ∷ []
literal_is_zero (means_lits h) = h

literal_begins_zero : {o bit : ℕ} {v : Values} {b : List ℕ} → NodeFollows fields (Lits (Zero ∷ [])) o v (bit ∷ b) → bit ≡ 0
literal_begins_zero (follows_whole t h) = let zero_bit = literal_is_zero h in cc
literal_begins_zero {bit = bit} {b = b} (follows_lits whole rest cut h) =
    let both : bit ∷ (b ++ rest) ≡ 0 ∷ [] = sym cut ∙ literal_is_zero h in cc

-- behind three bits of these four stands a 1
one_behind : (b1 b2 : List ℕ) → 1 ∷ 0 ∷ 1 ∷ 1 ∷ [] ≡ b1 ++ b2 → length b1 ≡ 3 → b2 ≡ 1 ∷ []
one_behind b1 b2 = behind_front (1 ∷ 0 ∷ 1 ∷ 1 ∷ []) b1 b2 3

-- the rest of the description does not begin with a 1
no_one_means : {o : ℕ} {v : Values} {b : List ℕ} {t : _} → PartsMean fields (3 ∷ 4 ∷ []) o v b t → b ≡ 1 ∷ [] → ⊥
no_one_means (parts_next c1 c2 cut h others) is =
    let first : c1 ≡ 0 ∷ [] = literal_is_zero (meaning_at fields refl h) in
    let both : 0 ∷ c2 ≡ 1 ∷ [] = ap (λ c. c ++ c2) (sym first) ∙ sym cut ∙ is in cc

no_one_follows : {o : ℕ} {v : Values} {b : List ℕ} → PartsFollow fields (3 ∷ 4 ∷ []) o v b → b ≡ 1 ∷ [] → ⊥
no_one_follows {o} {v} {b} (parts_here h) is =
    let P : List ℕ → Type 0 = λ c. NFollow fields 3 o v c in
    let one : 1 ≡ 0 = literal_begins_zero (follow_at fields refl (subst P is h)) in absurd (omega (arith, one))
no_one_follows (parts_later c1 c2 cut h others) is =
    let first : c1 ≡ 0 ∷ [] = literal_is_zero (meaning_at fields refl h) in
    let both : 0 ∷ c2 ≡ 1 ∷ [] = ap (λ c. c ++ c2) (sym first) ∙ sym cut ∙ is in cc

node_not_1011 : NodeFollows fields (Seq (1 ∷ 3 ∷ 4 ∷ [])) 0 [] (1 ∷ 0 ∷ 1 ∷ 1 ∷ []) → ⊥
node_not_1011 (follows_whole t (means_seq (parts_next b1 b2 cut h others))) =
    no_one_means others (one_behind b1 b2 cut (a_has_three (meaning_at fields refl h)))
node_not_1011 (follows_seq (parts_here h)) =
    let few : 4 ≤ 3 = a_at_most_three (follow_at fields refl h) in absurd (omega arith)
node_not_1011 (follows_seq (parts_later b1 b2 cut h others)) =
    no_one_follows others (one_behind b1 b2 cut (a_has_three (meaning_at fields refl h)))

not_1011 : NFollow fields 0 0 [] (1 ∷ 0 ∷ 1 ∷ 1 ∷ []) → ⊥
not_1011 h = node_not_1011 (follow_at fields refl h)

at_most_three : (more : ℕ) → NFollow fields 0 0 [] (take more octet_B5) → more ≤ 3
at_most_three zero h = omega arith
at_most_three (suc zero) h = omega arith
at_most_three (suc (suc zero)) h = omega arith
at_most_three (suc (suc (suc zero))) h = omega arith
at_most_three (suc (suc (suc (suc more)))) h =
    absurd (not_1011 (prefix_followed fields h (1 ∷ 0 ∷ 1 ∷ 1 ∷ []) (take more (0 ∷ 1 ∷ 0 ∷ 1 ∷ [])) refl))

pub b5_is_refused_at_three : B5IsRefusedAtThree
b5_is_refused_at_three = (
  record {
    within = lit≤ tt;
    followed = follows_at _ refl (follows_seq (parts_here (follows_at _ refl (follows_named (follows_at _ refl
        (follows_whole _ (means_field 3 refl refl (lit≤ tt, (lit≤ tt, (lit≤ tt, tt))))))))));
    greatest = λ more within h. at_most_three more h;
  },
  λ t h. not_1011 (prefix_followed fields (string_followed fields h) (1 ∷ 0 ∷ 1 ∷ 1 ∷ []) (0 ∷ 1 ∷ 0 ∷ 1 ∷ []) refl),
)
