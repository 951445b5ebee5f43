-- What the sets of a node answer.
use Rattle.std.proofs.Common.{◌≡◌, ℕ, ◌+◌, ◌-◌, ◌%◌, ◌≤◌, Bool, true, false, ◌&&◌, ◌||◌, ◌⊎◌, ◌↔◌, not, List, [], refl, sym, subst, arith, inl, inr, Some}
use Rattle.std.specs.Prelude.{slice_get, IsTrue, IsSomeAnd, if◌then◌else◌}
use Rattle.std.specs.Ordering.{nat_cmp}
use Rattle.std.specs.FinSet as set
use Rattle.std.proofs.lemmas.Option.{slice_get_within}
use Rattle.csn_desc.specs.Nodes.{DescV}
use Rattle.csn_look.specs.declared.node_sets.NodeSets.{NodeSets}
use Rattle.csn_look.specs.declared.symbol_set.Sign.{Sign}
use Rattle.csn_look.specs.declared.symbol_set.Sign.TheVariants.{Zero, One, End}
use Rattle.csn_look.specs.declared.word.TheConstants.{MOST_WORD}
use Rattle.csn_look.specs.SignsV.{SignsV}
use Rattle.csn_look.specs.Signs.{no_signs, with_sign, has_sign, bit_of_sign}
use Rattle.csn_look.specs.Told.{OctetsAre, SignsAre, FollowHas}
use Rattle.csn_look.specs.Sums.{Has}
use Rattle.csn_look.specs.NodeSets.{SetsAre, IsLookOf}
use Rattle.csn_look.specs.Nullable.{Nullable}
use Rattle.csn_look.specs.Ends.{InEnds}
use Rattle.csn_look.specs.Starts.{InFirst}
use Rattle.csn_look.specs.Keys.{InKeys, IsNotFirm, IsFirm}
use Rattle.csn_look.proofs.Meaning.EmptyKeys.{empty_key}
use Rattle.csn_look.proofs.Sets.Telling.{both, is_so, either, together}

-- a set of signs, kept where the first test holds, with 0 where the second does and 1 where the third does
abbrev pub put_first : Bool → Bool → Bool → SignsV → SignsV
put_first n z o at =
    let behind : SignsV = if n then at else no_signs in
    let zero : SignsV = if z then with_sign behind Zero else behind in
    if o then with_sign zero One else zero

-- what has each sign
signs_first :
    (n z o : Bool) (at : SignsV)
    → (has_sign (put_first n z o at) Zero ≡ (z || (n && at.zero)))
    × (has_sign (put_first n z o at) One ≡ (o || (n && at.one)))
    × (has_sign (put_first n z o at) End ≡ (n && at.end))
signs_first true true true at = (refl, refl, refl)
signs_first true true false at = (refl, refl, refl)
signs_first true false true at = (refl, refl, refl)
signs_first true false false at = (refl, refl, refl)
signs_first false true true at = (refl, refl, refl)
signs_first false true false at = (refl, refl, refl)
signs_first false false true at = (refl, refl, refl)
signs_first false false false at = (refl, refl, refl)

one_sign : (s t : Sign) → bit_of_sign s ≡ bit_of_sign t → s ≡ t
one_sign Zero Zero e = refl
one_sign One One e = refl
one_sign End End e = refl
one_sign Zero One e = let clash : ◌≡◌ {A = ℕ} 0 1 = cc in absurd (omega arith)
one_sign One Zero e = let clash : ◌≡◌ {A = ℕ} 1 0 = cc in absurd (omega arith)
one_sign Zero End e = cc
one_sign One End e = cc
one_sign End Zero e = cc
one_sign End One e = cc

pub follow_has : (follow : List SignsV) (o : ℕ) (at : SignsV) (sign : Sign) → slice_get follow o ≡ Some at
    → IsTrue (has_sign at sign) ↔ FollowHas follow o (bit_of_sign sign)
follow_has follow o at sign e = (
  (λ h. (sign, refl, subst (λ s. IsSomeAnd s (λ signs. IsTrue (has_sign signs sign))) (sym e) h)),
  (λ (s, same, h).
      let here : IsTrue (has_sign at s) = subst (λ q. IsSomeAnd q (λ signs. IsTrue (has_sign signs s))) e h in
      subst (λ q. IsTrue (has_sign at q)) (sym (one_sign sign s same)) here),
)

module _ (d : DescV) where
  pub known_sets : (look : List NodeSets) (i : ℕ) (sets : NodeSets) → IsLookOf d look → slice_get look i ≡ Some sets → SetsAre d i sets
  known_sets look i sets l at =
      let inside = slice_get_within look i sets at in
      let same = l.same in
      let k = l.known i (omega arith) in
      let one : k.0 ≡ sets = cc (k.1, at) in
      subst (λ s. SetsAre d i s) one k.2

  not_firm : (i : ℕ) (sets : NodeSets) → SetsAre d i sets → IsTrue ((sets.nullable || sets.whole_empty) || sets.cut_empty) ↔ IsNotFirm d MOST_WORD i
  not_firm i sets t =
      both (either (either t.nullable t.whole_empty) t.cut_empty) (
        (λ h. elim h [
          | inl some ↦ elim some [ inl null ↦ inl null | inr key ↦ inr (0, omega arith, true, key) ]
          | inr key ↦ inr (0, omega arith, false, key)
        ]),
        (λ h. elim h [
          | inl null ↦ inl (inl null)
          | inr key ↦ marked key.2 (empty_key d MOST_WORD (omega arith) 0 key.3 refl)
        ]),
      )
    where
      marked : (mark : Bool) → InKeys d MOST_WORD i 0 [] mark → ((Nullable d i ⊎ InKeys d MOST_WORD i 0 [] true) ⊎ InKeys d MOST_WORD i 0 [] false)
      marked true key = inl (inr key)
      marked false key = inr key

  denied : (b : Bool) (P : Type 0) → (IsTrue b ↔ P) → IsTrue (not b) ↔ (¬ P)
  denied true P f = ((λ h. λ p. cc), (λ h. absurd (h (f.0 refl))))
  denied false P f = ((λ h. λ p. let e = f.1 p in cc), (λ h. refl))

  pub firm_is : (i : ℕ) (sets : NodeSets) → SetsAre d i sets → IsTrue (not ((sets.nullable || sets.whole_empty) || sets.cut_empty)) ↔ IsFirm d MOST_WORD i
  firm_is i sets t = denied ((sets.nullable || sets.whole_empty) || sets.cut_empty) (IsNotFirm d MOST_WORD i) (not_firm i sets t)

  pub ends_are : (i octet : ℕ) (sets : NodeSets) (s : set.FinSet nat_cmp) → SetsAre d i sets → octet ≤ 7
      → OctetsAre s (λ p. Has sets.lengths ((p + 8 - octet) % 8)) → OctetsAre s (InEnds d i octet)
  ends_are i octet sets s t low turned p small = (
    (λ h. (t.lengths octet p low).0 (record { length = (p + 8 - octet) % 8; small = omega arith; has_length = (turned p small).0 h; is = omega arith })),
    (λ h.
        let r = (t.lengths octet p low).1 h in
        let is = r.is in
        let short = r.small in
        let same : r.length ≡ (p + 8 - octet) % 8 = omega arith in
        (turned p small).1 (subst (λ q. Has sets.lengths q) same r.has_length)),
  )

  pub first_is : (i octet : ℕ) (sets : NodeSets) (follow : List SignsV) (at : SignsV) → SetsAre d i sets → octet ≤ 7
      → slice_get follow octet ≡ Some at
      → SignsAre (put_first sets.nullable (set.contains sets.zero octet) (set.contains sets.one octet) at)
      (InFirst d (FollowHas follow) i octet)
  first_is i octet sets follow at t low e Zero =
      is_so (signs_first sets.nullable (set.contains sets.zero octet) (set.contains sets.one octet) at).0
      (either (t.zero octet low) (together t.nullable (follow_has follow octet at Zero e)))
  first_is i octet sets follow at t low e One =
      is_so (signs_first sets.nullable (set.contains sets.zero octet) (set.contains sets.one octet) at).1
      (either (t.one octet low) (together t.nullable (follow_has follow octet at One e)))
  first_is i octet sets follow at t low e End =
      is_so (signs_first sets.nullable (set.contains sets.zero octet) (set.contains sets.one octet) at).2
      (together t.nullable (follow_has follow octet at End e))
