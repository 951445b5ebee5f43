-- The patterns that are computed of a node are those that its equation makes.
use Rattle.std.proofs.Common.{◌≡◌, ℕ, zero, suc, ◌+◌, ◌%◌, ◌<◌, ◌≤◌, Bool, true, false, List, [], ◌∷◌, length, map}
use Rattle.std.proofs.Common.{refl, sym, ap, ◌∙◌, subst, arith, slice_get, slice_index_or, Some, ⊎_elim}
use Rattle.std.proofs.Common.{if◌then◌else◌}
use Rattle.std.specs.Prelude.{Contains}
use Rattle.std.proofs.lemmas.List.Elements.{Contains-append_left, Contains-append_right, Contains-append_cases}
use Rattle.csn_desc.specs.declared.reading.Reading.{Reading}
use Rattle.csn_desc.specs.declared.node.Node.{Node}
use Rattle.csn_desc.specs.declared.node.Node.TheVariants.{Lits, Spare, Pad, Null, Field, Rest, Seq, Choice, Times, Many, Trunc, Window, Named}
use Rattle.csn_desc.specs.declared.node.Count.TheVariants.{Fixed, Counted}
use Rattle.csn_desc.specs.Nodes.{parts_of}
use Rattle.csn_cert.specs.PatternV.{PatternV}
use Rattle.csn_cert.specs.CertificateV.{NodeV}
use Rattle.csn_good.specs.ClaimedSets as claims
use Rattle.csn_good.specs.Patterns.{unread, leaf_pattern, PartsPatterns, parts_none, parts_cut, parts_whole}
use Rattle.csn_good.specs.Patterns.{TimesPatterns, times_none, times_cut, times_whole, NodePatterns, patterns_lits}
use Rattle.csn_good.specs.Patterns.{patterns_field, patterns_spare, patterns_pad, patterns_null, patterns_rest}
use Rattle.csn_good.specs.Patterns.{patterns_many, patterns_trunc, patterns_window, patterns_counted_field}
use Rattle.csn_good.specs.Patterns.{patterns_counted_times, patterns_seq, patterns_times, patterns_choice}
use Rattle.csn_good.specs.Patterns.{patterns_named}
use Rattle.csn_certmake.specs.Patterns.{joined, before_all, sequence_of, times_of, choice_of, patterns_at, node_patterns}
use Rattle.csn_certmake.proofs.Members.{from_flat, to_flat, from_map, to_map}

only : (p q : PatternV) → Contains (p ∷ []) q → q ≡ p
only p q has = at has.0 has.1 has.2
  where
    at : (k : ℕ) → k < length (p ∷ []) → slice_index_or (p ∷ []) k q ≡ q → q ≡ p
    at zero low is = sym is
    at (suc k) low is = absurd (omega arith)

alone : (p q : PatternV) → q ≡ p → Contains (p ∷ []) q
alone p q is = (0, omega arith, sym is)

if_false : (b : Bool) (x y : List PatternV) → b ≡ false → (if b then x else y) ≡ y
if_false true x y is = absurd (cc)
if_false false x y is = refl

-- what is before the rest: a cut pattern, or one joined with a pattern of the rest
pub before_cut : (rests : ℕ → List PatternV) (octet : ℕ) (p : PatternV) → p.whole ≡ false → Contains (before_all rests octet p) p
before_cut rests octet p cut = subst (λ (l : List PatternV). Contains l p)
    (sym (if_false p.whole (map (joined p) (rests ((octet + length p.marks) % 8))) (p ∷ []) cut)) (alone p p refl)

pub before_whole : (rests : ℕ → List PatternV) (octet : ℕ) (first others p : PatternV)
    → first.whole ≡ true → Contains (rests ((octet + length first.marks) % 8)) others → p ≡ joined first others
    → Contains (before_all rests octet first) p
before_whole rests octet first others p whole has is =
    let k : ℕ = (octet + length first.marks) % 8 in
    subst (λ (q : PatternV). Contains (before_all rests octet first) q) (sym is) (rw whole (to_map (joined first) (rests k) has.0 others has.1 has.2))

pub data Before (rests : ℕ → List PatternV) (octet : ℕ) (first p : PatternV) : Type 0 where
  is_cut : first.whole ≡ false → p ≡ first → Before rests octet first p
  is_whole : (others : PatternV) → first.whole ≡ true → Contains (rests ((octet + length first.marks) % 8)) others
      → p ≡ joined first others → Before rests octet first p

pub before_told : (rests : ℕ → List PatternV) (octet : ℕ) (first p : PatternV) → Contains (before_all rests octet first) p → Before rests octet first p
before_told rests octet first p has = by_whole first.whole refl
  where
    by_whole : (b : Bool) → first.whole ≡ b → Before rests octet first p
    by_whole true is =
        let k : ℕ = (octet + length first.marks) % 8 in
        let there : Contains (map (joined first) (rests k)) p = rw is at has in
        let found = from_map (joined first) (rests k) there.0 p there.1 there.2 in
        is_whole found.0 is found.1 (sym found.2)
    by_whole false is =
        is_cut is (only first p (subst (λ (l : List PatternV). Contains l p)
        (if_false first.whole (map (joined first) (rests ((octet + length first.marks) % 8))) (first ∷ []) is) has))

module _ (c : List NodeV) (rows : List (List (List PatternV))) where
  -- the parts are claimed to have the patterns of their rows
  abbrev pub HaveTheirs : List ℕ → Type 0
  HaveTheirs parts = (j i o : ℕ) → slice_get parts j ≡ Some i → o ≤ 7 → claims.patterns_at c i o ≡ patterns_at rows i o

  sequence_has : (parts : List ℕ) (octet : ℕ) (p : PatternV) → HaveTheirs parts → octet ≤ 7
      → PartsPatterns c parts octet p → Contains (sequence_of (patterns_at rows) parts octet) p
  sequence_has [] octet p have low (parts_none is) = alone (record { marks = []; whole = true }) p is
  sequence_has (i ∷ parts) octet p have low (parts_cut has cut) =
      let here : Contains (patterns_at rows i octet) p = subst (λ (l : List PatternV). Contains l p) (have 0 i octet refl low) has in
      to_flat (before_all (sequence_of (patterns_at rows) parts) octet) (patterns_at rows i octet) here.0 p p here.1 here.2
      (before_cut (sequence_of (patterns_at rows) parts) octet p cut)
  sequence_has (i ∷ parts) octet p have low (parts_whole first others has whole rest is) =
      let here : Contains (patterns_at rows i octet) first = subst (λ (l : List PatternV). Contains l first) (have 0 i octet refl low) has in
      let k : ℕ = (octet + length first.marks) % 8 in
      to_flat (before_all (sequence_of (patterns_at rows) parts) octet) (patterns_at rows i octet) here.0 first p here.1 here.2
      (before_whole (sequence_of (patterns_at rows) parts) octet first others p whole
      (sequence_has parts k others (λ j m o there few. have (suc j) m o there few) (omega arith) rest) is)

  sequence_made : (parts : List ℕ) (octet : ℕ) (p : PatternV) → HaveTheirs parts → octet ≤ 7
      → Contains (sequence_of (patterns_at rows) parts octet) p → PartsPatterns c parts octet p
  sequence_made [] octet p have low has = parts_none (only (record { marks = []; whole = true }) p has)
  sequence_made (i ∷ parts) octet p have low has =
      let rests = sequence_of (patterns_at rows) parts in
      let found = from_flat (before_all rests octet) (patterns_at rows i octet) p has in
      let first : PatternV = found.0 in
      let here : Contains (claims.patterns_at c i octet) first = subst (λ (l : List PatternV). Contains l first) (sym (have 0 i octet refl low)) found.1 in
      by_case first here (before_told rests octet first p found.2)
      (λ others there. sequence_made parts ((octet + length first.marks) % 8) others
      (λ j m o at few. have (suc j) m o at few) (omega arith) there)
    where
      by_case : (first : PatternV) → Contains (claims.patterns_at c i octet) first
          → Before (sequence_of (patterns_at rows) parts) octet first p
          → ((others : PatternV) → Contains (sequence_of (patterns_at rows) parts ((octet + length first.marks) % 8))
          others → PartsPatterns c parts ((octet + length first.marks) % 8) others) → PartsPatterns c (i ∷ parts)
          octet p
      by_case first here (is_cut cut is) rest =
          parts_cut (subst (λ (q : PatternV). Contains (claims.patterns_at c i octet) q) (sym is) here)
          (ap (λ q. q.whole) is ∙ cut)
      by_case first here (is_whole others whole there is) rest = parts_whole first others here whole (rest others there) is

  abbrev pub HasTheirs : ℕ → Type 0
  HasTheirs i = (o : ℕ) → o ≤ 7 → claims.patterns_at c i o ≡ patterns_at rows i o

  times_have : (n i octet : ℕ) (p : PatternV) → HasTheirs i → octet ≤ 7 → TimesPatterns c n i octet p → Contains (times_of (patterns_at rows i) n octet) p
  times_have zero i octet p have low (times_none none is) = alone (record { marks = []; whole = true }) p is
  times_have zero i octet p have low (times_cut m is has cut) = absurd (omega (arith, is))
  times_have zero i octet p have low (times_whole m is first others has whole rest made) = absurd (omega (arith, is))
  times_have (suc n) i octet p have low (times_none none is) = absurd (omega (arith, none))
  times_have (suc n) i octet p have low (times_cut m is has cut) =
      let here : Contains (patterns_at rows i octet) p = subst (λ (l : List PatternV). Contains l p) (have octet low) has in
      to_flat (before_all (times_of (patterns_at rows i) n) octet) (patterns_at rows i octet) here.0 p p here.1 here.2
      (before_cut (times_of (patterns_at rows i) n) octet p cut)
  times_have (suc n) i octet p have low (times_whole m is first others has whole rest made) =
      let here : Contains (patterns_at rows i octet) first = subst (λ (l : List PatternV). Contains l first) (have octet low) has in
      let same : m ≡ n = omega (arith, is) in
      let k : ℕ = (octet + length first.marks) % 8 in
      to_flat (before_all (times_of (patterns_at rows i) n) octet) (patterns_at rows i octet) here.0 first p here.1 here.2
      (before_whole (times_of (patterns_at rows i) n) octet first others p whole
      (times_have n i k others have (omega arith) (subst (λ (t : ℕ). TimesPatterns c t i k others) same rest)) made)

  times_made : (n i octet : ℕ) (p : PatternV) → HasTheirs i → octet ≤ 7 → Contains (times_of (patterns_at rows i) n octet) p → TimesPatterns c n i octet p
  times_made zero i octet p have low has = times_none refl (only (record { marks = []; whole = true }) p has)
  times_made (suc n) i octet p have low has =
      let rests = times_of (patterns_at rows i) n in
      let found = from_flat (before_all rests octet) (patterns_at rows i octet) p has in
      let first : PatternV = found.0 in
      let here : Contains (claims.patterns_at c i octet) first = subst (λ (l : List PatternV). Contains l first) (sym (have octet low)) found.1 in
      by_case first here (before_told rests octet first p found.2)
      (λ others there. times_made n i ((octet + length first.marks) % 8) others have (omega arith) there)
    where
      by_case : (first : PatternV) → Contains (claims.patterns_at c i octet) first
          → Before (times_of (patterns_at rows i) n) octet first p
          → ((others : PatternV) → Contains (times_of (patterns_at rows i) n ((octet + length first.marks) % 8))
          others → TimesPatterns c n i ((octet + length first.marks) % 8) others) → TimesPatterns c (suc n) i octet p
      by_case first here (is_cut cut is) rest =
          times_cut n refl (subst (λ (q : PatternV). Contains (claims.patterns_at c i octet) q) (sym is) here)
          (ap (λ q. q.whole) is ∙ cut)
      by_case first here (is_whole others whole there is) rest = times_whole n refl first others here whole (rest others there) is

  choice_has : (parts : List ℕ) (j i octet : ℕ) (p : PatternV)
      → slice_get parts j ≡ Some i → Contains (patterns_at rows i octet) p
      → Contains (choice_of (patterns_at rows) parts octet) p
  choice_has [] j i octet p at has = absurd (cc)
  choice_has (k ∷ parts) zero i octet p at has =
      (let same : k ≡ i = cc in Contains-append_left (patterns_at rows k octet)
      (choice_of (patterns_at rows) parts octet) p (subst (λ (m : ℕ). Contains (patterns_at rows m octet) p)
      (sym same) has))
  choice_has (k ∷ parts) (suc j) i octet p at has = Contains-append_right (patterns_at rows k octet)
      (choice_of (patterns_at rows) parts octet) p (choice_has parts j i octet p at has)

  choice_made : (parts : List ℕ) (octet : ℕ) (p : PatternV) → Contains (choice_of (patterns_at rows) parts octet) p
      → (j : ℕ) × (i : ℕ) × (slice_get parts j ≡ Some i) × Contains (patterns_at rows i octet) p
  choice_made [] octet p has = absurd (omega (arith, has.1))
  choice_made (k ∷ parts) octet p has =
      ⊎_elim
      (λ (here : Contains (patterns_at rows k octet) p). (0, k, refl, here))
      (λ (later : Contains (choice_of (patterns_at rows) parts octet) p). let found =
      choice_made parts octet p later in (suc found.0, found.1, found.2, found.3))
      (Contains-append_cases (patterns_at rows k octet) (choice_of (patterns_at rows) parts octet) p has)

  pub node_has : (reading : Reading) (n : Node) (octet : ℕ) (p : PatternV) → HaveTheirs (parts_of n)
      → octet ≤ 7 → NodePatterns reading c n octet p → Contains (node_patterns reading rows n octet) p
  node_has reading (Lits run) octet p have low (patterns_lits is) = alone (leaf_pattern reading (Lits run) octet) p is
  node_has reading (Spare s) octet p have low (patterns_spare is) = alone (leaf_pattern reading (Spare s) octet) p is
  node_has reading Pad octet p have low (patterns_pad is) = alone (leaf_pattern reading Pad octet) p is
  node_has reading Null octet p have low (patterns_null is) = alone (leaf_pattern reading Null octet) p is
  node_has reading (Field unit (Fixed n)) octet p have low (patterns_field is) = alone (leaf_pattern reading (Field unit (Fixed n)) octet) p is
  node_has reading (Field unit (Counted m field k)) octet p have low (patterns_counted_field is) = alone unread p is
  node_has reading Rest octet p have low (patterns_rest is) = alone unread p is
  node_has reading (Many i) octet p have low (patterns_many is) = alone unread p is
  node_has reading (Trunc parts) octet p have low (patterns_trunc is) = alone unread p is
  node_has reading (Window unit count i) octet p have low (patterns_window is) = alone unread p is
  node_has reading (Times (Counted m field k) i) octet p have low (patterns_counted_times is) = alone unread p is
  node_has reading (Seq parts) octet p have low (patterns_seq has) = sequence_has parts octet p have low has
  node_has reading (Times (Fixed n) i) octet p have low (patterns_times has) = times_have n i octet p (λ o few. have 0 i o refl few) low has
  node_has reading (Choice parts) octet p have low (patterns_choice {i} j at has) = choice_has parts j i octet p at
      (subst (λ (l : List PatternV). Contains l p) (have j i octet at low) has)
  node_has reading (Named label i) octet p have low (patterns_named has) = subst (λ (l : List PatternV). Contains l p) (have 0 i octet refl low) has

  pub node_made : (reading : Reading) (n : Node) (octet : ℕ) (p : PatternV) → HaveTheirs (parts_of n)
      → octet ≤ 7 → Contains (node_patterns reading rows n octet) p → NodePatterns reading c n octet p
  node_made reading (Lits run) octet p have low has = patterns_lits (only (leaf_pattern reading (Lits run) octet) p has)
  node_made reading (Spare s) octet p have low has = patterns_spare (only (leaf_pattern reading (Spare s) octet) p has)
  node_made reading Pad octet p have low has = patterns_pad (only (leaf_pattern reading Pad octet) p has)
  node_made reading Null octet p have low has = patterns_null (only (leaf_pattern reading Null octet) p has)
  node_made reading (Field unit (Fixed n)) octet p have low has = patterns_field (only (leaf_pattern reading (Field unit (Fixed n)) octet) p has)
  node_made reading (Field unit (Counted m field k)) octet p have low has = patterns_counted_field (only unread p has)
  node_made reading Rest octet p have low has = patterns_rest (only unread p has)
  node_made reading (Many i) octet p have low has = patterns_many (only unread p has)
  node_made reading (Trunc parts) octet p have low has = patterns_trunc (only unread p has)
  node_made reading (Window unit count i) octet p have low has = patterns_window (only unread p has)
  node_made reading (Times (Counted m field k) i) octet p have low has = patterns_counted_times (only unread p has)
  node_made reading (Seq parts) octet p have low has = patterns_seq (sequence_made parts octet p have low has)
  node_made reading (Times (Fixed n) i) octet p have low has = patterns_times (times_made n i octet p (λ o few. have 0 i o refl few) low has)
  node_made reading (Choice parts) octet p have low has =
      let found = choice_made parts octet p has in
      patterns_choice found.0 found.2 (subst (λ (l : List PatternV). Contains l p) (sym (have found.0 found.1 octet found.2 low)) found.3)
  node_made reading (Named label i) octet p have low has = patterns_named (subst (λ (l : List PatternV). Contains l p) (sym (have 0 i octet refl low)) has)
