-- What the tests of the private functions come to for the rule of keys.
use Rattle.std.proofs.Common.{◌≡◌, ℕ, zero, suc, ◌+◌, ◌-◌, ◌%◌, ◌<◌, ◌≤◌, List, [], ◌∷◌, ◌++◌, length, take, map, inl}
use Rattle.std.proofs.Common.{inr, refl, sym, ◌∙◌, ap, subst, arith, Some, slice_get}
use Rattle.std.specs.Prelude.{◌⊎◌, ◌↔◌, IsTrue, Contains, replicate}
use Rattle.csn_bits.specs.Octets.{octet_position, pattern}
use Rattle.csn_desc.specs.declared.symbol.Symbol.{Symbol}
use Rattle.csn_desc.specs.declared.symbol.Symbol.TheVariants.{Zero, One, Low, High}
use Rattle.csn_desc.specs.declared.node.Count.{Count}
use Rattle.csn_desc.specs.declared.node.Count.TheVariants.{Fixed, Counted}
use Rattle.csn_desc.specs.declared.node.Node.{Node}
use Rattle.csn_desc.specs.declared.node.Node.TheVariants.{Lits, Spare, Pad, Null, Field, Rest, Seq, Choice, Times, Many, Trunc, Window, Named}
use Rattle.csn_desc.specs.Nodes.{DescV}
use Rattle.csn_desc.specs.Spelled.{symbol_bit, spelled}
use Rattle.csn_cert.specs.declared.pattern.Mark.{Mark}
use Rattle.csn_cert.specs.declared.pattern.Mark.TheVariants.{Any}
use Rattle.csn_cert.specs.PatternV.{PatternV}
use Rattle.csn_cert.specs.CertificateV.{NodeV, IsCertificate}
use Rattle.csn_good.specs.ClaimedSets.{claims_of}
use Rattle.csn_good.specs.Patterns.{mark_of, CoverMarks, Covers, IsCovered, PartsPatterns, TimesPatterns}
use Rattle.csn_good.specs.Patterns.{NodePatterns, patterns_lits, patterns_field, patterns_spare, patterns_pad}
use Rattle.csn_good.specs.Patterns.{patterns_null, patterns_rest, patterns_many, patterns_trunc, patterns_window}
use Rattle.csn_good.specs.Patterns.{patterns_counted_field, patterns_counted_times, patterns_seq, patterns_times}
use Rattle.csn_good.specs.Patterns.{patterns_choice, patterns_named, leaf_pattern}
use Rattle.csn_good.specs.Good.{KeepsKeys}
use Rattle.csn_good.specs.Made.{MadeAt, AreMade}
use Rattle.csn_good.specs.Covering.{IsLeaf, PartIsCovered, EachIsCovered, MadeIsCovered, LeafIsCovered}
use Rattle.csn_good.proofs.SetArms.{reached_small}
use Rattle.std.proofs.lemmas.Bool.{cases_order}
use Rattle.csn_good.proofs.Making.{take_part, take_whole}

-- ---- one pattern covers another

pub cover_from : (wides marks : List Mark)
    → length wides ≡ length marks → ((k : ℕ) (a b : Mark) → slice_get wides k ≡ Some a → slice_get marks k ≡ Some b
    → (a ≡ Any) ⊎ (a ≡ b)) → CoverMarks wides marks
cover_from [] [] size each = tt
cover_from [] (b ∷ marks) size each = absurd (omega arith)
cover_from (a ∷ wides) [] size each = absurd (omega arith)
cover_from (a ∷ wides) (b ∷ marks) size each = (each 0 a b refl refl, cover_from wides marks (omega arith) (λ k x y at_x at_y. each (suc k) x y at_x at_y))

pub cover_size : (wides marks : List Mark) → CoverMarks wides marks → length wides ≡ length marks
cover_size [] [] covers = refl
cover_size [] (b ∷ marks) covers = elim covers [ ]
cover_size (a ∷ wides) [] covers = elim covers [ ]
cover_size (a ∷ wides) (b ∷ marks) covers = ap suc (cover_size wides marks covers.1)

pub cover_at : (wides marks : List Mark) (k : ℕ) (a b : Mark) → CoverMarks wides marks → slice_get wides k ≡ Some a
    → slice_get marks k ≡ Some b → (a ≡ Any) ⊎ (a ≡ b)
cover_at [] marks k a b covers at_a at_b = absurd (cc)
cover_at (x ∷ wides) [] k a b covers at_a at_b = absurd (cc)
cover_at (x ∷ wides) (y ∷ marks) zero a b covers at_a at_b =
    let same_x : x ≡ a = cc in
    let same_y : y ≡ b = cc in
    subst (λ m. (m ≡ Any) ⊎ (m ≡ b)) same_x (subst (λ m. (x ≡ Any) ⊎ (x ≡ m)) same_y covers.0)
cover_at (x ∷ wides) (y ∷ marks) (suc k) a b covers at_a at_b = cover_at wides marks k a b covers.1 at_a at_b

pub sizes_same : (wide p : PatternV) → Covers wide p → length wide.marks ≡ length p.marks
sizes_same wide p covers = cover_size wide.marks p.marks covers.marks

-- ---- marks of leaves

symbol_turn : (s : Symbol) (n : ℕ) → symbol_bit s (n % 8) ≡ symbol_bit s n
symbol_turn Zero n = refl
symbol_turn One n = refl
symbol_turn Low n = let same : octet_position (n % 8) ≡ octet_position n = omega arith in ap pattern same
symbol_turn High n = let same : octet_position (n % 8) ≡ octet_position n = omega arith in ap (λ o. 1 - pattern o) same

spelled_at : (run : List Symbol) (place k : ℕ) (s : Symbol)
    → slice_get run k ≡ Some s → slice_get (map mark_of (spelled run place)) k ≡ Some
    (mark_of (symbol_bit s (place + k)))
spelled_at [] place k s at = absurd (cc)
spelled_at (x ∷ run) place zero s at =
    let same : x ≡ s = cc in
    let here : place ≡ place + 0 = omega arith in
    ap (λ y. Some (mark_of (symbol_bit y place))) same ∙ ap (λ n. Some (mark_of (symbol_bit s n))) here
spelled_at (x ∷ run) place (suc k) s at =
    let there : suc place + k ≡ place + suc k = omega arith in
    spelled_at run (suc place) k s at ∙ ap (λ n. Some (mark_of (symbol_bit s n))) there

pub spelled_size : (run : List Symbol) (place : ℕ) → length (map mark_of (spelled run place)) ≡ length run
spelled_size [] place = refl
spelled_size (x ∷ run) place = ap suc (spelled_size run (suc place))

pub spelled_on : (run : List Symbol) (place k : ℕ) (s : Symbol) (mark : Mark)
    → slice_get run k ≡ Some s → mark ≡ mark_of (symbol_bit s ((place + k) % 8))
    → take (k + 1) (map mark_of (spelled run place)) ≡ take k (map mark_of (spelled run place)) ++ mark ∷ []
spelled_on run place k s mark at is =
    let marks = map mark_of (spelled run place) in
    let own = is ∙ ap mark_of (symbol_turn s (place + k)) in
    take_part marks k mark (spelled_at run place k s at ∙ ap Some (sym own))

pub replicate_at : (n k : ℕ) (mark : Mark) → k < n → slice_get (replicate n mark) k ≡ Some mark
replicate_at zero k mark less = absurd (omega arith)
replicate_at (suc n) zero mark less = refl
replicate_at (suc n) (suc k) mark less = replicate_at n k mark (omega arith)

pub replicate_size : (n : ℕ) (mark : Mark) → length (replicate n mark) ≡ n
replicate_size zero mark = refl
replicate_size (suc n) mark = ap suc (replicate_size n mark)

-- no more is taken where as many as there are, or twelve, are taken
pub take_until : {X : Type 0} (xs : List X) (k : ℕ) → k ≤ 12 → (k < 12 → length xs ≤ k) → take k xs ≡ take 12 xs
take_until xs k most all = elim (cases_order k 12) [
  | inl same ↦ ap (λ n. take n xs) same
  | inr apart ↦ elim apart [
    | inl less ↦ (let long = all less in take_whole xs k long ∙ sym (take_whole xs 12 (omega arith)))
    | inr more ↦ absurd (omega (arith, more))
  ]
]

-- ---- what the equation of a node makes

-- a node of none of these kinds is a leaf
pub other_is_leaf : (n : Node) → ((parts : List ℕ) → ¬ (n ≡ Seq parts)) → ((parts : List ℕ) → ¬ (n ≡ Choice parts))
    → ((count : Count) (part : ℕ) → ¬ (n ≡ Times count part))
    → ((label : List ℕ) (part : ℕ) → ¬ (n ≡ Named label part)) → IsLeaf n
other_is_leaf (Seq parts) no_seq no_choice no_times no_name = no_seq parts refl
other_is_leaf (Choice parts) no_seq no_choice no_times no_name = no_choice parts refl
other_is_leaf (Times count part) no_seq no_choice no_times no_name = absurd (no_times count part refl)
other_is_leaf (Named label part) no_seq no_choice no_times no_name = no_name label part refl
other_is_leaf _ no_seq no_choice no_times no_name = tt

module _ (d : DescV) (c : List NodeV) (is : IsCertificate c) (i : ℕ) where
  leaf_only : {n : Node} {o : ℕ} {p : PatternV} → IsLeaf n → NodePatterns d.reading c n o p → p ≡ leaf_pattern d.reading n o
  leaf_only leaf (patterns_lits same) = same
  leaf_only leaf (patterns_field same) = same
  leaf_only leaf (patterns_spare same) = same
  leaf_only leaf (patterns_pad same) = same
  leaf_only leaf (patterns_null same) = same
  leaf_only leaf (patterns_rest same) = same
  leaf_only leaf (patterns_many same) = same
  leaf_only leaf (patterns_trunc same) = same
  leaf_only leaf (patterns_window same) = same
  leaf_only leaf (patterns_counted_field same) = same
  leaf_only leaf (patterns_counted_times same) = same
  leaf_only leaf (patterns_seq h) = elim leaf [ ]
  leaf_only leaf (patterns_times h) = elim leaf [ ]
  leaf_only leaf (patterns_choice j at h) = elim leaf [ ]
  leaf_only leaf (patterns_named h) = elim leaf [ ]

  leaf_made : (n : Node) (o : ℕ) → IsLeaf n → NodePatterns d.reading c n o (leaf_pattern d.reading n o)
  leaf_made (Lits run) o leaf = patterns_lits refl
  leaf_made (Spare s) o leaf = patterns_spare refl
  leaf_made Pad o leaf = patterns_pad refl
  leaf_made Null o leaf = patterns_null refl
  leaf_made (Field unit (Fixed n)) o leaf = patterns_field refl
  leaf_made (Field unit (Counted m field k)) o leaf = patterns_counted_field refl
  leaf_made Rest o leaf = patterns_rest refl
  leaf_made (Seq parts) o leaf = elim leaf [ ]
  leaf_made (Choice parts) o leaf = elim leaf [ ]
  leaf_made (Times (Fixed n) part) o leaf = elim leaf [ ]
  leaf_made (Times (Counted m field k) part) o leaf = patterns_counted_times refl
  leaf_made (Many part) o leaf = patterns_many refl
  leaf_made (Trunc parts) o leaf = patterns_trunc refl
  leaf_made (Window unit count part) o leaf = patterns_window refl
  leaf_made (Named label part) o leaf = elim leaf [ ]

  pub leaf_keys : (n : Node) → IsLeaf n → KeepsKeys d c i n ↔ LeafIsCovered d.reading c i n
  leaf_keys n leaf = (
    (λ keeps o low reached. keeps o (leaf_pattern d.reading n o) reached (leaf_made n o leaf)),
    (λ h o p reached made. subst (λ q. IsCovered c i o q) (sym (leaf_only leaf made)) (h o (reached_small c is i o reached) reached)),
  )

  seq_only : {parts : List ℕ} {o : ℕ} {p : PatternV} → NodePatterns d.reading c (Seq parts) o p → PartsPatterns c parts o p
  seq_only (patterns_seq h) = h

  pub seq_keys : (parts : List ℕ) (made : List (List PatternV)) → AreMade made (PartsPatterns c parts) → KeepsKeys d c i (Seq parts) ↔ MadeIsCovered c i made
  seq_keys parts made are = (
    (λ keeps o low p reached h. keeps o p reached (patterns_seq ((are.are o p low).0 h))),
    (λ h o p reached m. let low = reached_small c is i o reached in h o low p reached ((are.are o p low).1 (seq_only m))),
  )

  times_only : {n part o : ℕ} {p : PatternV} → NodePatterns d.reading c (Times (Fixed n) part) o p → TimesPatterns c n part o p
  times_only (patterns_times h) = h

  pub times_keys : (n part : ℕ) (made : List (List PatternV)) → AreMade made (TimesPatterns c n part)
      → KeepsKeys d c i (Times (Fixed n) part) ↔ MadeIsCovered c i made
  times_keys n part made are = (
    (λ keeps o low p reached h. keeps o p reached (patterns_times ((are.are o p low).0 h))),
    (λ h o p reached m. let low = reached_small c is i o reached in h o low p reached ((are.are o p low).1 (times_only m))),
  )

  choice_covered : {parts : List ℕ} {o : ℕ} {p : PatternV}
      → EachIsCovered c i parts → IsTrue ((claims_of c).reached i o) → NodePatterns d.reading c (Choice parts) o p
      → IsCovered c i o p
  choice_covered {o = o} {p = p} each reached (patterns_choice {i = part} j at there) = each j part at o (reached_small c is i o reached) reached p there

  pub choice_keys : (parts : List ℕ) → KeepsKeys d c i (Choice parts) ↔ EachIsCovered c i parts
  choice_keys parts = (
    (λ keeps place part at o low reached p there. keeps o p reached (patterns_choice place at there)),
    (λ each o p reached m. choice_covered each reached m),
  )

  named_covered : {label : List ℕ} {part o : ℕ} {p : PatternV}
      → PartIsCovered c i part → IsTrue ((claims_of c).reached i o) → NodePatterns d.reading c (Named label part) o p
      → IsCovered c i o p
  named_covered {o = o} {p = p} h reached (patterns_named there) = h o (reached_small c is i o reached) reached p there

  pub named_keys : (label : List ℕ) (part : ℕ) → KeepsKeys d c i (Named label part) ↔ PartIsCovered c i part
  named_keys label part = (
    (λ keeps o low reached p there. keeps o p reached (patterns_named there)),
    (λ h o p reached m. named_covered h reached m),
  )

-- ---- what is made from one octet position on

pub in_set : (made : List (List PatternV)) (o : ℕ) (patterns : List PatternV) (p : PatternV)
    → slice_get made o ≡ Some patterns → MadeAt made o p → Contains patterns p
in_set made o patterns p at h =
    let found = h.at in
    let list : h.patterns ≡ patterns = cc in
    subst (λ l. Contains l p) list h.is_made
