-- Every tree whose leaves are bits has bits at a node, or misses it.
use Rattle.std.proofs.Common.{◌≡◌, ℕ, zero, suc, ◌+◌, ◌*◌, ◌<◌, ◌≤◌, ◌⊎◌, inl, inr, true, false, List, [], ◌∷◌, ◌++◌}
use Rattle.std.proofs.Common.{length, length-append, refl, sym, ◌∙◌, ap, subst, arith, Some, slice_get}
use Rattle.std.specs.Prelude.{replicate}
use Rattle.std.proofs.lemmas.Bool.{cases_lt}
use Rattle.csn_bits.specs.Octets.{IsBits, most_bits}
use Rattle.csn_desc.specs.declared.reading.Reading.{Reading}
use Rattle.csn_desc.specs.declared.reading.Reading.TheVariants.{Received, Sent}
use Rattle.csn_desc.specs.declared.symbol.Symbol.{Symbol}
use Rattle.csn_desc.specs.declared.symbol.Symbol.TheVariants.{Low}
use Rattle.csn_desc.specs.declared.node.Count.{Count}
use Rattle.csn_desc.specs.declared.node.Node.{Node}
use Rattle.csn_desc.specs.declared.node.Node.TheVariants.{Lits, Spare, Pad, Null, Field, Rest, Seq, Choice, Times, Many, Trunc, Window, Named}
use Rattle.csn_desc.specs.TreeV.{TreeV, empty, bits, row, alt, named, Trees, none, more}
use Rattle.csn_desc.specs.TreeParts.{HasTreeParts, AllHaveTreeParts}
use Rattle.csn_desc.specs.Nodes.{DescV}
use Rattle.csn_desc.specs.Spelled.{spelled, IsSpare}
use Rattle.csn_desc.specs.Values.{Values, count_of, with_value}
use Rattle.csn_desc.specs.Means.{NMeans, NodeMeans, means_at, means_lits, means_spare, means_pad, means_null}
use Rattle.csn_desc.specs.Means.{means_field, means_rest, means_seq, means_choice, means_times, means_many}
use Rattle.csn_desc.specs.Means.{means_window, means_named, TimesMean, times_end, times_next}
use Rattle.csn_desc.specs.Formed.{counts_on, node_counts_on, with_seen, IsCount, Formed, PartsFormed, formed}
use Rattle.csn_desc.specs.Formed.{formed_end, formed_next, FitWidths, IsDescription}
use Rattle.csn_desc.proofs.ValuesKept.{fits_kept}
use Rattle.csn_desc.proofs.BitFacts.{length-spelled}
use Rattle.csn_certify.specs.Conflicts.{Certified}
use Rattle.csn_certify.specs.Laws.{FreeTurnsHaveBits}
use Rattle.csn_certify.specs.CountedValues.{fields_of}
use Rattle.csn_certify.proofs.CountedValues.{has_number, fields_behind}
use Rattle.csn_encode.specs.declared.misfit.MisfitWhy.{MisfitWhy}
use Rattle.csn_encode.specs.declared.misfit.MisfitWhy.TheVariants.{WrongKind, WrongLabel, WrongCount, WrongWidth}
use Rattle.csn_encode.specs.declared.misfit.MisfitWhy.TheVariants.{WrongSpare, NoSuchAlternative, WindowLength}
use Rattle.csn_encode.specs.declared.misfit.MisfitWhy.TheVariants.{TooManyBits}
use Rattle.csn_encode.specs.Misfits.{tree_count, kept_count, HavePieces, pieces_end, pieces_next, MissesNode}
use Rattle.csn_encode.specs.Misfits.{wrong_kind, wrong_label, wrong_seq, wrong_times, wrong_trunc, idle_trunc}
use Rattle.csn_encode.specs.Misfits.{wrong_field, wide_spare, no_pad, wrong_spare, wrong_pad, no_alternative}
use Rattle.csn_encode.specs.Misfits.{wrong_window, past_lits, past_field, past_rest, past_spare, past_pad, Misses}
use Rattle.csn_encode.specs.Misfits.{misses_at, MissesIn, misses_here, misses_named, misses_choice, misses_window}
use Rattle.csn_encode.specs.Misfits.{misses_seq, misses_trunc, misses_times, misses_many, MissesParts, parts_here}
use Rattle.csn_encode.specs.Misfits.{parts_later, MissesRepeats, repeats_here, repeats_later}
use Rattle.csn_encode.specs.Writing.{joined}
use Rattle.csn_encode.proofs.Counting.{number_there}
use Rattle.csn_encode.proofs.Rows.{pieces_parts, pieces_trunc, times_many}

-- bits that end within a block mean it, or it is missed
pub data Settled (means : List ℕ → Type 0) (misses : List ℕ → MisfitWhy → Type 0) (o : ℕ) : Type 0 where
  fits : (b : List ℕ) → means b → o + length b ≤ most_bits → Settled means misses o
  fails : (path : List ℕ) (why : MisfitWhy) → misses path why → Settled means misses o

settled_as : {P Q : List ℕ → Type 0} {X Y : List ℕ → MisfitWhy → Type 0} {o : ℕ} → ((b : List ℕ) → P b → Q b)
    → ((path : List ℕ) (why : MisfitWhy) → X path why → Y path why) → Settled P X o → Settled Q Y o
settled_as fit miss (fits b m within) = fits b (fit b m) within
settled_as fit miss (fails path why m) = fails path why (miss path why m)

-- ---- what can be decided

same_or : (m n : ℕ) → (m ≡ n) ⊎ ¬ (m ≡ n)
same_or m n = elim (cases_lt m n) [
  | inl less ↦ inr (λ e. omega (arith, less, e))
  | inr least ↦ elim (cases_lt n m) [
    | inl less ↦ inr (λ e. omega (arith, less, e))
    | inr most ↦ inl (omega (arith, least, most))
  ]
]

same_lists : (xs ys : List ℕ) → (xs ≡ ys) ⊎ ¬ (xs ≡ ys)
same_lists [] [] = inl refl
same_lists [] (y ∷ ys) = inr (λ e. cc)
same_lists (x ∷ xs) [] = inr (λ e. cc)
same_lists (x ∷ xs) (y ∷ ys) = both (same_or x y) (same_lists xs ys)
  where
    both : (x ≡ y) ⊎ ¬ (x ≡ y) → (xs ≡ ys) ⊎ ¬ (xs ≡ ys) → (x ∷ xs ≡ y ∷ ys) ⊎ ¬ (x ∷ xs ≡ y ∷ ys)
    both (inl e) (inl f) = inl (cc)
    both (inr e) f = inr (λ g. e (cc))
    both (inl e) (inr f) = inr (λ g. f (cc))

spare_or : (r : Reading) (s : Symbol) (o : ℕ) (b : List ℕ) → IsBits b → IsSpare r s o b ⊎ ((r ≡ Sent) × ¬ IsSpare Sent s o b)
spare_or Received s o b are = inl are
spare_or Sent s o b are = elim (same_lists b (spelled (replicate (length b) s) o)) [ inl e ↦ inl e | inr other ↦ inr (refl, other) ]

-- there is an alternative with the number, or there are not so many
at_or : (parts : List ℕ) (j : ℕ) → (length parts ≤ j) ⊎ ((i : ℕ) × (slice_get parts j ≡ Some i))
at_or [] j = inl (omega arith)
at_or (i ∷ parts) zero = inr (i, refl)
at_or (i ∷ parts) (suc j) = elim (at_or parts j) [ inl few ↦ inl (omega (arith, few)) | inr there ↦ inr there ]

module _ (d : DescV) where
  abbrev SettledAt : ℕ → ℕ → Values → TreeV → Type 0
  SettledAt i o v t = Settled (λ b. NMeans d i o v b t) (λ path why. Misses d i o v t path why) o

  abbrev SettledIn : Node → ℕ → Values → TreeV → Type 0
  SettledIn n o v t = Settled (λ b. NodeMeans d n o v b t) (λ path why. MissesIn d n o v t path why) o

  abbrev SettledParts : List ℕ → ℕ → ℕ → Values → Trees → Type 0
  SettledParts parts at o v ts =
      Settled (λ b. (pieces : List (List ℕ)) × (b ≡ joined pieces) × HavePieces d parts o v ts pieces) (λ path why. MissesParts d parts at o v ts path why) o

  abbrev SettledTurns : ℕ → ℕ → ℕ → Values → Trees → Type 0
  SettledTurns i at o v ts = Settled (λ b. TimesMean d (tree_count ts) i o v b ts) (λ path why. MissesRepeats d i at o v ts path why) o

  here : {n : Node} {o : ℕ} {v : Values} {t : TreeV} (why : MisfitWhy) → MissesNode d n o v t why → SettledIn n o v t
  here why m = fails [] why (misses_here refl m)

  settled_at : {i o : ℕ} {v : Values} {t : TreeV} (n : Node) → slice_get d.nodes i ≡ Some n → SettledIn n o v t → SettledAt i o v t
  settled_at n at s = settled_as (λ b m. means_at n at m) (λ path why m. misses_at n at m) s

  -- ---- leaves

  lits_settled : (run : List Symbol) (o : ℕ) (v : Values) (t : TreeV) → SettledIn (Lits run) o v t
  lits_settled run o v empty = elim (cases_lt most_bits (o + length run)) [
    | inl past ↦ here TooManyBits (past_lits past refl)
    | inr room ↦ fits (spelled run o) (means_lits refl) (omega (arith, room, length-spelled run o))
  ]
  lits_settled run o v (bits b) = here WrongKind (wrong_kind refl refl)
  lits_settled run o v (row ts) = here WrongKind (wrong_kind refl refl)
  lits_settled run o v (alt j t) = here WrongKind (wrong_kind refl refl)
  lits_settled run o v (named l t) = here WrongKind (wrong_kind refl refl)

  null_settled : (o : ℕ) (v : Values) (t : TreeV) → o ≤ most_bits → SettledIn Null o v t
  null_settled o v empty within = fits [] (means_null refl) (omega (arith, within))
  null_settled o v (bits b) within = here WrongKind (wrong_kind refl refl)
  null_settled o v (row ts) within = here WrongKind (wrong_kind refl refl)
  null_settled o v (alt j t) within = here WrongKind (wrong_kind refl refl)
  null_settled o v (named l t) within = here WrongKind (wrong_kind refl refl)

  spare_bit : (s : Symbol) (o : ℕ) (v : Values) (b : List ℕ) → IsBits b → SettledIn (Spare s) o v (bits b)
  spare_bit s o v b are = elim (same_or (length b) 1) [
    | inr wide ↦ here (WrongWidth 1 (length b)) (wide_spare wide refl)
    | inl one ↦ elim (spare_or d.reading s o b are) [
      | inr other ↦ here WrongSpare (wrong_spare one other.0 other.1 refl)
      | inl spare ↦ elim (cases_lt most_bits (o + 1)) [
        | inl past ↦ here TooManyBits (past_spare one spare past refl)
        | inr room ↦ fits b (means_spare one spare) (omega (arith, room, one))
      ]
    ]
  ]

  spare_settled : (s : Symbol) (o : ℕ) (v : Values) (t : TreeV) → HasTreeParts t → SettledIn (Spare s) o v t
  spare_settled s o v (bits b) leaves = spare_bit s o v b leaves.0
  spare_settled s o v empty leaves = here WrongKind (wrong_kind refl refl)
  spare_settled s o v (row ts) leaves = here WrongKind (wrong_kind refl refl)
  spare_settled s o v (alt j t) leaves = here WrongKind (wrong_kind refl refl)
  spare_settled s o v (named l t) leaves = here WrongKind (wrong_kind refl refl)

  pad_bits : (o : ℕ) (v : Values) (b : List ℕ) → IsBits b → SettledIn Pad o v (bits b)
  pad_bits o v [] are = here (WrongWidth 1 0) (no_pad refl refl)
  pad_bits o v (x ∷ b) are = elim (spare_or d.reading Low o (x ∷ b) are) [
    | inr other ↦ here WrongSpare (wrong_pad (omega arith) other.0 other.1 refl)
    | inl spare ↦ elim (cases_lt most_bits (o + length (x ∷ b))) [
      | inl past ↦ here TooManyBits (past_pad (omega arith) spare past refl)
      | inr room ↦ fits (x ∷ b) (means_pad (omega arith) spare) room
    ]
  ]

  pad_settled : (o : ℕ) (v : Values) (t : TreeV) → HasTreeParts t → SettledIn Pad o v t
  pad_settled o v (bits b) leaves = pad_bits o v b leaves.0
  pad_settled o v empty leaves = here WrongKind (wrong_kind refl refl)
  pad_settled o v (row ts) leaves = here WrongKind (wrong_kind refl refl)
  pad_settled o v (alt j t) leaves = here WrongKind (wrong_kind refl refl)
  pad_settled o v (named l t) leaves = here WrongKind (wrong_kind refl refl)

  rest_settled : (o : ℕ) (v : Values) (t : TreeV) → HasTreeParts t → SettledIn Rest o v t
  rest_settled o v (bits b) leaves = elim (cases_lt most_bits (o + length b)) [
    | inl past ↦ here TooManyBits (past_rest past refl)
    | inr room ↦ fits b (means_rest leaves.0) room
  ]
  rest_settled o v empty leaves = here WrongKind (wrong_kind refl refl)
  rest_settled o v (row ts) leaves = here WrongKind (wrong_kind refl refl)
  rest_settled o v (alt j t) leaves = here WrongKind (wrong_kind refl refl)
  rest_settled o v (named l t) leaves = here WrongKind (wrong_kind refl refl)

  field_settled : (unit : ℕ) (count : Count) (n o : ℕ) (v : Values) (t : TreeV)
      → count_of v count ≡ Some n → HasTreeParts t → SettledIn (Field unit count) o v t
  field_settled unit count n o v (bits b) counted leaves = elim (same_or (length b) (unit * n)) [
    | inr wide ↦ here (WrongWidth (unit * n) (length b)) (wrong_field n counted wide refl)
    | inl all ↦ elim (cases_lt most_bits (o + length b)) [
      | inl past ↦ here TooManyBits (past_field n counted all past refl)
      | inr room ↦ fits b (means_field n counted all leaves.0) room
    ]
  ]
  field_settled unit count n o v empty counted leaves = here WrongKind (wrong_kind refl refl)
  field_settled unit count n o v (row ts) counted leaves = here WrongKind (wrong_kind refl refl)
  field_settled unit count n o v (alt j t) counted leaves = here WrongKind (wrong_kind refl refl)
  field_settled unit count n o v (named l t) counted leaves = here WrongKind (wrong_kind refl refl)

  -- ---- nodes of parts, by what comes of the parts

  seq_settled : (parts : List ℕ) (o : ℕ) (v : Values) (t : TreeV)
      → HasTreeParts t
      → ((ts : Trees) → AllHaveTreeParts ts → tree_count ts ≤ length parts → SettledParts parts 0 o v ts)
      → SettledIn (Seq parts) o v t
  seq_settled parts o v (row ts) leaves each = elim (same_or (tree_count ts) (length parts)) [
    | inr other ↦ here (WrongCount (length parts) (tree_count ts)) (wrong_seq other refl)
    | inl all ↦ settled_as (λ b m. let P : List ℕ → Type 0 = λ c. NodeMeans d (Seq parts) o v c (row ts) in
        subst P (sym m.1) (means_seq (pieces_parts d m.2 all))) (λ path why m. misses_seq all m)
        (each ts leaves (omega (arith, all)))
  ]
  seq_settled parts o v empty leaves each = here WrongKind (wrong_kind refl refl)
  seq_settled parts o v (bits b) leaves each = here WrongKind (wrong_kind refl refl)
  seq_settled parts o v (alt j t) leaves each = here WrongKind (wrong_kind refl refl)
  seq_settled parts o v (named l t) leaves each = here WrongKind (wrong_kind refl refl)

  cut_settled : (parts : List ℕ) (o : ℕ) (v : Values) (ts : Trees) → tree_count ts ≤ length parts
      → SettledParts parts 0 o v ts → SettledIn (Trunc parts) o v (row ts)
  cut_settled parts o v ts few (fails path why m) = fails path why (misses_trunc few m)
  cut_settled parts o v ts few (fits b m within) = elim (cases_lt (kept_count m.0) (length m.0)) [
    | inl idle ↦ here (WrongCount (kept_count m.0) (length m.0)) (idle_trunc m.0 m.2 idle refl)
    | inr all ↦ let P : List ℕ → Type 0 = λ c. NodeMeans d (Trunc parts) o v c (row ts) in fits b (subst P (sym m.1) (pieces_trunc d m.2 all)) within
  ]

  trunc_settled : (parts : List ℕ) (o : ℕ) (v : Values) (t : TreeV)
      → HasTreeParts t
      → ((ts : Trees) → AllHaveTreeParts ts → tree_count ts ≤ length parts → SettledParts parts 0 o v ts)
      → SettledIn (Trunc parts) o v t
  trunc_settled parts o v (row ts) leaves each = elim (cases_lt (length parts) (tree_count ts)) [
    | inl over ↦ here (WrongCount (length parts) (tree_count ts)) (wrong_trunc over refl)
    | inr few ↦ cut_settled parts o v ts few (each ts leaves few)
  ]
  trunc_settled parts o v empty leaves each = here WrongKind (wrong_kind refl refl)
  trunc_settled parts o v (bits b) leaves each = here WrongKind (wrong_kind refl refl)
  trunc_settled parts o v (alt j t) leaves each = here WrongKind (wrong_kind refl refl)
  trunc_settled parts o v (named l t) leaves each = here WrongKind (wrong_kind refl refl)

  alternative_settled : (parts : List ℕ) (j i o : ℕ) (v : Values) (t : TreeV)
      → slice_get parts j ≡ Some i → SettledAt i o v t → SettledIn (Choice parts) o v (alt j t)
  alternative_settled parts j i o v t there (fits b m within) = fits b (means_choice there m) within
  alternative_settled parts j i o v t there (fails path why m) = fails (0 ∷ path) why (misses_choice path refl there m)

  choice_settled : (parts : List ℕ) (o : ℕ) (v : Values) (t : TreeV)
      → HasTreeParts t → ((j i : ℕ) (u : TreeV) → HasTreeParts u → slice_get parts j ≡ Some i → SettledAt i o v u)
      → SettledIn (Choice parts) o v t
  choice_settled parts o v (alt j t) leaves each = elim (at_or parts j) [
    | inl few ↦ here NoSuchAlternative (no_alternative few refl)
    | inr there ↦ alternative_settled parts j there.0 o v t there.1 (each j there.0 t leaves there.1)
  ]
  choice_settled parts o v empty leaves each = here WrongKind (wrong_kind refl refl)
  choice_settled parts o v (bits b) leaves each = here WrongKind (wrong_kind refl refl)
  choice_settled parts o v (row ts) leaves each = here WrongKind (wrong_kind refl refl)
  choice_settled parts o v (named l t) leaves each = here WrongKind (wrong_kind refl refl)

  labelled_settled : (label : List ℕ) (part o : ℕ) (v : Values) (t : TreeV) → SettledAt part o v t → SettledIn (Named label part) o v (named label t)
  labelled_settled label part o v t (fits b m within) = fits b (means_named m) within
  labelled_settled label part o v t (fails path why m) = fails (0 ∷ path) why (misses_named path refl refl m)

  named_settled : (label : List ℕ) (part o : ℕ) (v : Values) (t : TreeV)
      → HasTreeParts t → ((u : TreeV) → HasTreeParts u → SettledAt part o v u) → SettledIn (Named label part) o v t
  named_settled label part o v (named l t) leaves each = elim (same_lists l label) [
    | inr other ↦ here WrongLabel (wrong_label other refl)
    | inl same ↦
        let P : List ℕ → Type 0 = λ k. SettledIn (Named label part) o v (named k t) in
        subst P (sym same) (labelled_settled label part o v t (each t leaves.1))
  ]
  named_settled label part o v empty leaves each = here WrongKind (wrong_kind refl refl)
  named_settled label part o v (bits b) leaves each = here WrongKind (wrong_kind refl refl)
  named_settled label part o v (row ts) leaves each = here WrongKind (wrong_kind refl refl)
  named_settled label part o v (alt j t) leaves each = here WrongKind (wrong_kind refl refl)

  window_settled : (unit : ℕ) (count : Count) (n part o : ℕ) (v : Values) (t : TreeV)
      → count_of v count ≡ Some n → SettledAt part o v t → SettledIn (Window unit count part) o v t
  window_settled unit count n part o v t counted (fails path why m) = fails path why (misses_window m)
  window_settled unit count n part o v t counted (fits b m within) = elim (same_or (length b) (unit * n)) [
    | inr other ↦ here (WindowLength (unit * n) (length b)) (wrong_window n b counted m within other refl)
    | inl all ↦ fits b (means_window n counted all m) within
  ]

  -- ---- turns

  turn_settled : (i at o : ℕ) (v : Values) (t : TreeV) (ts : Trees) (b : List ℕ)
      → NMeans d i o v b t → o + length b ≤ most_bits → SettledTurns i (suc at) (o + length b) v ts
      → SettledTurns i at o v (more t ts)
  turn_settled i at o v t ts b m within (fits c ms room) =
      fits (b ++ c) (times_next (tree_count ts) refl b c refl m ms) (omega (arith, room, length-append b c))
  turn_settled i at o v t ts b m within (fails path why ms) = fails path why (repeats_later b m within ms)

  turns_settled : (i at o : ℕ) (v : Values) (ts : Trees) → o ≤ most_bits → AllHaveTreeParts ts
      → ((o : ℕ) (t : TreeV) → o ≤ most_bits → HasTreeParts t → SettledAt i o v t) → SettledTurns i at o v ts
  turns_settled i at o v none within leaves each = fits [] (times_end refl refl) (omega (arith, within))
  turns_settled i at o v (more t ts) within leaves each = elim (each o t within leaves.0) [
    | fails path why m ↦ fails (at ∷ path) why (repeats_here path refl m)
    | fits b m room ↦ turn_settled i at o v t ts b m room (turns_settled i (suc at) (o + length b) v ts room leaves.1 each)
  ]

  times_settled : (count : Count) (n part o : ℕ) (v : Values) (t : TreeV) → count_of v count ≡ Some n → HasTreeParts t
      → ((ts : Trees) → AllHaveTreeParts ts → SettledTurns part 0 o v ts) → SettledIn (Times count part) o v t
  times_settled count n part o v (row ts) counted leaves each = elim (same_or (tree_count ts) n) [
    | inr other ↦ here (WrongCount n (tree_count ts)) (wrong_times n counted other refl)
    | inl all ↦ settled_as (λ b m. let P : ℕ → Type 0 = λ k. TimesMean d k part o v b ts in
        means_times n counted (subst P all m)) (λ path why m. misses_times n counted all m) (each ts leaves)
  ]
  times_settled count n part o v empty counted leaves each = here WrongKind (wrong_kind refl refl)
  times_settled count n part o v (bits b) counted leaves each = here WrongKind (wrong_kind refl refl)
  times_settled count n part o v (alt j t) counted leaves each = here WrongKind (wrong_kind refl refl)
  times_settled count n part o v (named l t) counted leaves each = here WrongKind (wrong_kind refl refl)

  many_settled : (part o : ℕ) (v : Values) (t : TreeV)
      → ((o : ℕ) (b : List ℕ) (t : TreeV) → NMeans d part o v b t → 0 < length b)
      → HasTreeParts t → ((ts : Trees) → AllHaveTreeParts ts → SettledTurns part 0 o v ts)
      → SettledIn (Many part) o v t
  many_settled part o v (row ts) some leaves each = settled_as (λ b m. means_many (times_many d some m)) (λ path why m. misses_many m) (each ts leaves)
  many_settled part o v empty some leaves each = here WrongKind (wrong_kind refl refl)
  many_settled part o v (bits b) some leaves each = here WrongKind (wrong_kind refl refl)
  many_settled part o v (alt j t) some leaves each = here WrongKind (wrong_kind refl refl)
  many_settled part o v (named l t) some leaves each = here WrongKind (wrong_kind refl refl)

  -- ---- parts

  part_settled : (i : ℕ) (parts : List ℕ) (at o : ℕ) (v : Values) (t : TreeV) (ts : Trees) (b : List ℕ) → NMeans d i o v b t → o + length b ≤ most_bits
      → SettledParts parts (suc at) (o + length b) (with_value d.nodes i b v) ts → SettledParts (i ∷ parts) at o v (more t ts)
  part_settled i parts at o v t ts b m within (fits c ms room) =
      fits (b ++ c) (b ∷ ms.0, ap (λ l. b ++ l) ms.1, pieces_next b ms.0 refl m within ms.2) (omega (arith, room, length-append b c))
  part_settled i parts at o v t ts b m within (fails path why ms) = fails path why (parts_later b m within ms)

  first_settled : (i : ℕ) (parts : List ℕ) (at o : ℕ) (v : Values) (t : TreeV) (ts : Trees) → SettledAt i o v t
      → ((b : List ℕ) → NMeans d i o v b t → o + length b ≤ most_bits → SettledParts parts (suc at) (o + length b)
      (with_value d.nodes i b v) ts) → SettledParts (i ∷ parts) at o v (more t ts)
  first_settled i parts at o v t ts (fails path why m) behind = fails (at ∷ path) why (parts_here path refl m)
  first_settled i parts at o v t ts (fits b m within) behind = part_settled i parts at o v t ts b m within (behind b m within)

  -- ---- every node

  module _ (is : IsDescription d) (certified : Certified d 12) (free : FreeTurnsHaveBits) where
    counted : {v : Values} (i : ℕ) (n : Node) (count : Count) (seen : List ℕ) → seen ≡ fields_of v → FitWidths d v
        → slice_get d.nodes i ≡ Some n → IsCount d.nodes seen count
        → ((field : ℕ) → counts_on field count ≡ true → node_counts_on field n ≡ true) → (k : ℕ) × (count_of v count ≡ Some k)
    counted {v = v} i n count seen same widths at head on =
        let P : List ℕ → Type 0 = λ l. IsCount d.nodes l count in
        number_there d v count (has_number d i n count widths at (subst P same head) on)

    mutual
      pub settled : {seen : List ℕ} {round i : ℕ} → Formed d.nodes seen round i → (v : Values)
          → seen ≡ fields_of v → FitWidths d v → (o : ℕ) → o ≤ most_bits → (t : TreeV)
          → HasTreeParts t → SettledAt i o v t
      settled (formed (Lits run) at few head have room parts) v same widths o within t leaves = settled_at (Lits run) at (lits_settled run o v t)
      settled (formed (Spare s) at few head have room parts) v same widths o within t leaves = settled_at (Spare s) at (spare_settled s o v t leaves)
      settled (formed Pad at few head have room parts) v same widths o within t leaves = settled_at Pad at (pad_settled o v t leaves)
      settled (formed Null at few head have room parts) v same widths o within t leaves = settled_at Null at (null_settled o v t within)
      settled (formed Rest at few head have room parts) v same widths o within t leaves = settled_at Rest at (rest_settled o v t leaves)
      settled {seen = seen} {i = i} (formed (Field unit count) at few head have room parts) v same widths o within t leaves =
          let n = counted {v = v} i (Field unit count) count seen same widths at head.1 (λ field on. on) in
          settled_at (Field unit count) at (field_settled unit count n.0 o v t n.1 leaves)
      settled (formed (Seq ps) at few head have room parts) v same widths o within t leaves =
          settled_at (Seq ps) at (seq_settled ps o v t leaves (λ ts all count. parts_settled parts v same widths 0 o within ts all count))
      settled (formed (Trunc ps) at few head have room parts) v same widths o within t leaves =
          settled_at (Trunc ps) at (trunc_settled ps o v t leaves (λ ts all count. parts_settled parts v same widths 0 o within ts all count))
      settled (formed (Choice ps) at few head have room parts) v same widths o within t leaves =
          settled_at (Choice ps) at (choice_settled ps o v t leaves (λ j i u all there. alternatives_settled parts v same widths o within j i there u all))
      settled {seen = seen} {i = i} (formed (Times count p) at few head have room (formed_next first others)) v same widths o within t leaves =
          let n = counted {v = v} i (Times count p) count seen same widths at head (λ field on. on) in
          settled_at (Times count p) at (times_settled count n.0 p o v t n.1 leaves
          (λ ts all. turns_settled p 0 o v ts within all
          (λ o u within leaf. settled first v same widths o within u leaf)))
      settled {i = i} (formed (Many p) at few head have room (formed_next first others)) v same widths o within t leaves =
          settled_at (Many p) at (many_settled p o v t (λ o b u m. free d 12 i p o v b u is certified at m) leaves
          (λ ts all. turns_settled p 0 o v ts within all
          (λ o u within leaf. settled first v same widths o within u leaf)))
      settled {seen = seen} {i = i} (formed (Window unit count p) at few head have room (formed_next first others)) v same widths o within t leaves =
          let n = counted {v = v} i (Window unit count p) count seen same widths at head.1 (λ field on. on) in
          settled_at (Window unit count p) at (window_settled unit count n.0 p o v t n.1 (settled first v same widths o within t leaves))
      settled (formed (Named label p) at few head have room (formed_next first others)) v same widths o within t leaves =
          settled_at (Named label p) at (named_settled label p o v t leaves (λ u leaf. settled first v same widths o within u leaf))

      parts_settled : {seen : List ℕ} {round : ℕ} {parts : List ℕ} → PartsFormed d.nodes true seen round parts
          → (v : Values) → seen ≡ fields_of v → FitWidths d v → (at o : ℕ) → o ≤ most_bits → (ts : Trees)
          → AllHaveTreeParts ts → tree_count ts ≤ length parts
          → SettledParts parts at o v ts
      parts_settled h v same widths at o within none leaves count = fits [] ([], refl, pieces_end refl) (omega (arith, within))
      parts_settled formed_end v same widths at o within (more t ts) leaves count = absurd (omega (arith, count))
      parts_settled (formed_next {i = i} {parts = parts} first others) v same widths at o within (more t ts) leaves count =
          first_settled i parts at o v t ts (settled first v same widths o within t leaves.0)
          (λ b m room. parts_settled others (with_value d.nodes i b v)
          (ap (λ l. with_seen d.nodes true i l) same ∙ sym (fields_behind d i b v)) (fits_kept d widths m)
          (suc at) (o + length b) room ts leaves.1 (omega (arith, count)))

      alternatives_settled : {seen : List ℕ} {round : ℕ} {parts : List ℕ} → PartsFormed d.nodes false seen round parts
          → (v : Values) → seen ≡ fields_of v → FitWidths d v → (o : ℕ) → o ≤ most_bits → (j i : ℕ)
          → slice_get parts j ≡ Some i → (t : TreeV) → HasTreeParts t → SettledAt i o v t
      alternatives_settled formed_end v same widths o within j i there t leaves = absurd (cc)
      alternatives_settled (formed_next {i = p} first others) v same widths o within zero i there t leaves =
          let one : p ≡ i = cc in
          let P : ℕ → Type 0 = λ k. SettledAt k o v t in
          subst P one (settled first v same widths o within t leaves)
      alternatives_settled (formed_next first others) v same widths o within (suc j) i there t leaves =
          alternatives_settled others v same widths o within j i there t leaves
