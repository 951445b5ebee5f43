-- How marks are set.
use Rattle.std.specs.Prelude.{◌≡◌, refl, ℕ, ◌+◌, ◌<◌, ◌≤◌, ◌⊎◌, ◌↔◌, Bool, true, false, List, [], ◌∷◌, ◌++◌, length, replicate, slice_get}
use Rattle.std.specs.Prelude.{slice_index_or, slice_set, Option, Some, None, IfSome}
use Rattle.std.specs.Option.{option_or}
use Rattle.std.proofs.Common.{◌∙◌, inl, inr, sym, ap, subst, arith, eq-or-lt_of_le}
use Rattle.std.proofs.Math.ListN.{get_or-eq_default}
use Rattle.std.proofs.lemmas.Bool.{cases_eq, cases_lt}
use Rattle.std.proofs.lemmas.List.{get_or-replicate, get_or-set_same, get_or-set_other, get_or_append_left, get_or_push, length-replicate, length-set}
use Rattle.std.proofs.lemmas.List.{length_push}
use Rattle.csn_desc.specs.declared.node.Node.{Node}
use Rattle.csn_desc.specs.Nodes.{DescV}
use Rattle.csn_sample.specs.declared.covering.Way.{Way}
use Rattle.csn_sample.specs.Ways.{ways}
use Rattle.csn_sample.specs.Covering.{IsMarked, HasMarks, Sets, marks_at}

-- none is set
pub sets_none : (marks : List (List Bool)) (P : ℕ → ℕ → Type 0) → ((i w : ℕ) → ¬ P i w) → Sets marks marks P None
sets_none marks P none = record {
  as_many = λ i. refl;
  marks = λ i w. (λ marked. inl marked, λ either. back i w either);
  first = tt;
  same = λ told. refl;
}
  where
    back : (i w : ℕ) → IsMarked marks i w ⊎ P i w → IsMarked marks i w
    back i w (inl marked) = marked
    back i w (inr p) = absurd (none i w p)

-- the same ways, said otherwise
pub sets_as : (old new : List (List Bool)) (P Q : ℕ → ℕ → Type 0) (told : Option Way) → ((i w : ℕ) → P i w ↔ Q i w)
    → Sets old new P told
    → Sets old new Q told
sets_as old new P Q told alike sets = record {
  as_many = sets.as_many;
  marks = λ i w. (λ marked. there i w ((sets.marks i w).0 marked), λ either. (sets.marks i w).1 (back i w either));
  first = sets.first;
  same = sets.same;
}
  where
    there : (i w : ℕ) → IsMarked old i w ⊎ P i w → IsMarked old i w ⊎ Q i w
    there i w (inl marked) = inl marked
    there i w (inr p) = inr ((alike i w).0 p)

    back : (i w : ℕ) → IsMarked old i w ⊎ Q i w → IsMarked old i w ⊎ P i w
    back i w (inl marked) = inl marked
    back i w (inr q) = inr ((alike i w).1 q)

-- some are set, and then others
module _ (a b c : List (List Bool)) (P Q R : ℕ → ℕ → Type 0) (all : (i w : ℕ) → (P i w ⊎ Q i w) ↔ R i w) where
  joined_there : (i w : ℕ) → (IsMarked b i w → IsMarked a i w ⊎ P i w) → IsMarked b i w ⊎ Q i w → IsMarked a i w ⊎ R i w
  joined_there i w before (inl marked) = more (before marked)
    where
      more : IsMarked a i w ⊎ P i w → IsMarked a i w ⊎ R i w
      more (inl old) = inl old
      more (inr p) = inr ((all i w).0 (inl p))
  joined_there i w before (inr q) = inr ((all i w).0 (inr q))

  joined_back : (i w : ℕ) → (IsMarked a i w ⊎ P i w → IsMarked b i w) → IsMarked a i w ⊎ R i w → IsMarked b i w ⊎ Q i w
  joined_back i w before (inl old) = inl (before (inl old))
  joined_back i w before (inr r) = more ((all i w).1 r)
    where
      more : P i w ⊎ Q i w → IsMarked b i w ⊎ Q i w
      more (inl p) = inl (before (inr p))
      more (inr q) = inr q

  joined_first : (f g : Option Way) → Sets a b P f → Sets b c Q g
      → IfSome (option_or f g) (λ way. IsMarked c way.node way.number × ¬ IsMarked a way.node way.number)
  joined_first (Some way) g first second =
      ((second.marks way.node way.number).1 (inl first.first.0), first.first.1)
  joined_first None None first second = tt
  joined_first None (Some way) first second =
      (second.first.0, λ marked. second.first.1 (subst (λ (m : List (List Bool)). IsMarked m way.node way.number) (sym (first.same refl)) marked))

  joined_same : (f g : Option Way) → Sets a b P f → Sets b c Q g → option_or f g ≡ None → c ≡ a
  joined_same (Some way) g first second none = absurd (cc)
  joined_same None None first second none = second.same refl ∙ first.same refl
  joined_same None (Some way) first second none = absurd (cc)

  pub sets_join : (f g : Option Way) → Sets a b P f → Sets b c Q g → Sets a c R (option_or f g)
  sets_join f g first second = record {
    as_many = λ i. second.as_many i ∙ first.as_many i;
    marks = λ i w. (
      λ marked. joined_there i w (first.marks i w).0 ((second.marks i w).0 marked),
      λ either. (second.marks i w).1 (joined_back i w (first.marks i w).1 either),
    );
    first = joined_first f g first second;
    same = joined_same f g first second;
  }

-- there are still as many
pub still_marks : (d : DescV) (old new : List (List Bool)) → ((i : ℕ) → marks_at new i ≡ marks_at old i) → HasMarks d old → HasMarks d new
still_marks d old new as_many has i node look = as_many i ∙ has i node look

-- a mark that is set already
pub set_again : (marks : List (List Bool)) (i way : ℕ) → IsMarked marks i way → Sets marks marks (λ j w. (j ≡ i) × (w ≡ way)) None
set_again marks i way is = record {
  as_many = λ j. refl;
  marks = λ j w. (λ marked. inl marked, λ either. back j w either);
  first = tt;
  same = λ told. refl;
}
  where
    back : (j w : ℕ) → IsMarked marks j w ⊎ ((j ≡ i) × (w ≡ way)) → IsMarked marks j w
    back j w (inl marked) = marked
    back j w (inr at) =
        ap (λ (k : ℕ). slice_index_or (slice_index_or marks k []) w false) at.0
        ∙ (ap (λ (k : ℕ). slice_index_or (slice_index_or marks i []) k false) at.1 ∙ is)

-- a mark that is not set
module _
    (old : List (List Bool)) (before row : List Bool) (i way : ℕ) (inside : i < length old)
    (was : before ≡ slice_index_or old i []) (is : row ≡ slice_set before way true) (within : way < length before) where
  row_at : slice_index_or (slice_set old i row) i [] ≡ row
  row_at = get_or-set_same old i row [] inside

  other_at : (j : ℕ) → ¬ (j ≡ i) → slice_index_or (slice_set old i row) j [] ≡ slice_index_or old j []
  other_at j other = get_or-set_other old i j row [] other

  here_set : IsMarked (slice_set old i row) i way
  here_set =
      ap (λ (r : List Bool). slice_index_or r way false) (row_at ∙ is) ∙ get_or-set_same before way true false within

  here_other : (w : ℕ) → ¬ (w ≡ way) → slice_index_or (slice_index_or (slice_set old i row) i []) w false ≡ slice_index_or (slice_index_or old i []) w false
  here_other w other =
      ap (λ (r : List Bool). slice_index_or r w false) (row_at ∙ is)
      ∙ (get_or-set_other before way w true false other ∙ ap (λ (r : List Bool). slice_index_or r w false) was)

  many_at : (j : ℕ) → marks_at (slice_set old i row) j ≡ marks_at old j
  many_at j = elim (cases_eq j i) [
    | inl same ↦ at_same j same
    | inr other ↦ ap (λ (r : List Bool). length r) (other_at j other)
  ]
    where
      at_same : (k : ℕ) → k ≡ i → marks_at (slice_set old i row) k ≡ marks_at old k
      at_same k same =
          ap (λ (m : ℕ). marks_at (slice_set old i row) m) same
          ∙ (ap (λ (r : List Bool). length r) (row_at ∙ is)
          ∙ (length-set before way true
          ∙ (ap (λ (r : List Bool). length r) was ∙ ap (λ (m : ℕ). marks_at old m) (sym same))))

  there : (j w : ℕ) → IsMarked (slice_set old i row) j w → IsMarked old j w ⊎ ((j ≡ i) × (w ≡ way))
  there j w marked = elim (cases_eq j i) [
    | inl same ↦ at_node same
    | inr other ↦ inl (ap (λ (r : List Bool). slice_index_or r w false) (sym (other_at j other)) ∙ marked)
  ]
    where
      as_here : j ≡ i → slice_index_or (slice_index_or (slice_set old i row) i []) w false ≡ true
      as_here same = ap (λ (k : ℕ). slice_index_or (slice_index_or (slice_set old i row) k []) w false) (sym same) ∙ marked

      at_node : j ≡ i → IsMarked old j w ⊎ ((j ≡ i) × (w ≡ way))
      at_node same = elim (cases_eq w way) [
        | inl this ↦ inr (same, this)
        | inr other ↦ inl (ap (λ (k : ℕ). slice_index_or (slice_index_or old k []) w false) same ∙ (sym (here_other w other) ∙ as_here same))
      ]

  stays : (j w : ℕ) → IsMarked old j w → IsMarked (slice_set old i row) j w
  stays j w marked = elim (cases_eq j i) [
    | inl same ↦ at_node same
    | inr other ↦ ap (λ (r : List Bool). slice_index_or r w false) (other_at j other) ∙ marked
  ]
    where
      as_here : j ≡ i → slice_index_or (slice_index_or old i []) w false ≡ true
      as_here same = ap (λ (k : ℕ). slice_index_or (slice_index_or old k []) w false) (sym same) ∙ marked

      back_to : j ≡ i → slice_index_or (slice_index_or (slice_set old i row) i []) w false ≡ true → IsMarked (slice_set old i row) j w
      back_to same there_is = ap (λ (k : ℕ). slice_index_or (slice_index_or (slice_set old i row) k []) w false) same ∙ there_is

      at_node : j ≡ i → IsMarked (slice_set old i row) j w
      at_node same = elim (cases_eq w way) [
        | inl this ↦ back_to same (ap (λ (k : ℕ). slice_index_or (slice_index_or (slice_set old i row) i []) k false) this ∙ here_set)
        | inr other ↦ back_to same (here_other w other ∙ as_here same)
      ]

  back : (j w : ℕ) → IsMarked old j w ⊎ ((j ≡ i) × (w ≡ way)) → IsMarked (slice_set old i row) j w
  back j w (inl marked) = stays j w marked
  back j w (inr at) =
      ap (λ (k : ℕ). slice_index_or (slice_index_or (slice_set old i row) k []) w false) at.0
      ∙ (ap (λ (k : ℕ). slice_index_or (slice_index_or (slice_set old i row) i []) k false) at.1 ∙ here_set)

  pub set_new : (told : Option Way) → told ≡ Some (record { node = i; number = way }) → ¬ IsMarked old i way
      → Sets old (slice_set old i row) (λ j w. (j ≡ i) × (w ≡ way)) told
  set_new told tells new = record {
    as_many = many_at;
    marks = λ j w. (there j w, back j w);
    first = subst (λ (t : Option Way). IfSome t (λ it. IsMarked (slice_set old i row) it.node it.number × ¬ IsMarked old it.node it.number))
        (sym tells) (here_set, new);
    same = λ none. absurd (let wrong = sym tells ∙ none in cc);
  }

-- ---- marks of which none is set

-- a row of a node more
pub marks_next : (d : DescV) (rows all : List (List Bool)) (row : List Bool) (i : ℕ) (n : Node)
    → slice_get d.nodes i ≡ Some n → length rows ≡ i → length row ≡ ways n → all ≡ rows ++ row ∷ []
    → ((k : ℕ) (node : Node) → k < i → slice_get d.nodes k ≡ Some node → marks_at rows k ≡ ways node)
    → (k : ℕ) (node : Node) → k < i + 1 → slice_get d.nodes k ≡ Some node → marks_at all k ≡ ways node
marks_next d rows all row i n look long many is before k node h there = elim (eq-or-lt_of_le (less h)) [
  | inl same ↦ last same
  | inr earlier ↦
      ap (λ (m : List (List Bool)). marks_at m k) is
      ∙ (ap (λ (r : List Bool). length r) (get_or_append_left rows (row ∷ []) [] k (omega (arith, earlier, long))) ∙ before k node earlier there)
]
  where
    less : k < i + 1 → k ≤ i
    less g = omega (arith, g)

    same_node : k ≡ i → n ≡ node
    same_node same = cc

    last : k ≡ i → marks_at all k ≡ ways node
    last same =
        ap (λ (m : List (List Bool)). marks_at m k) is
        ∙ (ap (λ (r : List Bool). length r) (get_or_push rows row [] k (long ∙ sym same))
        ∙ (many ∙ ap (λ (x : Node). ways x) (same_node same)))

-- in a row of no set mark, none is set
pub row_none : (count way : ℕ) → ¬ (slice_index_or (replicate count false) way false ≡ true)
row_none count way marked = elim (cases_lt way count) [
  | inl inside ↦ absurd (let wrong = sym (get_or-replicate count way false false inside) ∙ marked in cc)
  | inr behind ↦ absurd (let wrong = sym (get_or-eq_default (replicate count false) false (shorter count way behind)) ∙ marked in cc)
]
  where
    shorter : (n w : ℕ) → n ≤ w → length (replicate n false) ≤ w
    shorter n w h = omega (arith, h, length-replicate n false)

-- a row of no set mark more
pub none_next : (rows all : List (List Bool)) (row : List Bool) → all ≡ rows ++ row ∷ []
    → ((way : ℕ) → ¬ (slice_index_or row way false ≡ true)) → ((i way : ℕ) → ¬ IsMarked rows i way)
    → (i way : ℕ) → ¬ IsMarked all i way
none_next rows all row is none before i way marked = elim (cases_lt i (length rows)) [
  | inl earlier ↦ before i way (ap (λ (r : List Bool). slice_index_or r way false) (sym (get_or_append_left rows (row ∷ []) [] i earlier)) ∙ now)
  | inr behind ↦ elim (cases_eq i (length rows)) [
    | inl same ↦ none way (ap (λ (r : List Bool). slice_index_or r way false) (sym (get_or_push rows row [] i (sym same))) ∙ now)
    | inr other ↦ empty_row (sym (ap (λ (r : List Bool). slice_index_or r way false) (get_or-eq_default (rows ++ row ∷ []) [] (past behind other))) ∙ now)
  ]
]
  where
    now : IsMarked (rows ++ row ∷ []) i way
    now = ap (λ (m : List (List Bool)). slice_index_or (slice_index_or m i []) way false) (sym is) ∙ marked

    past : length rows ≤ i → ¬ (i ≡ length rows) → length (rows ++ row ∷ []) ≤ i
    past behind other = omega (arith, behind, other, length_push rows row)

    empty_row : ¬ (slice_index_or [] way false ≡ true)
    empty_row wrong = absurd (cc)

-- where there are no rows, none is set
pub none_at_first : (i way : ℕ) → ¬ IsMarked [] i way
none_at_first i way marked = absurd (cc)
