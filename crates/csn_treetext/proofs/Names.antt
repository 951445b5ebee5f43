-- Labels, byte by byte.
use Rattle.std.specs.Prelude.{if◌then◌else◌}
use Rattle.std.proofs.Common.{◌≡◌, ℕ, ◌==◌, Bool, true, false, ◌&&◌, ◌||◌, List, [], ◌∷◌, ◌++◌, Option, Some, None}
use Rattle.std.proofs.Common.{refl, sym, ap, ◌∙◌, subst, inl, inr, eqb-true}
use Rattle.std.specs.List.{list_all, slice_split}
use Rattle.std.specs.Char.{is_ascii_alphanumeric}
use Rattle.std.proofs.lemmas.Bool.{cases_Bool}
use Rattle.csn_lexer.specs.Word.{begins_word, goes_on_in_word, joins_pieces, starts_alphanumeric, is_word_tail, is_word}
use Rattle.csn_desc.specs.Label.{is_label, IsLabel}
use Rattle.csn_treetext.specs.declared.name.NameAt.{NameAt}
use Rattle.csn_treetext.specs.declared.name.NameAt.TheVariants.{Front, Within, Joint}
use Rattle.csn_treetext.specs.reader.Machine.{name_after, name_from, name_run, may_end}

pub accepts : Option NameAt → Bool
accepts None = false
accepts (Some at) = may_end at

pub pieces : List ℕ → List (List ℕ)
pieces l = slice_split (λ c. c == 32) l

-- a test of the first piece, and words behind it
pub head_ok : (List ℕ → Bool) → List (List ℕ) → Bool
head_ok f [] = false
head_ok f (p ∷ ps) = f p && list_all is_word ps

pub joint_tail : List ℕ → Bool
joint_tail p = starts_alphanumeric p && is_word_tail p

pub record Shape (l : List ℕ) : Type 0 where
  pub first : List ℕ
  pub others : List (List ℕ)
  pub is : slice_split (λ c. c == 32) l ≡ first ∷ others

other_pieces : (c : ℕ) (r p : List ℕ) (ps : List (List ℕ)) → (c == 32) ≡ false → slice_split (λ c. c == 32) r ≡ p ∷ ps
    → slice_split (λ c. c == 32) (c ∷ r) ≡ (c ∷ p) ∷ ps
other_pieces c r p ps fails e = rw fails (rw e refl)

shape_of : (l : List ℕ) → Shape l
shape_of [] = record { first = []; others = []; is = refl }
shape_of (c ∷ r) = elim (cases_Bool (c == 32)) [
  | inl holds ↦ record { first = []; others = slice_split (λ c. c == 32) r; is = rw holds refl }
  | inr fails ↦ (
      let s = shape_of r in
      record { first = c ∷ s.first; others = s.others; is = other_pieces c r s.first s.others fails s.is })
]

-- a name that no label begins with goes on as none
pub run_none : (l : List ℕ) → name_run None l ≡ None
run_none [] = refl
run_none (c ∷ r) = run_none r

pub record Reads (l : List ℕ) : Type 0 where
  pub front : head_ok is_word (pieces l) ≡ accepts (name_run (Some Front) l)
  pub within : head_ok is_word_tail (pieces l) ≡ accepts (name_run (Some Within) l)
  pub joint : head_ok joint_tail (pieces l) ≡ accepts (name_run (Some Joint) l)

refused : (l : List ℕ) → false ≡ accepts (name_run None l)
unfolding accepts
refused l = ap accepts (sym (run_none l))

all_pieces : (l : List ℕ) → is_label l ≡ head_ok is_word (pieces l)
unfolding head_ok pieces
all_pieces l = let s = shape_of l in rw s.is refl

reads_space : (r : List ℕ) → Reads r → Reads (32 ∷ r)
unfolding head_ok pieces accepts joint_tail
reads_space r h = record {
  front = refused r;
  within = all_pieces r ∙ h.front;
  joint = refused r;
}

joins_not_on : (c : ℕ) → joins_pieces c ≡ true → goes_on_in_word c ≡ false
joins_not_on c h = elim (cases_Bool (c == 47)) [
  | inl slash ↦ subst (λ k. goes_on_in_word k ≡ false) (sym (eqb-true c 47 slash)) refl
  | inr other ↦ (
      let dash : (c == 45) ≡ true = (let e : (false || (c == 45)) ≡ true = ap (λ b. b || (c == 45)) (sym other) ∙ h in e) in
      subst (λ k. goes_on_in_word k ≡ false) (sym (eqb-true c 45 dash)) refl)
]

alphanumeric_on : (c : ℕ) → is_ascii_alphanumeric c ≡ true → goes_on_in_word c ≡ true
alphanumeric_on c h = ap (λ b. (((b || (c == 95)) || (c == 39)) || (c == 46)) || (c == 44)) h

module _ (c : ℕ) (r p : List ℕ) (ps : List (List ℕ)) (other : (c == 32) ≡ false) where
  front_other : is_word_tail p && list_all is_word ps ≡ accepts (name_run (Some Within) r)
      → (begins_word c && is_word_tail p) && list_all is_word ps ≡ accepts (name_run (name_after Front c) r)
  front_other h = elim (cases_Bool (begins_word c)) [
    | inl holds ↦ (
        ap (λ b. (b && is_word_tail p) && list_all is_word ps) holds ∙ h
        ∙ ap (λ b. accepts (name_run (if b then Some Within else None) r)) (sym holds))
    | inr fails ↦ (
        ap (λ b. (b && is_word_tail p) && list_all is_word ps) fails ∙ refused r
        ∙ ap (λ b. accepts (name_run (if b then Some Within else None) r)) (sym fails))
  ]

  -- what follows a byte that may end a word, where it is no space
  within_other_after : name_after Within c ≡ (if joins_pieces c then Some Joint else if goes_on_in_word c then Some Within else None)
  within_other_after = rw other refl

  within_other : is_word_tail p && list_all is_word ps ≡ accepts (name_run (Some Within) r)
      → (starts_alphanumeric p && is_word_tail p) && list_all is_word ps ≡ accepts (name_run (Some Joint) r)
      → ((goes_on_in_word c || (joins_pieces c && starts_alphanumeric p)) && is_word_tail p)
      && list_all is_word ps ≡ accepts (name_run (name_after Within c) r)
  within_other h joint = elim (cases_Bool (joins_pieces c)) [
    | inl holds ↦ (
        let on = joins_not_on c holds in
        ap (λ b. ((b || (joins_pieces c && starts_alphanumeric p)) && is_word_tail p) && list_all is_word ps) on
        ∙ ap (λ b. ((b && starts_alphanumeric p) && is_word_tail p) && list_all is_word ps) holds
        ∙ joint
        ∙ ap (λ b. accepts (name_run (if b then Some Joint else if goes_on_in_word c then Some Within else None) r)) (sym holds)
        ∙ ap (λ o. accepts (name_run o r)) (sym within_other_after))
    | inr fails ↦ elim (cases_Bool (goes_on_in_word c)) [
      | inl on ↦ (
          ap (λ b. ((b || (joins_pieces c && starts_alphanumeric p)) && is_word_tail p) && list_all is_word ps) on
          ∙ h
          ∙ ap (λ b. accepts (name_run (if b then Some Within else None) r)) (sym on)
          ∙ ap (λ b. accepts (name_run (if b then Some Joint else if goes_on_in_word c then Some Within else None) r)) (sym fails)
          ∙ ap (λ o. accepts (name_run o r)) (sym within_other_after))
      | inr off ↦ (
          ap (λ b. ((b || (joins_pieces c && starts_alphanumeric p)) && is_word_tail p) && list_all is_word ps) off
          ∙ ap (λ b. ((b && starts_alphanumeric p) && is_word_tail p) && list_all is_word ps) fails
          ∙ refused r
          ∙ ap (λ b. accepts (name_run (if b then Some Within else None) r)) (sym off)
          ∙ ap (λ b. accepts (name_run (if b then Some Joint else if goes_on_in_word c then Some Within else None) r)) (sym fails)
          ∙ ap (λ o. accepts (name_run o r)) (sym within_other_after))
    ]
  ]

  joint_other : is_word_tail p && list_all is_word ps ≡ accepts (name_run (Some Within) r)
      → (is_ascii_alphanumeric c && ((goes_on_in_word c || (joins_pieces c && starts_alphanumeric p))
      && is_word_tail p)) && list_all is_word ps ≡ accepts (name_run (name_after Joint c) r)
  joint_other h = elim (cases_Bool (is_ascii_alphanumeric c)) [
    | inl holds ↦ (
        ap (λ b. (b && ((goes_on_in_word c || (joins_pieces c && starts_alphanumeric p)) && is_word_tail p)) && list_all is_word ps) holds
        ∙ ap (λ b. ((b || (joins_pieces c && starts_alphanumeric p)) && is_word_tail p) && list_all is_word ps) (alphanumeric_on c holds)
        ∙ h
        ∙ ap (λ b. accepts (name_run (if b then Some Within else None) r)) (sym holds))
    | inr fails ↦ (
        ap (λ b. (b && ((goes_on_in_word c || (joins_pieces c && starts_alphanumeric p)) && is_word_tail p)) && list_all is_word ps) fails
        ∙ refused r
        ∙ ap (λ b. accepts (name_run (if b then Some Within else None) r)) (sym fails))
  ]

reads_other : (c : ℕ) (r p : List ℕ) (ps : List (List ℕ)) → (c == 32) ≡ false → slice_split (λ c. c == 32) r ≡ p ∷ ps → Reads r → Reads (c ∷ r)
unfolding head_ok pieces joint_tail
reads_other c r p ps other e h =
    let here = other_pieces c r p ps other e in
    let within : is_word_tail p && list_all is_word ps ≡ accepts (name_run (Some Within) r) = ap (head_ok is_word_tail) (sym e) ∙ h.within in
    let joint : (starts_alphanumeric p && is_word_tail p) && list_all is_word ps ≡ accepts (name_run (Some Joint) r) =
    ap (head_ok joint_tail) (sym e) ∙ h.joint in
    record {
      front = ap (head_ok is_word) here ∙ front_other c r p ps other within;
      within = ap (head_ok is_word_tail) here ∙ within_other c r p ps other within joint;
      joint = ap (head_ok joint_tail) here ∙ joint_other c r p ps other within;
    }

reads_nothing : Reads []
unfolding head_ok pieces accepts joint_tail
reads_nothing = record { front = refl; within = refl; joint = refl }

reads : (l : List ℕ) → Reads l
reads [] = reads_nothing
reads (c ∷ r) = elim (cases_Bool (c == 32)) [
  | inl holds ↦ subst (λ k. Reads (k ∷ r)) (sym (eqb-true c 32 holds)) (reads_space r (reads r))
  | inr fails ↦ (let s = shape_of r in reads_other c r s.first s.others fails s.is (reads r))
]

ends_within : (o : Option NameAt) → accepts o ≡ true → o ≡ Some Within
unfolding accepts
ends_within None h = absurd (cc)
ends_within (Some Front) h = absurd (cc)
ends_within (Some Within) h = refl
ends_within (Some Joint) h = absurd (cc)

-- a label is what goes through the bytes and ends where a label may end
pub run_of_label : (l : List ℕ) → IsLabel l → name_run (Some Front) l ≡ Some Within
run_of_label l h = ends_within (name_run (Some Front) l) (sym (reads l).front ∙ sym (all_pieces l) ∙ h)

pub label_of_run : (l : List ℕ) (at : NameAt) → name_run (Some Front) l ≡ Some at → may_end at ≡ true → IsLabel l
unfolding accepts
label_of_run l at h end = all_pieces l ∙ (reads l).front ∙ ap accepts h ∙ end

pub run-append : (at : Option NameAt) (l r : List ℕ) → name_run at (l ++ r) ≡ name_run (name_run at l) r
run-append at [] r = refl
run-append at (c ∷ l) r = run-append (name_from at c) l r

-- a digit goes on in every name, and ends it well
pub digit_closes : (at : NameAt) → name_after at 48 ≡ Some Within
digit_closes Front = refl
digit_closes Within = refl
digit_closes Joint = refl

pub closed_label : (l : List ℕ) (at : NameAt) → name_run (Some Front) l ≡ Some at → IsLabel (l ++ 48 ∷ [])
closed_label l at h =
    label_of_run (l ++ 48 ∷ []) Within (run-append (Some Front) l (48 ∷ []) ∙ ap (λ o. name_from o 48) h ∙ digit_closes at) refl

-- `>` goes on in no name
pub not_greater : (at next : NameAt) (c : ℕ) → name_after at c ≡ Some next → (c == 62) ≡ false
not_greater at next c h = elim (cases_Bool (c == 62)) [
  | inl holds ↦ absurd (none at (ap (name_after at) (sym (eqb-true c 62 holds)) ∙ h))
  | inr fails ↦ fails
]
  where
    none : (at : NameAt) → name_after at 62 ≡ Some next → ⊥
    none Front e = cc
    none Within e = cc
    none Joint e = cc
