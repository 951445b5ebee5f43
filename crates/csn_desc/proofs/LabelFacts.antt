-- Words with one space between are a label. Other crates cite this.
use Rattle.std.proofs.Common.{◌≡◌, ◌<◌, ℕ, Bool, true, false, List, [], ◌∷◌, ◌++◌, length, inl, inr, refl, ◌∙◌, ap, subst, arith}
use Rattle.std.specs.Prelude.{◌==◌, ◌&&◌, ◌||◌}
use Rattle.std.specs.List.{All, list_all, slice_split, onto_first}
use Rattle.std.proofs.lemmas.Bool.{eqb-true, and_from, cases_Bool}
use Rattle.std.proofs.lemmas.List.Elements.{All-nil, All-cons}
use Rattle.std.proofs.lemmas.List.Folds.{list_all-append}
use Rattle.std.proofs.lemmas.List.Splits.{slice_split_none, slice_split_at, length-slice_split}
use Rattle.csn_lexer.specs.Word.{IsWord, is_word, is_word_tail, begins_word, goes_on_in_word, joins_pieces, starts_alphanumeric}
use Rattle.csn_desc.specs.Label.{is_label, IsLabel}

-- a byte that may stand in a word is no space
no_space : (c : ℕ) → (goes_on_in_word c || joins_pieces c) ≡ true → (c == 32) ≡ false
no_space c h = told (c == 32) refl
  where
    told : (b : Bool) → (c == 32) ≡ b → (c == 32) ≡ false
    told false e = e
    told true e =
        let P : ℕ → Type 0 = λ k. (goes_on_in_word k || joins_pieces k) ≡ true in
        let never : false ≡ true = subst P (eqb-true c 32 e) h in cc

-- the first byte of a word's tail goes on in it or joins pieces, and the others are a tail
both : (a b c rest : Bool) → ((a || (b && c)) && rest) ≡ true → ((a || b) ≡ true) × (rest ≡ true)
both true b c rest h = (refl, h)
both false true true rest h = (refl, h)
both false true false rest h = cc
both false false c rest h = cc

tail_without_space : (w : List ℕ) → is_word_tail w ≡ true → All (λ c. (c == 32) ≡ false) w
tail_without_space [] h = All-nil (λ c. (c == 32) ≡ false)
tail_without_space (c ∷ w) h =
    let parts = both (goes_on_in_word c) (joins_pieces c) (starts_alphanumeric w) (is_word_tail w) h in
    All-cons (λ c. (c == 32) ≡ false) c w (no_space c parts.0) (tail_without_space w parts.1)

first_and_rest : (a rest : Bool) → (a && rest) ≡ true → (a ≡ true) × (rest ≡ true)
first_and_rest true rest h = (refl, h)
first_and_rest false rest h = cc

begins_within : (a b c d e : Bool) → a ≡ true → ((((a || b) || c) || d) || e) ≡ true
begins_within true b c d e h = refl
begins_within false b c d e h = cc

word_without_space : (w : List ℕ) → IsWord w → All (λ c. (c == 32) ≡ false) w
word_without_space [] h = cc
word_without_space (c ∷ w) h =
    let parts = first_and_rest (begins_word c) (is_word_tail w) h in
    All-cons (λ c. (c == 32) ≡ false) c w
    (no_space c (begins_within (begins_word c) (c == 39) (c == 46) (c == 44) (joins_pieces c) parts.0))
    (tail_without_space w parts.1)

and_true : (a b : Bool) → a ≡ true → b ≡ true → (a && b) ≡ true
and_true a b p q = ap (λ x. x && b) p ∙ q

pub word_is_label : (w : List ℕ) → IsWord w → IsLabel w
word_is_label w h =
    ap (λ parts. list_all is_word parts) (slice_split_none (λ c. c == 32) w (word_without_space w h)) ∙ and_true (is_word w) true h refl

pub label_behind_word : (w rest : List ℕ) → IsWord w → IsLabel rest → IsLabel (w ++ 32 ∷ rest)
label_behind_word w rest h others =
    ap (λ parts. list_all is_word parts) (slice_split_at (λ c. c == 32) w 32 rest (word_without_space w h) refl)
    ∙ and_true (is_word w) (list_all is_word (slice_split (λ c. c == 32) rest)) h others

-- ---- one word more

abbrev split : List ℕ → List (List ℕ)
split bytes = slice_split (λ c. c == 32) bytes

-- what stands between the spaces has a first part
some_part : (a : List ℕ) → (p : List ℕ) × (ps : List (List ℕ)) × (split a ≡ p ∷ ps)
some_part a = first_part (split a) (omega (arith, length-slice_split (λ c. c == 32) a))
  where
    first_part : (parts : List (List ℕ)) → 0 < length parts → (p : List ℕ) × (ps : List (List ℕ)) × (parts ≡ p ∷ ps)
    first_part [] h = absurd (omega arith)
    first_part (p ∷ ps) h = (p, ps, refl)

onto_first-append : (x : ℕ) (a : List ℕ) (bs : List (List ℕ)) → onto_first x (split a ++ bs) ≡ onto_first x (split a) ++ bs
onto_first-append x a bs = let some = some_part a in rw some.2 refl

split-append : (a w : List ℕ) → split (a ++ 32 ∷ w) ≡ split a ++ split w
split-append [] w = refl
split-append (x ∷ a) w = elim (cases_Bool (x == 32)) [
  | inl is ↦ rw (is, split-append a w) refl
  | inr other ↦ rw (other, split-append a w) (onto_first-append x a (split w))
]

-- a label with a space and a word behind it is a label
pub label_more : (a w : List ℕ) → IsLabel a → IsWord w → IsLabel (a ++ 32 ∷ w)
label_more a w h k =
    ap (list_all is_word) (split-append a w)
    ∙ list_all-append is_word (split a) (split w)
    ∙ and_from (is_label a) (is_label w) h (word_is_label w k)
