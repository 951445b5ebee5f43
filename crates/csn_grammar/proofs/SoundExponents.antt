-- Tokens that the reader takes in an exponent are one.
use Rattle.std.proofs.Common.{◌≡◌, ℕ, Bool, true, false, List, ◌∷◌, ◌++◌, Option, Some, None, refl, sym, subst, append_assoc}
use Rattle.std.specs.Prelude.{unwrap_or, codes, if◌then◌else◌}
use Rattle.std.specs.Option.{option_map}
use Rattle.std.specs.Cmp.Lexicographic.{same_text}
use Rattle.csn_lexer.specs.declared.token.TokenKind.{TokenKind}
use Rattle.csn_lexer.specs.declared.token.TokenKind.TheVariants as kind
use Rattle.csn_grammar.specs.declared.exponent.Exponent.{Exponent}
use Rattle.csn_grammar.specs.declared.exponent.Exponent.TheVariants as exponent
use Rattle.csn_grammar.specs.declared.reader.progress.Terms.{Terms}
use Rattle.csn_grammar.specs.declared.reader.progress.Progress.{Progress}
use Rattle.csn_grammar.specs.declared.reader.progress.Progress.TheVariants.{Bracket, Star, StarBracket, Number}
use Rattle.csn_grammar.specs.declared.reader.progress.Progress.TheVariants.{Summand, Factor, Before, Val, ValBracket}
use Rattle.csn_grammar.specs.declared.reader.progress.Progress.TheVariants.{ValWords, Product, FactorBehind}
use Rattle.csn_grammar.specs.declared.reader.progress.Progress.TheVariants.{SummandBehind, Whole}
use Rattle.csn_grammar.specs.declared.reader.progress.ExponentNext.{ExponentNext}
use Rattle.csn_grammar.specs.declared.reader.progress.ExponentNext.TheVariants.{Goes, Ends}
use Rattle.csn_grammar.specs.TokenV.{TokenV, token}
use Rattle.csn_grammar.specs.Writing.{IsNumber}
use Rattle.csn_grammar.specs.Counts.{IsName, last_word, more_words, IsVal, val, IsProduct, alone, factor_before}
use Rattle.csn_grammar.specs.Counts.{factor_behind, IsCount, number, product, summand_behind, summand_before}
use Rattle.csn_grammar.specs.Counts.{IsExponent, count, times_number, times_val, times_count, any_star, any_stars}
use Rattle.csn_grammar.specs.reader.Spellings.{is_text, number_of}
use Rattle.csn_grammar.specs.reader.ExponentSteps.{exponent_step, linear, first_some, val_step, count_step, star_step, summand_step}
use Rattle.csn_grammar.specs.reader.ExponentSteps as step
use Rattle.csn_grammar.proofs.SoundWords.{number_said}

abbrev pub terms : Option ℕ → Option ℕ → Bool → Terms
terms f c b = record { factor = f; summand = c; bracket = b }

-- what stands behind a product in brackets, with a factor and a summand already: the tokens, the
-- exponent, its end and the tokens behind it
pub data BehindProduct : Option ℕ → Option ℕ → List ℕ → List TokenV → Exponent → ℕ → List TokenV → Type 0 where
  product_ends : {f c : Option ℕ} {l w : List ℕ} {s n : ℕ} {ts rest : List TokenV} {e : Exponent}
      → e ≡ exponent.Linear (unwrap_or f 1) l (unwrap_or c 0) → rest ≡ ts
      → BehindProduct f c l (token kind.ParenRight s n w ∷ ts) e n rest
  product_factor : {c : Option ℕ} {l w w1 : List ℕ} {s n1 s1 n2 n m : ℕ} {ts rest : List TokenV} {e : Exponent}
      → IsNumber w1 m → BehindProduct (Some m) c l ts e n rest
      → BehindProduct None c l (token kind.Star s n1 w ∷ token kind.Word s1 n2 w1 ∷ ts) e n rest
  product_summand : {f : Option ℕ} {l w w1 w2 : List ℕ} {s n1 s1 n2 s2 n c : ℕ} {ts rest : List TokenV} {e : Exponent}
      → IsNumber w1 c → e ≡ exponent.Linear (unwrap_or f 1) l c → rest ≡ ts
      → BehindProduct f None l (token kind.Plus s n1 w ∷ token kind.Word s1 n2 w1 ∷ token kind.ParenRight s2 n w2 ∷ ts) e n rest

-- what stands behind the name in `val ( name`
pub data BehindWords : Option ℕ → Option ℕ → Bool → List ℕ → List TokenV → Exponent → ℕ → List TokenV → Type 0 where
  words_end : {f c : Option ℕ} {l w : List ℕ} {s n : ℕ} {ts rest : List TokenV} {e : Exponent}
      → e ≡ exponent.Linear (unwrap_or f 1) l (unwrap_or c 0) → rest ≡ ts
      → BehindWords f c false l (token kind.ParenRight s n w ∷ ts) e n rest
  words_bracket : {f c : Option ℕ} {l w : List ℕ} {s n1 n : ℕ} {ts rest : List TokenV} {e : Exponent}
      → BehindProduct f c l ts e n rest → BehindWords f c true l (token kind.ParenRight s n1 w ∷ ts) e n rest

-- the tokens complete what is read of an exponent
pub data Completes : Progress → List TokenV → Exponent → ℕ → List TokenV → Type 0 where
  at_bracket : {ts rest : List TokenV} {e : Exponent} {n : ℕ}
      → ((s n1 : ℕ) (w : List ℕ) → IsExponent (token kind.ParenLeft s n1 w ∷ ts) e n rest) → Completes Bracket ts e n rest
  at_star : {ts rest : List TokenV} {e : Exponent} {n : ℕ}
      → ((s n1 : ℕ) (w : List ℕ) → IsExponent (token kind.Star s n1 w ∷ ts) e n rest) → Completes Star ts e n rest
  at_count : {ts rest : List TokenV} {e : Exponent} {n : ℕ} (s : ℕ) (w : List ℕ)
      → IsCount ts e (token kind.ParenRight s n w ∷ rest) → Completes StarBracket ts e n rest
  number_ends : {k : ℕ} {w : List ℕ} {s n : ℕ} {ts rest : List TokenV} {e : Exponent}
      → e ≡ exponent.Number k → rest ≡ ts → Completes (Number k) (token kind.ParenRight s n w ∷ ts) e n rest
  number_factor : {k n : ℕ} {w : List ℕ} {s n1 : ℕ} {ts rest : List TokenV} {e : Exponent}
      → Completes (Before (terms (Some k) None true)) ts e n rest → Completes (Number k) (token kind.Star s n1 w ∷ ts) e n rest
  number_summand : {k n : ℕ} {w : List ℕ} {s n1 : ℕ} {ts rest : List TokenV} {e : Exponent}
      → Completes (Summand k) ts e n rest → Completes (Number k) (token kind.Plus s n1 w ∷ ts) e n rest
  at_summand : {c m : ℕ} {l : List ℕ} {ts rest : List TokenV} {e : Exponent} {n : ℕ} (s : ℕ) (w : List ℕ)
      → IsProduct ts m l (token kind.ParenRight s n w ∷ rest) → e ≡ exponent.Linear m l c → Completes (Summand c) ts e n rest
  at_factor : {c m n : ℕ} {w : List ℕ} {s n1 : ℕ} {ts rest : List TokenV} {e : Exponent}
      → Completes (Before (terms (Some m) (Some c) true)) ts e n rest → Completes (Factor c m) (token kind.Star s n1 w ∷ ts) e n rest
  at_before : {t : Terms} {w : List ℕ} {s n1 n : ℕ} {ts rest : List TokenV} {e : Exponent} → w ≡ codes "val"
      → Completes (Val t) ts e n rest → Completes (Before t) (token kind.Word s n1 w ∷ ts) e n rest
  at_val : {t : Terms} {w : List ℕ} {s n1 n : ℕ} {ts rest : List TokenV} {e : Exponent}
      → Completes (ValBracket t) ts e n rest → Completes (Val t) (token kind.ParenLeft s n1 w ∷ ts) e n rest
  at_val_bracket : {t : Terms} {l : List ℕ} {n : ℕ} {ts middle rest : List TokenV} {e : Exponent} → IsName ts l middle
      → BehindWords t.factor t.summand t.bracket l middle e n rest → Completes (ValBracket t) ts e n rest
  words_done : {t : Terms} {ws : List ℕ} {n : ℕ} {ts rest : List TokenV} {e : Exponent}
      → BehindWords t.factor t.summand t.bracket ws ts e n rest → Completes (ValWords t ws) ts e n rest
  words_more : {t : Terms} {ws l : List ℕ} {n : ℕ} {ts middle rest : List TokenV} {e : Exponent} → IsName ts l middle
      → BehindWords t.factor t.summand t.bracket (ws ++ 32 ∷ l) middle e n rest → Completes (ValWords t ws) ts e n rest
  at_product : {t : Terms} {l : List ℕ} {n : ℕ} {ts rest : List TokenV} {e : Exponent}
      → BehindProduct t.factor t.summand l ts e n rest → Completes (Product t l) ts e n rest
  at_factor_behind : {c : Option ℕ} {l w : List ℕ} {s n1 m n : ℕ} {ts rest : List TokenV} {e : Exponent} → IsNumber w m
      → BehindProduct (Some m) c l ts e n rest → Completes (FactorBehind c l) (token kind.Word s n1 w ∷ ts) e n rest
  at_summand_behind : {m c : ℕ} {l w w1 : List ℕ} {s n1 s1 n : ℕ} {ts rest : List TokenV} {e : Exponent} → IsNumber w c
      → e ≡ exponent.Linear m l c → rest ≡ ts
      → Completes (SummandBehind m l) (token kind.Word s n1 w ∷ token kind.ParenRight s1 n w1 ∷ ts) e n rest
  at_whole : {d e : Exponent} {w : List ℕ} {s n : ℕ} {ts rest : List TokenV} → e ≡ d → rest ≡ ts
      → Completes (Whole d) (token kind.ParenRight s n w ∷ ts) e n rest

-- what a step leads to is completed by the tokens behind it; n1 is the end of the token
abbrev pub Goes_on : ℕ → Option ExponentNext → List TokenV → Exponent → ℕ → List TokenV → Type 0
Goes_on n1 None ts e n rest = ⊥
Goes_on n1 (Some (Goes p)) ts e n rest = Completes p ts e n rest
Goes_on n1 (Some (Ends d)) ts e n rest = (e ≡ d) × (n ≡ n1) × (rest ≡ ts)

-- `val ( name )` in brackets
val_read : {f c : Option ℕ} {ts rest : List TokenV} {e : Exponent} {n : ℕ} → Completes (Before (terms f c true)) ts e n rest
    → (l : List ℕ) × (middle : List TokenV) × IsVal ts l middle × BehindProduct f c l middle e n rest
val_read (at_before e (at_val (at_val_bracket {l = l} is (words_bracket {ts = ts} b)))) = (l, ts, val e is, b)

-- and a factor behind it
val_product : {c : Option ℕ} {l : List ℕ} {ts middle rest : List TokenV} {e : Exponent} {n : ℕ} → IsVal ts l middle
    → BehindProduct None c l middle e n rest
    → (m : ℕ) × (next : List TokenV) × IsProduct ts m l next × BehindProduct (Some m) c l next e n rest
val_product {middle = middle} v (product_ends e r) = (1, middle, alone v, product_ends e r)
val_product v (product_factor {m = m} {ts = ts} is b) = (m, ts, factor_behind v is, b)
val_product {middle = middle} v (product_summand is e r) = (1, middle, alone v, product_summand is e r)

count_moved : {ts rest inner : List TokenV} {d e : Exponent} {s n : ℕ} {w : List ℕ} → e ≡ d → rest ≡ inner
    → IsCount ts d (token kind.ParenRight s n w ∷ inner) → IsCount ts e (token kind.ParenRight s n w ∷ rest)
count_moved {ts} {rest} {inner} {d} {e} {s} {n} {w} p q h =
    subst (λ r. IsCount ts e (token kind.ParenRight s n w ∷ r)) (sym q)
    (subst (λ x. IsCount ts x (token kind.ParenRight s n w ∷ inner)) (sym p) h)

count_with : {m : ℕ} {l : List ℕ} {ts middle rest : List TokenV} {e : Exponent} {n : ℕ} → IsProduct ts m l middle
    → BehindProduct (Some m) None l middle e n rest
    → (s : ℕ) × (w : List ℕ) × IsCount ts e (token kind.ParenRight s n w ∷ rest)
count_with p (product_ends {w = w} {s = s} e r) = (s, w, count_moved e r (product p))
count_with p (product_summand {w2 = w2} {s2 = s2} is e r) = (s2, w2, count_moved e r (summand_behind p is))

summand_with : {m c : ℕ} {l : List ℕ} {ts middle rest : List TokenV} {e : Exponent} {n : ℕ} → IsProduct ts m l middle
    → BehindProduct (Some m) (Some c) l middle e n rest → Completes (Summand c) ts e n rest
summand_with {m} {c} {l} {ts} {n = n} p (product_ends {w = w} {s = s} e r) =
    at_summand s w (subst (λ q. IsProduct ts m l (token kind.ParenRight s n w ∷ q)) (sym r) p) e

-- a number in brackets
number_count : {k : ℕ} {w : List ℕ} {ts rest : List TokenV} {e : Exponent} {n : ℕ} (s n1 : ℕ) → IsNumber w k → Completes (Number k) ts e n rest
    → (s2 : ℕ) × (w2 : List ℕ) × IsCount (token kind.Word s n1 w ∷ ts) e (token kind.ParenRight s2 n w2 ∷ rest)
number_count {w = w} {rest = rest} {n = n} s n1 is (number_ends {w = w2} {s = s2} {ts = ts} e r) =
    (s2, w2, count_moved e r (number is refl))
number_count s n1 is (number_factor h) =
    let read = val_read h in count_with (factor_before is read.2) read.3
number_count {w = w} {n = n} s n1 is (number_summand {w = w1} {s = s1} {n1 = n2} (at_summand s2 w2 p e)) =
    (s2, w2, count_moved e refl (summand_before is p))

-- `val` in brackets with nothing before it
val_count : {ts rest : List TokenV} {e : Exponent} {n : ℕ} → Completes (Before (terms None None true)) ts e n rest
    → (s2 : ℕ) × (w2 : List ℕ) × IsCount ts e (token kind.ParenRight s2 n w2 ∷ rest)
val_count h = let read = val_read h in let product = val_product read.2 read.3 in count_with product.2 product.3

-- a word that is a number or else `val`
data NumberOrVal (g : ℕ → ExponentNext) (t : Terms) (n1 : ℕ) (w : List ℕ) (ts : List TokenV) (e : Exponent) (n : ℕ) (rest : List TokenV) : Type 0 where
  is_number : (k : ℕ) → IsNumber w k → Goes_on n1 (Some (g k)) ts e n rest → NumberOrVal g t n1 w ts e n rest
  is_val : w ≡ codes "val" → Completes (Val t) ts e n rest → NumberOrVal g t n1 w ts e n rest

val_case : (b : Bool) (t : Terms) (n1 : ℕ) (w : List ℕ) (ts : List TokenV) (e : Exponent) (n : ℕ) (rest : List TokenV) → is_text w (codes "val") ≡ b
    → Goes_on n1 (if b then Some (Goes (Val t)) else None) ts e n rest → (w ≡ codes "val") × Completes (Val t) ts e n rest
val_case true t n1 w ts e n rest is h = (same_text w (codes "val") (sym is), h)
val_case false t n1 w ts e n rest is h = absurd h

word_case : (o : Option ℕ) (g : ℕ → ExponentNext) (t : Terms) (n1 : ℕ) (w : List ℕ) (ts : List TokenV) (e : Exponent) (n : ℕ) (rest : List TokenV)
    → number_of w ≡ o → Goes_on n1 (first_some (option_map g o) (val_step t w)) ts e n rest → NumberOrVal g t n1 w ts e n rest
word_case (Some k) g t n1 w ts e n rest is h = is_number k (number_said w k is) h
word_case None g t n1 w ts e n rest is h =
    let both = val_case (is_text w (codes "val")) t n1 w ts e n rest refl h in is_val both.0 both.1

count_word : (s n1 : ℕ) (w : List ℕ) (ts : List TokenV) (e : Exponent) (n : ℕ) (rest : List TokenV)
    → NumberOrVal (λ k. Goes (Number k)) (terms None None true) n1 w ts e n rest
    → (s2 : ℕ) × (w2 : List ℕ) × IsCount (token kind.Word s n1 w ∷ ts) e (token kind.ParenRight s2 n w2 ∷ rest)
count_word s n1 w ts e n rest (is_number k is h) = number_count s n1 is h
count_word s n1 w ts e n rest (is_val is h) = val_count (at_before is h)

bracket_word : (s n1 : ℕ) (w : List ℕ) (ts : List TokenV) (e : Exponent) (n : ℕ) (rest : List TokenV)
    → NumberOrVal (λ k. Goes (Number k)) (terms None None true) n1 w ts e n rest → Completes Bracket (token kind.Word s n1 w ∷ ts) e n rest
bracket_word s n1 w ts e n rest h = let c = count_word s n1 w ts e n rest h in at_bracket (λ s0 n0 w0. count c.2)

star_word : (s n1 : ℕ) (w : List ℕ) (ts : List TokenV) (e : Exponent) (n : ℕ) (rest : List TokenV)
    → NumberOrVal (λ k. Ends (exponent.Number k)) (terms None None false) n1 w ts e n rest → Completes Star (token kind.Word s n1 w ∷ ts) e n rest
star_word s n1 w ts e n rest (is_number k is h) = at_star (λ s0 n0 w0.
    subst (λ m. IsExponent (token kind.Star s0 n0 w0 ∷ token kind.Word s n1 w ∷ ts) e m rest) (sym h.1)
    (subst (λ d. IsExponent (token kind.Star s0 n0 w0 ∷ token kind.Word s n1 w ∷ ts) d n1 rest) (sym h.0) (times_number is h.2)))
star_word s n1 w ts e n rest (is_val is (at_val {w = w2} {s = s2} {n1 = n2} (at_val_bracket {l = l} {ts = inner} name (words_end {w = w3} {s = s3} d r)))) =
    at_star (λ s0 n0 w0. subst (λ x. IsExponent (token kind.Star s0 n0 w0 ∷ token kind.Word s n1 w ∷ token kind.ParenLeft s2 n2 w2 ∷ inner) x n rest) (sym d)
    (times_val is (subst (λ q. IsName inner l (token kind.ParenRight s3 n w3 ∷ q)) (sym r) name)))

summand_word : (c s n1 : ℕ) (w : List ℕ) (ts : List TokenV) (e : Exponent) (n : ℕ) (rest : List TokenV)
    → NumberOrVal (λ k. Goes (Factor c k)) (terms None (Some c) true) n1 w ts e n rest → Completes (Summand c) (token kind.Word s n1 w ∷ ts) e n rest
summand_word c s n1 w ts e n rest (is_number k is (at_factor h)) =
    let read = val_read h in summand_with (factor_before is read.2) read.3
summand_word c s n1 w ts e n rest (is_val is h) =
    let read = val_read (at_before is h) in let product = val_product read.2 read.3 in summand_with product.2 product.3

bracket_star : (s n1 : ℕ) (w : List ℕ) (ts : List TokenV) (e : Exponent) (n : ℕ) (rest : List TokenV)
    → Completes (Whole exponent.Any) ts e n rest → Completes Bracket (token kind.Star s n1 w ∷ ts) e n rest
bracket_star s n1 w ts e n rest (at_whole {w = w2} {s = s2} {ts = inner} d r) = at_bracket (λ s0 n0 w0.
    subst (λ x. IsExponent (token kind.ParenLeft s0 n0 w0 ∷ token kind.Star s n1 w ∷ token kind.ParenRight s2 n w2 ∷ inner) x n rest) (sym d) (any_star r))

bracket_stars : (s n1 : ℕ) (w : List ℕ) (ts : List TokenV) (e : Exponent) (n : ℕ) (rest : List TokenV)
    → Completes (Whole exponent.Any) ts e n rest → Completes Bracket (token kind.StarStar s n1 w ∷ ts) e n rest
bracket_stars s n1 w ts e n rest (at_whole {w = w2} {s = s2} {ts = inner} d r) = at_bracket (λ s0 n0 w0.
    subst (λ x. IsExponent (token kind.ParenLeft s0 n0 w0 ∷ token kind.StarStar s n1 w ∷ token kind.ParenRight s2 n w2
    ∷ inner) x n rest) (sym d) (any_stars r))

paren_back : (t : Terms) (b : Bool) (ws : List ℕ) (s n1 : ℕ) (w : List ℕ) (ts : List TokenV) (e : Exponent) (n : ℕ) (rest : List TokenV)
    → Goes_on n1 (if b then Some (Goes (Product t ws)) else Some (Ends (linear t ws))) ts e n rest
    → BehindWords t.factor t.summand b ws (token kind.ParenRight s n1 w ∷ ts) e n rest
paren_back t true ws s n1 w ts e n rest (at_product b) = words_bracket b
paren_back t false ws s n1 w ts e n rest h =
    subst (λ m. BehindWords t.factor t.summand false ws (token kind.ParenRight s n1 w ∷ ts) e m rest) (sym h.1) (words_end h.0 h.2)

star_back : (t : Terms) (f : Option ℕ) (l : List ℕ) (s n1 : ℕ) (w : List ℕ) (ts : List TokenV) (e : Exponent) (n : ℕ) (rest : List TokenV)
    → Goes_on n1 (step.factor_behind t f l) ts e n rest → BehindProduct f t.summand l (token kind.Star s n1 w ∷ ts) e n rest
star_back t None l s n1 w ts e n rest (at_factor_behind is b) = product_factor is b
star_back t (Some m) l s n1 w ts e n rest h = absurd h

plus_back : (t : Terms) (c : Option ℕ) (l : List ℕ) (s n1 : ℕ) (w : List ℕ) (ts : List TokenV) (e : Exponent) (n : ℕ) (rest : List TokenV)
    → Goes_on n1 (step.summand_behind t c l) ts e n rest → BehindProduct t.factor c l (token kind.Plus s n1 w ∷ ts) e n rest
plus_back t None l s n1 w ts e n rest (at_summand_behind is d r) = product_summand is d r
plus_back t (Some c) l s n1 w ts e n rest h = absurd h

factor_back : (o : Option ℕ) (c : Option ℕ) (l : List ℕ) (s n1 : ℕ) (w : List ℕ) (ts : List TokenV) (e : Exponent) (n : ℕ) (rest : List TokenV)
    → number_of w ≡ o → Goes_on n1 (option_map (λ m. Goes (Product (terms (Some m) c true) l)) o) ts e n rest
    → Completes (FactorBehind c l) (token kind.Word s n1 w ∷ ts) e n rest
factor_back None c l s n1 w ts e n rest is h = absurd h
factor_back (Some m) c l s n1 w ts e n rest is (at_product b) = at_factor_behind (number_said w m is) b

summand_back : (o : Option ℕ) (m : ℕ) (l : List ℕ) (s n1 : ℕ) (w : List ℕ) (ts : List TokenV) (e : Exponent) (n : ℕ) (rest : List TokenV)
    → number_of w ≡ o → Goes_on n1 (option_map (λ c. Goes (Whole (exponent.Linear m l c))) o) ts e n rest
    → Completes (SummandBehind m l) (token kind.Word s n1 w ∷ ts) e n rest
summand_back None m l s n1 w ts e n rest is h = absurd h
summand_back (Some c) m l s n1 w ts e n rest is (at_whole d r) = at_summand_behind (number_said w c is) d r

words_back : (t : Terms) (ws : List ℕ) (s n1 : ℕ) (w : List ℕ) (ts : List TokenV) (e : Exponent) (n : ℕ) (rest : List TokenV)
    → Completes (ValWords t (ws ++ 32 ∷ w)) ts e n rest → Completes (ValWords t ws) (token kind.Word s n1 w ∷ ts) e n rest
words_back t ws s n1 w ts e n rest (words_done b) = words_more (last_word refl) b
words_back t ws s n1 w ts e n rest (words_more {l = l} {middle = middle} is b) =
    words_more (more_words is) (subst (λ x. BehindWords t.factor t.summand t.bracket x middle e n rest) (append_assoc ws (32 ∷ w) (32 ∷ l)) b)

first_back : (t : Terms) (s n1 : ℕ) (w : List ℕ) (ts : List TokenV) (e : Exponent) (n : ℕ) (rest : List TokenV)
    → Completes (ValWords t w) ts e n rest → Completes (ValBracket t) (token kind.Word s n1 w ∷ ts) e n rest
first_back t s n1 w ts e n rest (words_done b) = at_val_bracket (last_word refl) b
first_back t s n1 w ts e n rest (words_more is b) = at_val_bracket (more_words is) b

-- a step back
pub exponent_back : (p : Progress) (k : TokenKind) (s n1 : ℕ) (w : List ℕ) (ts : List TokenV) (e : Exponent) (n : ℕ) (rest : List TokenV)
    → Goes_on n1 (exponent_step p k w) ts e n rest → Completes p (token k s n1 w ∷ ts) e n rest
exponent_back Bracket kind.Star s n1 w ts e n rest h = bracket_star s n1 w ts e n rest h
exponent_back Bracket kind.StarStar s n1 w ts e n rest h = bracket_stars s n1 w ts e n rest h
exponent_back Bracket kind.Word s n1 w ts e n rest h =
    bracket_word s n1 w ts e n rest (word_case (number_of w) (λ k. Goes (Number k)) (terms None None true) n1 w ts e n rest refl h)
exponent_back Bracket k s n1 w ts e n rest h = absurd h
exponent_back Star kind.ParenLeft s n1 w ts e n rest (at_count s2 w2 c) = at_star (λ s0 n0 w0. times_count c)
exponent_back Star kind.Word s n1 w ts e n rest h =
    star_word s n1 w ts e n rest (word_case (number_of w) (λ k. Ends (exponent.Number k)) (terms None None false) n1 w ts e n rest refl h)
exponent_back Star k s n1 w ts e n rest h = absurd h
exponent_back StarBracket kind.Word s n1 w ts e n rest h =
    let c = count_word s n1 w ts e n rest (word_case (number_of w) (λ k. Goes (Number k)) (terms None None true) n1 w ts e n rest refl h) in
    at_count c.0 c.1 c.2
exponent_back StarBracket k s n1 w ts e n rest h = absurd h
exponent_back (Number m) kind.ParenRight s n1 w ts e n rest h =
    subst (λ i. Completes (Number m) (token kind.ParenRight s n1 w ∷ ts) e i rest) (sym h.1) (number_ends h.0 h.2)
exponent_back (Number m) kind.Star s n1 w ts e n rest h = number_factor h
exponent_back (Number m) kind.Plus s n1 w ts e n rest h = number_summand h
exponent_back (Number m) k s n1 w ts e n rest h = absurd h
exponent_back (Summand c) kind.Word s n1 w ts e n rest h =
    summand_word c s n1 w ts e n rest (word_case (number_of w) (λ k. Goes (Factor c k)) (terms None (Some c) true) n1 w ts e n rest refl h)
exponent_back (Summand c) k s n1 w ts e n rest h = absurd h
exponent_back (Factor c m) kind.Star s n1 w ts e n rest h = at_factor h
exponent_back (Factor c m) k s n1 w ts e n rest h = absurd h
exponent_back (Before t) kind.Word s n1 w ts e n rest h =
    let both = val_case (is_text w (codes "val")) t n1 w ts e n rest refl h in at_before both.0 both.1
exponent_back (Before t) k s n1 w ts e n rest h = absurd h
exponent_back (Val t) kind.ParenLeft s n1 w ts e n rest h = at_val h
exponent_back (Val t) k s n1 w ts e n rest h = absurd h
exponent_back (ValBracket t) kind.Word s n1 w ts e n rest h = first_back t s n1 w ts e n rest h
exponent_back (ValBracket t) k s n1 w ts e n rest h = absurd h
exponent_back (ValWords t ws) kind.Word s n1 w ts e n rest h = words_back t ws s n1 w ts e n rest h
exponent_back (ValWords t ws) kind.ParenRight s n1 w ts e n rest h = words_done (paren_back t t.bracket ws s n1 w ts e n rest h)
exponent_back (ValWords t ws) k s n1 w ts e n rest h = absurd h
exponent_back (Product t l) kind.ParenRight s n1 w ts e n rest h =
    subst (λ i. Completes (Product t l) (token kind.ParenRight s n1 w ∷ ts) e i rest) (sym h.1) (at_product (product_ends h.0 h.2))
exponent_back (Product t l) kind.Star s n1 w ts e n rest h = at_product (star_back t t.factor l s n1 w ts e n rest h)
exponent_back (Product t l) kind.Plus s n1 w ts e n rest h = at_product (plus_back t t.summand l s n1 w ts e n rest h)
exponent_back (Product t l) k s n1 w ts e n rest h = absurd h
exponent_back (FactorBehind c l) kind.Word s n1 w ts e n rest h = factor_back (number_of w) c l s n1 w ts e n rest refl h
exponent_back (FactorBehind c l) k s n1 w ts e n rest h = absurd h
exponent_back (SummandBehind m l) kind.Word s n1 w ts e n rest h = summand_back (number_of w) m l s n1 w ts e n rest refl h
exponent_back (SummandBehind m l) k s n1 w ts e n rest h = absurd h
exponent_back (Whole d) kind.ParenRight s n1 w ts e n rest h =
    subst (λ i. Completes (Whole d) (token kind.ParenRight s n1 w ∷ ts) e i rest) (sym h.1) (at_whole h.0 h.2)
exponent_back (Whole d) k s n1 w ts e n rest h = absurd h
