-- The reader takes words, names and exponents.
use Rattle.std.proofs.Common.{◌≡◌, ℕ, true, false, List, [], ◌∷◌, ◌++◌, length, map, Option, Some, None, refl, sym, ap, ◌∙◌, subst, append_assoc}
use Rattle.std.specs.Prelude.{unwrap_or}
use Rattle.std.proofs.Common.{le-leb}
use Rattle.csn_lexer.specs.declared.token.TokenKind.TheVariants as kind
use Rattle.csn_desc.specs.declared.symbol.Symbol.{Symbol}
use Rattle.csn_desc.specs.declared.symbol.Symbol.TheVariants.{Zero, One, Low, High}
use Rattle.csn_grammar.specs.declared.exponent.TheConstants.{MOST_DIGITS}
use Rattle.csn_grammar.specs.declared.exponent.Exponent.{Exponent}
use Rattle.csn_grammar.specs.declared.exponent.Exponent.TheVariants as exponent
use Rattle.csn_grammar.specs.declared.reader.body.Frame.{Frame}
use Rattle.csn_grammar.specs.declared.reader.body.Level.{Level}
use Rattle.csn_grammar.specs.declared.reader.body.Mode.TheVariants.{Base, Done, Exponent as In}
use Rattle.csn_grammar.specs.declared.reader.progress.Terms.{Terms}
use Rattle.csn_grammar.specs.declared.reader.progress.Progress.{Progress}
use Rattle.csn_grammar.specs.declared.reader.progress.Progress.TheVariants.{Bracket, StarBracket, Number, Summand}
use Rattle.csn_grammar.specs.declared.reader.progress.Progress.TheVariants.{Before, ValBracket, ValWords, Product}
use Rattle.csn_grammar.specs.declared.reader.progress.Progress.TheVariants.{SummandBehind}
use Rattle.csn_grammar.specs.ExprV.{ExprV, lits}
use Rattle.csn_grammar.specs.RulesV.{RulesV}
use Rattle.csn_grammar.specs.TokenV.{TokenV, token}
use Rattle.csn_grammar.specs.Writing.{letter_of, IsLits, IsNumber}
use Rattle.csn_grammar.specs.Counts.{IsName, last_word, more_words, IsVal, val, IsProduct, alone, factor_before}
use Rattle.csn_grammar.specs.Counts.{factor_behind, IsCount, number, product, summand_behind, summand_before}
use Rattle.csn_grammar.specs.Counts.{IsExponent, count, times_number, times_val, times_count, any, any_star}
use Rattle.csn_grammar.specs.Counts.{any_stars}
use Rattle.csn_grammar.specs.reader.Spellings.{number_of, symbol_of, run_of, word_form}
use Rattle.csn_grammar.specs.reader.Building.{power_of}
use Rattle.csn_grammar.specs.reader.BodySteps.{goes, after_base, after_exponent, body_step}
use Rattle.csn_grammar.proofs.Run.{Step, Leads, Comes}

pub number_is : (w : List ℕ) (n : ℕ) → IsNumber w n → number_of w ≡ Some n
number_is w n h =
    rw (le-leb 1 (length w) h.some, le-leb (length w) MOST_DIGITS h.few, h.digits) (ap (λ k. Some k) (sym h.value))

symbol_is : (s : Symbol) → symbol_of (letter_of s) ≡ Some s
symbol_is Zero = refl
symbol_is One = refl
symbol_is Low = refl
symbol_is High = refl

run_is : (run : List Symbol) → run_of (map letter_of run) ≡ Some run
run_is [] = refl
run_is (s ∷ run) = rw (symbol_is s, run_is run) refl

lits_form : (run : List Symbol) → word_form (map letter_of run) ≡ Some (lits run)
lits_form [] = refl
lits_form (Zero ∷ run) = rw (run_is run) refl
lits_form (One ∷ run) = rw (run_is run) refl
lits_form (Low ∷ run) = rw (run_is run) refl
lits_form (High ∷ run) = rw (run_is run) refl

pub lits_is : (w : List ℕ) (run : List Symbol) → IsLits w run → word_form w ≡ Some (lits run)
lits_is w run h = ap word_form h ∙ lits_form run

module _ (rules : RulesV) (begin : ℕ) (title : List ℕ) (frames : List Frame) (level : Level) (x : ExprV) where
  -- the tokens lead from here in an exponent
  abbrev pub From : Progress → List TokenV → RulesV → Type 0
  From p ts out = Comes rules begin title frames level (In x p) ts out

  words_from : {ts rest : List TokenV} {l : List ℕ} → IsName ts l rest → (t : Terms) (ws : List ℕ) (out : RulesV)
      → From (ValWords t (ws ++ 32 ∷ l)) rest out → From (ValWords t ws) ts out
  unfolding body_step after_exponent
  words_from (last_word {w = w} e) t ws out h = subst (λ r. From (ValWords t (ws ++ 32 ∷ w)) r out) e h
  words_from {rest = rest} (more_words {w = w} {name = name} more) t ws out h =
      words_from more t (ws ++ 32 ∷ w) out (subst (λ l. From (ValWords t l) rest out) (sym (append_assoc ws (32 ∷ w) (32 ∷ name))) h)

  name_from : {ts rest : List TokenV} {l : List ℕ} → IsName ts l rest → (t : Terms) (out : RulesV)
      → From (ValWords t l) rest out → From (ValBracket t) ts out
  unfolding body_step after_exponent
  name_from (last_word {w = w} e) t out h = subst (λ r. From (ValWords t w) r out) e h
  name_from (more_words {w = w} more) t out h = words_from more t w out h

  -- from the word `val` on
  val_from : {ts rest : List TokenV} {l : List ℕ} → IsVal ts l rest → (f c : Option ℕ) (out : RulesV)
      → From (Product (record { factor = f; summand = c; bracket = true }) l) rest out
      → From (Before (record { factor = f; summand = c; bracket = true })) ts out
  unfolding body_step after_exponent
  val_from (val e name) f c out h = rw e (name_from name (record { factor = f; summand = c; bracket = true }) out h)

  -- what may come behind a product with the factor m
  abbrev after_product : Option ℕ → ℕ → List ℕ → Step
  after_product c m l kind.ParenRight s n w = goes frames level (Done (power_of x n (exponent.Linear m l (unwrap_or c 0))))
  after_product None m l kind.Plus s n w = goes frames level (In x (SummandBehind m l))
  after_product c m l _ s n w = None

  product_ends : (f c : Option ℕ) (m : ℕ) (l : List ℕ) (ts : List TokenV) (out : RulesV) → unwrap_or f 1 ≡ m
      → Leads rules begin title (after_product c m l) ts out
      → From (Product (record { factor = f; summand = c; bracket = true }) l) ts out
  unfolding body_step after_exponent
  product_ends f c m l [] out e h = absurd h
  product_ends f c m l (token kind.ParenRight s n w ∷ ts) out e h =
      subst (λ k. Comes rules begin title frames level (Done (power_of x n (exponent.Linear k l (unwrap_or c 0)))) ts out) (sym e) h
  product_ends f None m l (token kind.Plus s n w ∷ ts) out e h = subst (λ k. From (SummandBehind k l) ts out) (sym e) h
  product_ends f (Some c) m l (token kind.Plus s n w ∷ ts) out e h = absurd (cc)
  product_ends f c m l (token k s n w ∷ ts) out e h = absurd (cc)

  -- where a product may begin, and the summand before it
  data Starts : Option ℕ → Progress → Type 0 where
    at_star : Starts None StarBracket
    at_bracket : Starts None Bracket
    at_summand : {c : ℕ} → Starts (Some c) (Summand c)

  start_val : {c : Option ℕ} {p : Progress} {ts rest : List TokenV} {l : List ℕ} (out : RulesV) → Starts c p → IsVal ts l rest
      → From (Before (record { factor = None; summand = c; bracket = true })) ts out → From p ts out
  unfolding body_step after_exponent
  start_val out at_star (val {ts = ts} e name) h = rw e (rw e at h)
  start_val out at_bracket (val {ts = ts} e name) h = rw e (rw e at h)
  start_val out at_summand (val {ts = ts} e name) h = rw e (rw e at h)

  start_factor : {c : Option ℕ} {p : Progress} (s n s1 n1 m : ℕ) (w w1 : List ℕ) (ts : List TokenV) (out : RulesV) → Starts c p → IsNumber w m
      → From (Before (record { factor = Some m; summand = c; bracket = true })) ts out
      → From p (token kind.Word s n w ∷ token kind.Star s1 n1 w1 ∷ ts) out
  unfolding body_step after_exponent
  start_factor s n s1 n1 m w w1 ts out at_star is h = rw (number_is w m is) h
  start_factor s n s1 n1 m w w1 ts out at_bracket is h = rw (number_is w m is) h
  start_factor s n s1 n1 m w w1 ts out at_summand is h = rw (number_is w m is) h

  start_number : {p : Progress} (s n k : ℕ) (w : List ℕ) (ts : List TokenV) (out : RulesV) → Starts None p → IsNumber w k
      → From (Number k) ts out → From p (token kind.Word s n w ∷ ts) out
  unfolding body_step after_exponent
  start_number s n k w ts out at_star is h = rw (number_is w k is) h
  start_number s n k w ts out at_bracket is h = rw (number_is w k is) h

  product_from : {c : Option ℕ} {p : Progress} {ts rest : List TokenV} {m : ℕ} {l : List ℕ} (out : RulesV) → Starts c p
      → IsProduct ts m l rest → Leads rules begin title (after_product c m l) rest out → From p ts out
  unfolding body_step after_exponent
  product_from {c} {rest = rest} {l = l} out at (alone v) h =
      start_val out at v (val_from v None c out (product_ends None c 1 l rest out refl h))
  product_from {c} {rest = rest} {m = m} {l = l} out at (factor_before {s = s} {n = n} {s1 = s1} {n1 = n1} {w = w} {w1 = w1} {ts = ts} is v) h =
      start_factor s n s1 n1 m w w1 ts out at is (val_from v (Some m) c out (product_ends (Some m) c m l rest out refl h))
  product_from {c} {rest = rest} {m = m} {l = l} out at (factor_behind {w = w} v is) h =
      start_val out at v (val_from v None c out (rw (number_is w m is) (product_ends (Some m) c m l rest out refl h)))

  count_from : {p : Progress} {ts rest : List TokenV} {e : Exponent} {s n : ℕ} {w : List ℕ} (out : RulesV) → Starts None p
      → IsCount ts e (token kind.ParenRight s n w ∷ rest)
      → Comes rules begin title frames level (Done (power_of x n e)) rest out → From p ts out
  unfolding body_step after_exponent
  count_from out at (number {s = s} {n = n} {k = k} {w = w} {ts = ts} is e) h =
      start_number s n k w ts out at is (subst (λ r. From (Number k) r out) e h)
  count_from out at (product p) h = product_from out at p h
  count_from out at (summand_behind {c = c} {w = w} p is) h = product_from out at p (rw (number_is w c is) h)
  count_from out at (summand_before {s = s} {n = n} {c = c} {w = w} {ts = ts} is p) h =
      start_number s n c w (token kind.Plus _ _ _ ∷ ts) out at is (product_from out at_summand p h)

  pub exponent_from : {ts rest : List TokenV} {e : Exponent} {n : ℕ} (out : RulesV) → IsExponent ts e n rest
      → Comes rules begin title frames level (Done (power_of x n e)) rest out
      → Comes rules begin title frames level (Base x) ts out
  unfolding body_step after_base after_exponent
  exponent_from out (count c) h = count_from out at_bracket c h
  exponent_from {n = n} out (times_number {k = k} {w1 = w1} is e) h =
      rw (number_is w1 k is) (subst (λ r. Comes rules begin title frames level (Done (power_of x n (exponent.Number k))) r out) e h)
  exponent_from out (times_val {label = label} e name) h =
      rw e (name_from name (record { factor = None; summand = None; bracket = false }) out h)
  exponent_from out (times_count c) h = count_from out at_star c h
  exponent_from {n = n} out (any e) h =
      subst (λ r. Comes rules begin title frames level (Done (power_of x n exponent.Any)) r out) e h
  exponent_from {n = n} out (any_star e) h =
      subst (λ r. Comes rules begin title frames level (Done (power_of x n exponent.Any)) r out) e h
  exponent_from {n = n} out (any_stars e) h =
      subst (λ r. Comes rules begin title frames level (Done (power_of x n exponent.Any)) r out) e h
