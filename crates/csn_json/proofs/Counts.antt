-- A text has no more tokens than bytes, and one.
use Rattle.std.proofs.Common.{◌≡◌, ℕ, suc, ◌≤◌, Bool, true, false, List, [], ◌∷◌, length, arith}
use Rattle.json.specs.Token.{Token}
use Rattle.json.specs.Lex.{Mode, between, in_word, in_string, in_escape, Class, quote, backslash, operator, space}
use Rattle.json.specs.Lex.{other, Lexeme, token, comma, colon, Place, fresh, after_value, after_comma, after_key}
use Rattle.json.specs.Lex.{lex_byte, lex, class, if_allowed, place_token, punctuate, begins_colon, tokens}

-- ---- tokens

length-lex_byte : (m : Mode) (c : Class) (x : ℕ) (xs : List ℕ) (k : Mode → List Lexeme) (n : ℕ)
    → ((next : Mode) → length (k next) ≤ n) → length (lex_byte m c x xs k) ≤ suc n
length-lex_byte between quote x xs k n h = omega (arith, h in_string)
length-lex_byte between backslash x xs k n h = omega (arith, h in_word)
length-lex_byte between operator x xs k n h = omega (arith, h between)
length-lex_byte between space x xs k n h = omega (arith, h between)
length-lex_byte between other x xs k n h = omega (arith, h in_word)
length-lex_byte in_word quote x xs k n h = omega (arith, h in_word)
length-lex_byte in_word backslash x xs k n h = omega (arith, h in_word)
length-lex_byte in_word operator x xs k n h = omega (arith, h between)
length-lex_byte in_word space x xs k n h = omega (arith, h between)
length-lex_byte in_word other x xs k n h = omega (arith, h in_word)
length-lex_byte in_string quote x xs k n h = omega (arith, h between)
length-lex_byte in_string backslash x xs k n h = omega (arith, h in_escape)
length-lex_byte in_string operator x xs k n h = omega (arith, h in_string)
length-lex_byte in_string space x xs k n h = omega (arith, h in_string)
length-lex_byte in_string other x xs k n h = omega (arith, h in_string)
length-lex_byte in_escape c x xs k n h = omega (arith, h in_string)

length-lex : (m : Mode) (xs : List ℕ) → length (lex m xs) ≤ length xs
unfolding lex
length-lex m [] = omega arith
length-lex m (x ∷ xs) = length-lex_byte m (class x) x xs (λ next. lex next xs) (length xs) (λ next. length-lex next xs)

length-if_allowed : (b : Bool) (t : Token) (k : Place → List Token) (next : Place) (n : ℕ)
    → length (k next) ≤ suc n → length (if_allowed b t k next) ≤ suc (suc n)
length-if_allowed true t k next n h = omega (arith, h)
length-if_allowed false t k next n h = omega arith

length-place_token : (p : Place) (t : Token) (b : Bool) (k : Place → List Token) (n : ℕ)
    → ((next : Place) → length (k next) ≤ suc n) → length (place_token p t b k) ≤ suc (suc n)
length-place_token p Token.begin_object b k n h = length-if_allowed _ _ k _ n (h _)
length-place_token p Token.end_object b k n h = length-if_allowed _ _ k _ n (h _)
length-place_token p Token.begin_array b k n h = length-if_allowed _ _ k _ n (h _)
length-place_token p Token.end_array b k n h = length-if_allowed _ _ k _ n (h _)
length-place_token p (Token.key s) b k n h = omega arith
length-place_token p (Token.string s) true k n h = length-if_allowed _ _ k _ n (h _)
length-place_token p (Token.string s) false k n h = length-if_allowed _ _ k _ n (h _)
length-place_token p (Token.number s) b k n h = length-if_allowed _ _ k _ n (h _)
length-place_token p (Token.boolean c) b k n h = length-if_allowed _ _ k _ n (h _)
length-place_token p Token.null b k n h = length-if_allowed _ _ k _ n (h _)
length-place_token p Token.bad b k n h = omega arith

length-punctuate : (p : Place) (ls : List Lexeme) → length (punctuate p ls) ≤ suc (length ls)
unfolding punctuate
length-punctuate fresh [] = omega arith
length-punctuate after_value [] = omega arith
length-punctuate after_comma [] = omega arith
length-punctuate after_key [] = omega arith
length-punctuate fresh (token t ∷ ls) = length-place_token fresh t (begins_colon ls) (λ next. punctuate next ls) (length ls) (λ next. length-punctuate next ls)
length-punctuate after_value (token t ∷ ls) = length-place_token after_value t (begins_colon ls)
    (λ next. punctuate next ls) (length ls) (λ next. length-punctuate next ls)
length-punctuate after_comma (token t ∷ ls) = length-place_token after_comma t (begins_colon ls)
    (λ next. punctuate next ls) (length ls) (λ next. length-punctuate next ls)
length-punctuate after_key (token t ∷ ls) = length-place_token after_key t (begins_colon ls)
    (λ next. punctuate next ls) (length ls) (λ next. length-punctuate next ls)
length-punctuate fresh (comma ∷ ls) = omega arith
length-punctuate after_value (comma ∷ ls) = omega (arith, length-punctuate after_comma ls)
length-punctuate after_comma (comma ∷ ls) = omega arith
length-punctuate after_key (comma ∷ ls) = omega arith
length-punctuate fresh (colon ∷ ls) = omega arith
length-punctuate after_value (colon ∷ ls) = omega arith
length-punctuate after_comma (colon ∷ ls) = omega arith
length-punctuate after_key (colon ∷ ls) = omega (arith, length-punctuate fresh ls)

pub length-tokens : (text : List ℕ) → length (tokens text) ≤ suc (length text)
length-tokens text = omega (arith, length-punctuate fresh (lex between text), length-lex between text)
