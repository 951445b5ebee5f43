-- Names, counts and exponents as tokens write them. Names and exponents are those of 3GPP TS 24.007
-- Annex B; which sums and products a count may be is this project's own choice.
--
-- `IsName ts name rest` says that the tokens `ts` begin with that name, and that `rest` is what stands
-- behind it; the other relations of tokens are read in the same way.
use Rattle.std.specs.Prelude.{◌≡◌, ℕ, List, ◌∷◌, ◌++◌, codes}
use Rattle.csn_lexer.specs.declared.token.TokenKind.TheVariants.{Word, ParenLeft, ParenRight, Star, StarStar, Plus}
use Rattle.csn_grammar.specs.declared.exponent.Exponent.{Exponent}
use Rattle.csn_grammar.specs.declared.exponent.Exponent.TheVariants.{Any, Number, Linear}
use Rattle.csn_grammar.specs.TokenV.{TokenV, token}
use Rattle.csn_grammar.specs.Writing.{IsNumber}

-- one word or more, joined by one space each
pub data IsName : List TokenV → List ℕ → List TokenV → Type 0 where
  last_word : {s n : ℕ} {w : List ℕ} {ts rest : List TokenV} → rest ≡ ts → IsName (token Word s n w ∷ ts) w rest
  more_words : {s n : ℕ} {w name : List ℕ} {ts rest : List TokenV} → IsName ts name rest
      → IsName (token Word s n w ∷ ts) (w ++ 32 ∷ name) rest

-- `val ( name )`
pub data IsVal : List TokenV → List ℕ → List TokenV → Type 0 where
  val : {s n s1 n1 s2 n2 : ℕ} {w w1 w2 label : List ℕ} {ts rest : List TokenV} → w ≡ codes "val"
      → IsName ts label (token ParenRight s2 n2 w2 ∷ rest)
      → IsVal (token Word s n w ∷ token ParenLeft s1 n1 w1 ∷ ts) label rest

-- `val ( name )`, maybe with a factor before or behind it
pub data IsProduct : List TokenV → ℕ → List ℕ → List TokenV → Type 0 where
  alone : {label : List ℕ} {ts rest : List TokenV} → IsVal ts label rest → IsProduct ts 1 label rest
  factor_before : {s n s1 n1 m : ℕ} {w w1 label : List ℕ} {ts rest : List TokenV} → IsNumber w m
      → IsVal ts label rest → IsProduct (token Word s n w ∷ token Star s1 n1 w1 ∷ ts) m label rest
  factor_behind : {s n s1 n1 m : ℕ} {w w1 label : List ℕ} {ts rest : List TokenV}
      → IsVal ts label (token Star s1 n1 w1 ∷ token Word s n w ∷ rest) → IsNumber w m
      → IsProduct ts m label rest

-- a number, or a product, maybe with a summand before or behind it
pub data IsCount : List TokenV → Exponent → List TokenV → Type 0 where
  number : {s n k : ℕ} {w : List ℕ} {ts rest : List TokenV} → IsNumber w k → rest ≡ ts
      → IsCount (token Word s n w ∷ ts) (Number k) rest
  product : {m : ℕ} {label : List ℕ} {ts rest : List TokenV} → IsProduct ts m label rest
      → IsCount ts (Linear m label 0) rest
  summand_behind : {s n s1 n1 m c : ℕ} {w w1 label : List ℕ} {ts rest : List TokenV}
      → IsProduct ts m label (token Plus s1 n1 w1 ∷ token Word s n w ∷ rest) → IsNumber w c
      → IsCount ts (Linear m label c) rest
  summand_before : {s n s1 n1 m c : ℕ} {w w1 label : List ℕ} {ts rest : List TokenV} → IsNumber w c
      → IsProduct ts m label rest
      → IsCount (token Word s n w ∷ token Plus s1 n1 w1 ∷ ts) (Linear m label c) rest

-- an exponent, and the place behind its last byte
pub data IsExponent : List TokenV → Exponent → ℕ → List TokenV → Type 0 where
  -- `( count )`
  count : {s n s1 n1 : ℕ} {w w1 : List ℕ} {e : Exponent} {ts rest : List TokenV}
      → IsCount ts e (token ParenRight s1 n1 w1 ∷ rest)
      → IsExponent (token ParenLeft s n w ∷ ts) e n1 rest
  -- `* number`
  times_number : {s n s1 n1 k : ℕ} {w w1 : List ℕ} {ts rest : List TokenV} → IsNumber w1 k → rest ≡ ts
      → IsExponent (token Star s n w ∷ token Word s1 n1 w1 ∷ ts) (Number k) n1 rest
  -- `* val ( name )`
  times_val : {s n s1 n1 s2 n2 s3 n3 : ℕ} {w w1 w2 w3 label : List ℕ} {ts rest : List TokenV}
      → w1 ≡ codes "val" → IsName ts label (token ParenRight s3 n3 w3 ∷ rest)
      → IsExponent (token Star s n w ∷ token Word s1 n1 w1 ∷ token ParenLeft s2 n2 w2 ∷ ts)
      (Linear 1 label 0) n3 rest
  -- `* ( count )`
  times_count : {s n s1 n1 s2 n2 : ℕ} {w w1 w2 : List ℕ} {e : Exponent} {ts rest : List TokenV}
      → IsCount ts e (token ParenRight s2 n2 w2 ∷ rest)
      → IsExponent (token Star s n w ∷ token ParenLeft s1 n1 w1 ∷ ts) e n2 rest
  -- `**`
  any : {s n : ℕ} {w : List ℕ} {ts rest : List TokenV} → rest ≡ ts
      → IsExponent (token StarStar s n w ∷ ts) Any n rest
  -- `(*)`
  any_star : {s n s1 n1 s2 n2 : ℕ} {w w1 w2 : List ℕ} {ts rest : List TokenV} → rest ≡ ts
      → IsExponent (token ParenLeft s n w ∷ token Star s1 n1 w1 ∷ token ParenRight s2 n2 w2 ∷ ts)
      Any n2 rest
  -- `(**)`
  any_stars : {s n s1 n1 s2 n2 : ℕ} {w w1 w2 : List ℕ} {ts rest : List TokenV} → rest ≡ ts
      → IsExponent (token ParenLeft s n w ∷ token StarStar s1 n1 w1 ∷ token ParenRight s2 n2 w2 ∷ ts)
      Any n2 rest
