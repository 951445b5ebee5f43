-- How bits begin with words, each whole or cut: as bits of a node begin with its keys. (This project's own choice.)
use Rattle.std.specs.Prelude.{◌≡◌, ℕ, Bool, true, List, [], ◌++◌}

-- the bits begin with a word of these, and are it where it is whole
pub record Begun (P : List ℕ → Bool → Type 0) (b : List ℕ) : Type 0 where
  pub word : List ℕ
  pub mark : Bool
  pub rest : List ℕ
  pub key : P word mark
  pub begins : b ≡ word ++ rest
  pub whole : mark ≡ true → rest ≡ []

-- they begin with one, or are the beginning of one
pub data Near (P : List ℕ → Bool → Type 0) (b : List ℕ) : Type 0 where
  near_begun : Begun P b → Near P b
  near_within : {word : List ℕ} {mark : Bool} (rest : List ℕ) → P word mark → word ≡ b ++ rest → Near P b
