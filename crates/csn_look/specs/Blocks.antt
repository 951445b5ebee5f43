-- The marks of a table in blocks of four numbers, each kept once: an index says for each place which block stands
-- there. (This project's own choice.)
use Rattle.std.specs.Prelude.{◌≡◌, ℕ, ◌+◌, ◌*◌, ◌%◌, ◌≤◌, ◌^◌, List, [], ◌∷◌, ◌++◌, length, slice_get, slice_index, Some}

-- the four numbers of a block
abbrev pub four : List ℕ → ℕ → List ℕ
four marks at =
    slice_index marks (4 * at) ∷ slice_index marks (4 * at + 1) ∷ slice_index marks (4 * at + 2) ∷ slice_index marks (4 * at + 3) ∷ []

-- the blocks of an index, one after another
abbrev pub laid_out : List ℕ → List ℕ → List ℕ
laid_out [] blocks = []
laid_out (block ∷ index) blocks = four blocks block ++ laid_out index blocks

-- the marks: with no index the blocks themselves
abbrev pub marks_of : List ℕ → List ℕ → List ℕ
marks_of [] blocks = blocks
marks_of (block ∷ index) blocks = laid_out (block ∷ index) blocks

-- each block of the index is there
abbrev pub AreWithin : List ℕ → List ℕ → Type 0
AreWithin index blocks = (at block : ℕ) → slice_get index at ≡ Some block → 4 * block + 4 ≤ length blocks

-- the block with this number is this one, among the blocks, which may be more than before
pub record IsKept (block old new : List ℕ) (number : ℕ) : Type 0 where
  pub more : (back : List ℕ) × (new ≡ old ++ back)
  pub size : length new % 4 ≡ 0
  pub few : length new ≤ length old + 4
  pub within : 4 * number + 4 ≤ length new
  pub same : four new number ≡ block

-- a number that is the same for the same marks, and mostly another for others
abbrev pub digest_on : ℕ → List ℕ → ℕ
digest_on digest [] = digest
digest_on digest (marks ∷ more) = digest_on ((digest * 11400714819323198485 % 2 ^ 64 + marks) % 2 ^ 64) more

abbrev pub digest_of : List ℕ → ℕ
digest_of marks = digest_on 0 marks
