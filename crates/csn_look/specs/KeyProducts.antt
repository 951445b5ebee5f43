-- The keys of one part after another, from the keys of each.
use Rattle.std.specs.Prelude.{◌≡◌, ℕ, Bool, true, false, List, ◌++◌, length, IsTrue}
use Rattle.csn_look.specs.KeyMarks.{IsWord, has_key}
use Rattle.csn_look.specs.Keys.{Cut}

-- a key of a first part and what may come after it: a cut key of the first part, or a whole one and behind
-- it a key of what comes after so many bits, cut where they are more than 12 bits
pub data AfterKeys (first : List ℕ) (rests : ℕ → List ℕ) : List ℕ → Bool → Type 0 where
  after_cut : {word : List ℕ} {whole : Bool} → IsTrue (has_key first word false) → whole ≡ false → AfterKeys first rests word whole
  after_whole :
      {word : List ℕ} {whole : Bool}
      (front back : List ℕ) (mark : Bool) → IsWord front → IsTrue (has_key first front true)
      → IsWord back → IsTrue (has_key (rests (length front)) back mark)
      → Cut 12 (front ++ back) mark word whole
      → AfterKeys first rests word whole
