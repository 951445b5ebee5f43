-- What came of the blocks of the generator. (This project's own choice.)
use Rattle.std.specs.Prelude.{◌≡◌, ℕ, zero, suc, ◌+◌, List, [], length}
use Rattle.csn_catalogue.specs.declared.entry.Entry.{Entry}
use Rattle.csn_desc.specs.Nodes.{DescV}
use Rattle.csn_desc.specs.TreeV.{TreeV}
use Rattle.csn_desc.specs.Means.{NMeans}
use Rattle.csn_soak.specs.declared.soaking.Soaked.{Soaked}
use Rattle.csn_soak.specs.Generator.{block}

-- the bits are a string of the description
abbrev pub IsString : DescV → List ℕ → Type 0
IsString d bits = (t : TreeV) × NMeans d 0 0 [] bits t

-- `count` of the first n blocks are so
pub data Counted (Is : ℕ → Type 0) : ℕ → ℕ → Type 0 where
  of_none : {n count : ℕ} → n ≡ 0 → count ≡ 0 → Counted Is n count
  one_more : {n count : ℕ} (k before : ℕ) → n ≡ suc k → count ≡ suc before → Is k → Counted Is k before → Counted Is n count
  no_more : {n count : ℕ} (k : ℕ) → n ≡ suc k → ¬ Is k → Counted Is k count → Counted Is n count

-- how many bits the first n blocks have
abbrev pub bits_in : Entry → ℕ → ℕ
bits_in entry zero = 0
bits_in entry (suc k) = bits_in entry k + length (block entry k)

-- of the first n blocks of an entry so many are strings, the others are not, and so many bits are in all of them
pub record IsSoaked (d : DescV) (entry : Entry) (n : ℕ) (s : Soaked) : Type 0 where
  pub ok : Counted (λ k. IsString d (block entry k)) n s.ok
  pub all : s.ok + s.refused ≡ n
  pub bits : s.bits ≡ bits_in entry n
