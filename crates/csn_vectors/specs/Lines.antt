-- Test vectors as lines of text. (This project's own choice.)
use Rattle.std.specs.Prelude.{◌≡◌, ℕ, Bool, true, false, List, [], ◌∷◌, ◌++◌, length, All, codes, if◌then◌else◌, ◌==◌}
use Rattle.std.specs.Fmt.{decimal}
use Rattle.csn_bits.specs.Line.{written}
use Rattle.csn_desc.specs.Nodes.{DescV}
use Rattle.csn_desc.specs.TreeV.{TreeV}
use Rattle.csn_treetext.specs.declared.version.Version.TheVariants.{Second}
use Rattle.csn_treetext.specs.Text.{text_of}
use Rattle.csn_sample.specs.declared.covering.Covered.{Covered}
use Rattle.csn_sample.specs.declared.covering.Example.{Example}
use Rattle.csn_sample.specs.declared.covering.Way.{Way}
use Rattle.csn_sample.specs.declared.near.Near.{Near}
use Rattle.csn_sample.specs.declared.sampler.Sampled.{Sampled}
use Rattle.csn_sample.specs.Samples.{HasTree}
use Rattle.csn_sample.specs.Covering.{AreTold, IsExample}
use Rattle.csn_sample.specs.Nearly.{IsNear}

-- the line of a block, with its tree behind a tab where it is asked for
abbrev pub block_line : Bool → List ℕ → TreeV → List ℕ
block_line false block tree = written block ++ 10 ∷ []
block_line true block tree = written block ++ 9 ∷ (text_of Second tree ++ 10 ∷ [])

-- what comes is the line of a string of the description, with the tree that it has
pub record TellsBlock (d : DescV) (trees : Bool) (old new : List ℕ) : Type 0 where
  pub block : List ℕ
  pub tree : TreeV
  pub string : HasTree d block tree
  pub line : new ≡ old ++ block_line trees block tree

-- what comes is a line that begins so, and ends in the one line feed
abbrev pub IsLine : List ℕ → (old new : List ℕ) → Type 0
IsLine begins old new = (about : List ℕ) × (new ≡ old ++ begins ++ about ++ 10 ∷ [])

-- for each block that covers its line comes
pub data ExampleLines : List ℕ → List Example → List ℕ → Type 0 where
  examples_none : {old new : List ℕ} {told : List Example} → told ≡ [] → new ≡ old → ExampleLines old told new
  examples_more :
      {old new : List ℕ} {told : List Example}
      (front : List Example) (middle : List ℕ) (last : Example)
      → told ≡ front ++ last ∷ [] → ExampleLines old front middle → IsLine (written last.sampled.block) middle new
      → ExampleLines old told new

-- for each way that is not met a line comes
pub data UnmetLines : List ℕ → List Way → List ℕ → Type 0 where
  unmet_none : {old new : List ℕ} {ways : List Way} → ways ≡ [] → new ≡ old → UnmetLines old ways new
  unmet_more :
      {old new : List ℕ} {ways : List Way}
      (front : List Way) (middle : List ℕ) (last : Way)
      → ways ≡ front ++ last ∷ [] → UnmetLines old front middle → IsLine (codes "unmet") middle new
      → UnmetLines old ways new

-- the blocks are strings that go the ways that they are told for, and each way is met or told as not met
pub record Covers (d : DescV) (covered : Covered) : Type 0 where
  pub most : ℕ
  pub blocks : All (IsExample d most) covered.blocks.items
  pub ways : AreTold d covered.blocks.items covered.unmet.items

-- the lines of blocks that cover come, and then those of the ways that are not met
pub record TellsCover (d : DescV) (old new : List ℕ) : Type 0 where
  pub covered : Covered
  pub covers : Covers d covered
  pub middle : List ℕ
  pub blocks : ExampleLines old covered.blocks.items middle
  pub unmet : UnmetLines middle covered.unmet.items new

-- the answer to a block that is refused
abbrev pub refusal : Near → List ℕ
refusal near = codes "no " ++ decimal near.place ++ (if near.place == length near.block then codes " ended" else codes " bit")

-- lines of blocks come that are made of strings and have no tree, each with its answer
pub data NearLines (d : DescV) : List ℕ → List ℕ → Type 0 where
  nears_none : {old new : List ℕ} → new ≡ old → NearLines d old new
  nears_more :
      {old new : List ℕ}
      (middle : List ℕ) (string : Sampled) (near : Near)
      → NearLines d old middle → HasTree d string.block string.tree → IsNear d string.block near
      → IsLine (written near.block ++ 9 ∷ refusal near) middle new
      → NearLines d old new
