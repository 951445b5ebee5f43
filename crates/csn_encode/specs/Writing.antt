-- How the tree of a node is written behind bits that are written already. (This project's own choice.)
use Rattle.std.specs.Prelude.{◌≡◌, ℕ, suc, ◌<◌, ◌≤◌, Bool, List, [], ◌∷◌, ◌++◌, length}
use Rattle.csn_bits.specs.Octets.{most_bits}
use Rattle.csn_desc.specs.declared.reading.Reading.{Reading}
use Rattle.csn_desc.specs.declared.reading.Reading.TheVariants.{Sent}
use Rattle.csn_desc.specs.declared.symbol.Symbol.{Symbol}
use Rattle.csn_desc.specs.declared.node.Node.{Node}
use Rattle.csn_desc.specs.TreeV.{TreeV, Trees}
use Rattle.csn_desc.specs.Nodes.{DescV}
use Rattle.csn_desc.specs.Values.{Values}
use Rattle.csn_desc.specs.Spelled.{IsSpare}
use Rattle.csn_desc.specs.Means.{NMeans, NodeMeans}
use Rattle.csn_desc.specs.Formed.{Formed, PartsFormed, FitWidths, IsDescription}
use Rattle.csn_certify.specs.Conflicts.{Certified}
use Rattle.csn_certify.specs.CountedValues.{fields_of}
use Rattle.csn_certify.specs.KeptNumbers.{numbers_of}
use Rattle.csn_encode.specs.declared.misfit.MisfitWhy.{MisfitWhy}
use Rattle.csn_encode.specs.declared.misfit.MisfitWhy.TheVariants.{WrongSpare, TooManyBits}
use Rattle.csn_encode.specs.declared.draft.Draft.{Draft}
use Rattle.csn_encode.specs.declared.fault.Stop.{Stop}
use Rattle.csn_encode.specs.declared.fault.Stop.TheVariants.{Misfit, NoMemory}
use Rattle.csn_encode.specs.Misfits.{IsPast, HavePieces, kept_count, MissesIn, Misses}

-- the bits of some pieces one after another
abbrev pub joined : List (List ℕ) → List ℕ
joined [] = []
joined (piece ∷ pieces) = piece ++ joined pieces

-- ---- where the writing stands

module _ (d : DescV) where
  -- a draft goes on at a node that is inside so many others and sees these values
  pub record IsReady (round : ℕ) (v : Values) (draft : Draft) : Type 0 where
    pub description : IsDescription d
    pub certified : Certified d 12
    pub widths : FitWidths d v
    pub numbers : draft.numbers.items ≡ numbers_of d v
    pub steps : length draft.path ≤ round
    pub few : round < 64
    pub within : length draft.bits ≤ most_bits

  -- it goes on at node i
  pub record Stands (i round : ℕ) (v : Values) (draft : Draft) : Type 0 where
    pub ready : IsReady round v draft
    pub is_formed : Formed d.nodes (fields_of v) round i

  -- it goes on at the part i of a node
  pub record StandsAtPart (i round : ℕ) (v : Values) (draft : Draft) : Type 0 where
    pub ready : IsReady round v draft
    pub is_formed : Formed d.nodes (fields_of v) (suc round) i

  -- it goes on at the parts of a node, whose later ones see the earlier ones or do not
  pub record StandsAtParts (shows : Bool) (parts : List ℕ) (round : ℕ) (v : Values) (draft : Draft) : Type 0 where
    pub ready : IsReady round v draft
    pub are_formed : PartsFormed d.nodes shows (fields_of v) (suc round) parts

-- ---- what has become of a draft

-- bits, which are as many as a spare part has, miss it: a sender writes others, or a block has no room for them
pub data MissesSpare (reading : Reading) (symbol : Symbol) (o : ℕ) (b : List ℕ) (why : MisfitWhy) : Type 0 where
  not_sent : reading ≡ Sent → ¬ IsSpare Sent symbol o b → why ≡ WrongSpare → MissesSpare reading symbol o b why
  no_room : IsSpare reading symbol o b → IsPast o (length b) → why ≡ TooManyBits → MissesSpare reading symbol o b why

-- bits were added that mean this, and all else is as it was
pub record Added (means : List ℕ → Type 0) (old new : Draft) : Type 0 where
  pub added : List ℕ
  pub meant : means added
  pub bits : new.bits ≡ old.bits ++ added
  pub within : length new.bits ≤ most_bits
  pub path : new.path ≡ old.path
  pub numbers : new.numbers.items ≡ old.numbers.items

-- the path goes on to the place where a tree misses
pub record Missed (misses : List ℕ → MisfitWhy → Type 0) (old new : Draft) (why : MisfitWhy) : Type 0 where
  pub below : List ℕ
  pub misfit : misses below why
  pub path : new.path ≡ old.path ++ below

abbrev pub IfMisfit : Stop → (MisfitWhy → Type 0) → Type 0
IfMisfit (Misfit why) P = P why
IfMisfit NoMemory P = Unit {0}

module _ (d : DescV) where
  -- the bits of a tree at this node were added; or the writer stops, since the tree misses it
  abbrev pub AddsNode : Node → Values → TreeV → Draft → Draft → Type 0
  AddsNode n v t old new = Added (λ b. NodeMeans d n (length old.bits) v b t) old new

  abbrev pub StopsAtNode : Node → Values → TreeV → Draft → Draft → MisfitWhy → Type 0
  StopsAtNode n v t old new why = Missed (λ path reason. MissesIn d n (length old.bits) v t path reason) old new why

  -- the same at the node with a number
  abbrev pub Adds : ℕ → Values → TreeV → Draft → Draft → Type 0
  Adds i v t old new = Added (λ b. NMeans d i (length old.bits) v b t) old new

  abbrev pub StopsAt : ℕ → Values → TreeV → Draft → Draft → MisfitWhy → Type 0
  StopsAt i v t old new why = Missed (λ path reason. Misses d i (length old.bits) v t path reason) old new why

  -- at a part, which is one step further
  abbrev pub MissesBelow : ℕ → ℕ → Values → TreeV → Draft → Draft → MisfitWhy → Type 0
  MissesBelow at i v t old new why =
      Missed (λ path reason. (below : List ℕ) × (path ≡ at ∷ below) × Misses d i (length old.bits) v t below reason) old new why

  -- the trees of the first few parts
  abbrev pub AddsParts : List ℕ → Values → Trees → Draft → Draft → ℕ → Type 0
  AddsParts parts v ts old new kept =
      Added (λ b. (pieces : List (List ℕ)) × (b ≡ joined pieces) × HavePieces d parts (length old.bits) v ts pieces × (kept ≡ kept_count pieces)) old new
