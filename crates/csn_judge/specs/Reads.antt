-- What the reading of a leaf does. (This project's own choice.)
use Rattle.std.specs.Prelude.{◌≡◌, ℕ, ◌+◌, ◌<◌, ◌⊎◌, Bool, true, List, [], ◌∷◌, ◌++◌, length, map, slice_get, Option, Some}
use Rattle.csn_desc.specs.declared.reading.Reading.TheVariants.{Sent}
use Rattle.csn_desc.specs.declared.symbol.Symbol.{Symbol}
use Rattle.csn_desc.specs.declared.moves.Move.{Move}
use Rattle.csn_desc.specs.declared.moves.Move.TheVariants.{Bit}
use Rattle.csn_desc.specs.declared.node.Count.{Count}
use Rattle.csn_desc.specs.declared.node.Node.{Node}
use Rattle.csn_desc.specs.declared.node.Node.TheVariants.{Lits, Spare, Pad, Field, Rest}
use Rattle.csn_desc.specs.Nodes.{DescV}
use Rattle.csn_desc.specs.Spelled.{IsSpare}
use Rattle.csn_judge.specs.declared.leaf.Leaf.{Leaf}
use Rattle.csn_judge.specs.declared.leaf.Leaf.TheVariants as leaf
use Rattle.csn_judge.specs.declared.leaf.Read.{Read}
use Rattle.csn_judge.specs.declared.leaf.Read.TheVariants as read
use Rattle.csn_judge.specs.Coming.{Coming}
use Rattle.csn_judge.specs.Known.{Known}
use Rattle.csn_judge.specs.Told.{BitsTold}
use Rattle.csn_judge.specs.Left.{Left, none_left, Completes}
use Rattle.csn_judge.specs.Remains.{Goes, Passes}
use Rattle.csn_judge.specs.Inside.{IsStack, AreOwed}
use Rattle.csn_judge.specs.Shown.{LeafShows, limit_in}

-- this may be left of a node
pub data MayBeLeft : Leaf → Node → Type 0 where
  may_lits : {at : ℕ} {node : Node} (run : List Symbol) → node ≡ Lits run → at < length run → MayBeLeft (leaf.Lits at) node
  may_spare : {node : Node} {symbol : Symbol} → node ≡ Spare symbol → MayBeLeft leaf.Spare node
  may_pad : {begun : Bool} {node : Node} → node ≡ Pad → MayBeLeft (leaf.Pad begun) node
  may_field : {n : ℕ} {node : Node} {unit : ℕ} {count : Count} → node ≡ Field unit count → MayBeLeft (leaf.Field n) node
  may_rest : {node : Node} → node ≡ Rest → MayBeLeft leaf.Rest node

-- the bits that come are as a sender writes a spare part, up to the place and no further
pub record SpareDiffers (symbol : Symbol) (count : ℕ) (coming : Coming) (place : ℕ) : Type 0 where
  pub alike : List ℕ
  pub bit : ℕ
  pub later : List ℕ
  pub bits : coming.bits ≡ alike ++ bit ∷ later
  pub few : length alike < count
  pub place_is : place ≡ coming.place + length alike
  pub good : IsSpare Sent symbol coming.place alike
  pub not : ¬ IsSpare Sent symbol (coming.place + length alike) (bit ∷ [])

-- no bit may be taken, and where none can come one is missing of the leaf
pub record Stays (d : DescV) (i : ℕ) (form : Leaf) (coming : Coming) : Type 0 where
  pub stops : (coming.bits ≡ []) ⊎ (coming.place ≡ coming.limit)
  pub wants :
      (coming.ended ≡ true) ⊎ (coming.place ≡ coming.limit) → (left : Left) (done : List ℕ) → LeafShows d i form left
      → (moves : List Move) → ¬ Completes d left done [] moves

module _ (d : DescV) (next : ℕ) (fresh : Option ℕ) where
  -- this is left of node i, a leaf that is read inside these open nodes, behind the bits `done`
  pub record AtLeaf (i : ℕ) (form : Leaf) (node : Node) (coming : Coming) (left : Left) (outer : List Left) (done : List ℕ) : Type 0 where
    pub at : slice_get d.nodes i ≡ Some node
    pub shows : LeafShows d i form left
    pub stack_is : IsStack d next fresh (left ∷ outer) done
    pub place : coming.place ≡ length done
    pub limit : coming.limit ≡ limit_in outer
    pub owed : AreOwed outer done coming.bits

  module _ {S : Type 0} (takes : S → Move → Node → S → Type 0) (node : Node) (old new : Coming) (before after : S)
      (left : Left) (outer : List Left) (done : List ℕ) where
    -- some bits are taken, and this is left
    pub record Takes (now : Left) : Type 0 where
      pub taken : List ℕ
      pub bits : old.bits ≡ taken ++ new.bits
      pub place : new.place ≡ old.place + length taken
      pub limit : new.limit ≡ old.limit
      pub ended : new.ended ≡ old.ended
      pub stack_is : IsStack d next fresh (now ∷ outer) (done ++ taken)
      pub owed : AreOwed outer (done ++ taken) new.bits
      pub steps : Passes d old.ended (left ∷ outer) (now ∷ outer) done taken new.bits (map Bit taken)
      pub told : BitsTold takes node taken before after

    pub record Keeps (i : ℕ) (form : Leaf) : Type 0 where
      pub now : Left
      pub shows : LeafShows d i form now
      pub on : Takes now
      pub stays : new.place ≡ old.place → Stays d i form new

    -- the bits that come can be followed up to the place, and no further; nothing is told
    pub record Differs (place : ℕ) : Type 0 where
      pub alike : List ℕ
      pub bit : ℕ
      pub later : List ℕ
      pub bits : old.bits ≡ alike ++ bit ∷ later
      pub place_is : place ≡ length done + length alike
      pub followed : Goes d (left ∷ outer) done alike
      pub no_further : ¬ Goes d (left ∷ outer) done (alike ++ bit ∷ [])
      pub untold : after ≡ before

    abbrev pub Reads : ℕ → Read → Type 0
    Reads i read.All = Takes none_left
    Reads i (read.Some form) = Keeps i form
    Reads i (read.Refused place) = Differs place

module _ (d : DescV) where
  -- wherever the leaf stands
  abbrev pub ReadsLeaf : {S : Type 0} → (S → Move → Node → S → Type 0) → Leaf → Node → Coming → Coming → S → S → Read → Type 0
  ReadsLeaf takes form node old new before after result =
      (next : ℕ) (fresh : Option ℕ) (i : ℕ) (left : Left) (outer : List Left) (done : List ℕ) → Known d → AtLeaf d next fresh i form node old left outer done
      → Reads d next fresh takes node old new before after left outer done i result
