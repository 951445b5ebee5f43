-- Laws over the definitions.
use Rattle.std.specs.Prelude.{◌≡◌, ◌⊎◌, ℕ, ◌^◌, ◌<◌, List, [], ◌∷◌, ◌++◌, length, true, slice_get, Some}
use Rattle.csn_bits.specs.Octets.{IsBits}
use Rattle.csn_lexer.specs.Word.{IsWord}
use Rattle.csn_desc.specs.declared.moves.Move.{Move}
use Rattle.csn_desc.specs.declared.node.Count.{Count}
use Rattle.csn_desc.specs.declared.node.Node.{Node}
use Rattle.csn_desc.specs.TreeV.{TreeV}
use Rattle.csn_desc.specs.Nodes.{DescV}
use Rattle.csn_desc.specs.Label.{IsLabel}
use Rattle.csn_bits.specs.Numbers.{number_of}
use Rattle.csn_desc.specs.Values.{Values, count_of, with_value}
use Rattle.csn_desc.specs.Means.{NMeans}
use Rattle.csn_desc.specs.Follows.{NFollow, IsPlace}
use Rattle.csn_desc.specs.Walks.{bits_of, Walk}
use Rattle.csn_desc.specs.Formed.{value_width, IsCount, with_seen, Spans, Formed, HaveValues, FitWidths, IsDescription}

-- the first few of followed bits are followed
abbrev pub PrefixesAreFollowed : Type 0
PrefixesAreFollowed =
    (d : DescV) (i o : ℕ) (v : Values) (b c : List ℕ) → NFollow d i o v (b ++ c)
    → NFollow d i o v b

-- bits with a tree are followed
abbrev pub StringsAreFollowed : Type 0
StringsAreFollowed =
    (d : DescV) (i o : ℕ) (v : Values) (b : List ℕ) (t : TreeV) → NMeans d i o v b t
    → NFollow d i o v b

-- bits with a tree are zeros and ones
abbrev pub MeaningsAreBits : Type 0
MeaningsAreBits =
    (d : DescV) (i o : ℕ) (v : Values) (b : List ℕ) (t : TreeV) → NMeans d i o v b t
    → IsBits b

-- followed bits are zeros and ones
abbrev pub FollowedAreBits : Type 0
FollowedAreBits = (d : DescV) (i o : ℕ) (v : Values) (b : List ℕ) → NFollow d i o v b → IsBits b

-- no bits are followed, where a node is well formed and what it sees has values
abbrev pub EmptyBitsAreFollowed : Type 0
EmptyBitsAreFollowed =
    (d : DescV) (seen : List ℕ) (round i o : ℕ) (v : Values) → Formed d.nodes seen round i
    → HaveValues v seen
    → NFollow d i o v []

-- the empty block is followed
abbrev pub EmptyBlocksAreFollowed : Type 0
EmptyBlocksAreFollowed = (d : DescV) → IsDescription d → NFollow d 0 0 [] []

-- bits have a tree at a node, or they have none
abbrev pub MeaningIsDecided : Type 0
MeaningIsDecided =
    (d : DescV) (i o end : ℕ) (v : Values) (b : List ℕ) → Spans d.nodes i end
    → ((t : TreeV) × NMeans d i o v b t) ⊎ (¬ ((t : TreeV) × NMeans d i o v b t))

-- bits are followed by a node, or they are not
abbrev pub FollowingIsDecided : Type 0
FollowingIsDecided =
    (d : DescV) (i o end : ℕ) (v : Values) (b : List ℕ) → Spans d.nodes i end
    → NFollow d i o v b ⊎ (¬ NFollow d i o v b)

-- a block has a place, and no two
abbrev pub BlocksHaveAPlace : Type 0
BlocksHaveAPlace = (d : DescV) (b : List ℕ) → IsDescription d → (place : ℕ) × IsPlace d b place

abbrev pub BlocksHaveOnePlace : Type 0
BlocksHaveOnePlace = (d : DescV) (b : List ℕ) (m n : ℕ) → IsPlace d b m → IsPlace d b n → m ≡ n

-- a tree of some bits has moves, which take these bits
abbrev pub TreesHaveMoves : Type 0
TreesHaveMoves =
    (d : DescV) (i o : ℕ) (v : Values) (b : List ℕ) (t : TreeV) → NMeans d i o v b t
    → (moves : List Move) × Walk d i o t moves × (bits_of moves ≡ b)

-- equal moves are those of equal trees, where the parts of a node are distinct
abbrev pub MovesAreOfOneTree : Type 0
MovesAreOfOneTree =
    (d : DescV) (i o end : ℕ) (t u : TreeV) (moves : List Move) → Spans d.nodes i end
    → Walk d i o t moves → Walk d i o u moves
    → t ≡ u

-- a tree has no two lists of moves
abbrev pub TreesHaveOneListOfMoves : Type 0
TreesHaveOneListOfMoves =
    (d : DescV) (i o : ℕ) (t : TreeV) (moves others : List Move) → Walk d i o t moves → Walk d i o t others
    → moves ≡ others

-- a labelled field of constant width has bits of that width
abbrev pub ValuesHaveTheirWidth : Type 0
ValuesHaveTheirWidth =
    (d : DescV) (i o : ℕ) (v : Values) (b : List ℕ) (t : TreeV) (width : ℕ) → value_width d.nodes i ≡ Some width
    → NMeans d i o v b t
    → length b ≡ width

-- bits write a number below the power of two with their width
abbrev pub NumbersFitTheirWidth : Type 0
NumbersFitTheirWidth = (b : List ℕ) → IsBits b → number_of b < 2 ^ length b

-- values that are there, or fit the widths of their fields, are so behind a part too, and where none is seen
abbrev pub ValuesStayThere : Type 0
ValuesStayThere =
    (nodes : List Node) (i : ℕ) (v : Values) (b seen : List ℕ) → HaveValues v seen
    → HaveValues (with_value nodes i b v) (with_seen nodes true i seen)

abbrev pub ValuesStayFitting : Type 0
ValuesStayFitting =
    (d : DescV) (i o : ℕ) (v : Values) (b : List ℕ) (t : TreeV) → FitWidths d v → NMeans d i o v b t
    → FitWidths d (with_value d.nodes i b v)

abbrev pub NoValuesFit : Type 0
NoValuesFit = (d : DescV) → HaveValues [] [] × FitWidths d []

-- a well-formed count is a number where the fields that are seen have values
abbrev pub CountsAreNumbers : Type 0
CountsAreNumbers =
    (nodes : List Node) (seen : List ℕ) (v : Values) (count : Count) → HaveValues v seen → IsCount nodes seen count
    → (n : ℕ) × (count_of v count ≡ Some n)

-- each node of a description is well formed, inside some others and seeing some labelled parts
abbrev pub NodesAreWellFormed : Type 0
NodesAreWellFormed =
    (d : DescV) (i : ℕ) (n : Node) → IsDescription d → slice_get d.nodes i ≡ Some n
    → (seen : List ℕ) × (round : ℕ) × Formed d.nodes seen round i

-- one word is a label
abbrev pub WordsAreLabels : Type 0
WordsAreLabels = (word : List ℕ) → IsWord word → IsLabel word

-- a word, a space and a label are a label
abbrev pub WordsStandBeforeLabels : Type 0
WordsStandBeforeLabels = (word label : List ℕ) → IsWord word → IsLabel label → IsLabel (word ++ 32 ∷ label)
