-- Laws over the definitions.
use Rattle.std.specs.Prelude.{◌≡◌, ℕ, suc, ◌+◌, ◌%◌, ◌<◌, ◌≤◌, Bool, true, List, [], ◌∷◌, ◌++◌, length, slice_get, Some}
use Rattle.csn_bits.specs.Octets.{IsBits}
use Rattle.csn_desc.specs.declared.node.Count.{Count}
use Rattle.csn_desc.specs.declared.node.Node.{Node}
use Rattle.csn_desc.specs.declared.node.Node.TheVariants.{Seq, Choice, Times, Many, Trunc, Window, Named}
use Rattle.csn_desc.specs.TreeV.{TreeV, Trees}
use Rattle.csn_desc.specs.Nodes.{DescV}
use Rattle.csn_desc.specs.Values.{Values, count_of}
use Rattle.csn_desc.specs.Means.{NMeans, PartsMean, TimesMean, ManyMean, LeadMean}
use Rattle.csn_desc.specs.Follows.{NFollow, PartsFollow, TimesFollow, ManyFollow}
use Rattle.csn_desc.specs.Formed.{Formed, HaveValues, FitWidths, IsDescription}
use Rattle.csn_look.specs.Nullable.{Nullable}
use Rattle.csn_look.specs.Ends.{InEnds, PartsEnd, ManyEnd}
use Rattle.csn_look.specs.Starts.{InStart}
use Rattle.csn_look.specs.Keys.{InKeys, IsFirm}
use Rattle.csn_look.specs.Beginnings.{Begun, Near}
use Rattle.csn_look.specs.Reached.{Reached, Turn, MayStandBehind}

-- ---- no bits, where bits end, and with what they begin

-- a node that means no bits is nullable
abbrev pub NoBitsAreOfNullable : Type 0
NoBitsAreOfNullable = (d : DescV) (i o : ℕ) (v : Values) (t : TreeV) → IsDescription d → NMeans d i o v [] t → Nullable d i

-- bits that have a tree end where bits of the node may end
abbrev pub MeantBitsEnd : Type 0
MeantBitsEnd =
    (d : DescV) (i o : ℕ) (v : Values) (b : List ℕ) (t : TreeV) → IsDescription d → FitWidths d v → NMeans d i o v b t
    → InEnds d i (o % 8) ((o + length b) % 8)

-- where bits may end is an octet position
abbrev pub EndsAreOctets : Type 0
EndsAreOctets = (d : DescV) (i o p : ℕ) → InEnds d i o p → o < 8 → p < 8

-- bits that have a tree begin with a bit that the node may begin with
abbrev pub MeantBitsStart : Type 0
MeantBitsStart =
    (d : DescV) (i o bit : ℕ) (v : Values) (rest : List ℕ) (t : TreeV) → IsDescription d → FitWidths d v
    → NMeans d i o v (bit ∷ rest) t
    → InStart d i (o % 8) bit

-- and so do bits that it follows
abbrev pub FollowedBitsStart : Type 0
FollowedBitsStart =
    (d : DescV) (i o bit : ℕ) (v : Values) (rest : List ℕ) → IsDescription d → FitWidths d v
    → NFollow d i o v (bit ∷ rest)
    → InStart d i (o % 8) bit

-- ---- keys

abbrev pub EmptyKeysAreAnywhere : Type 0
EmptyKeysAreAnywhere =
    (d : DescV) (most i o p : ℕ) (mark : Bool) → 0 < most → InKeys d most i o [] mark
    → InKeys d most i p [] mark

-- a firm node has no bits that are none, and no key that is empty
abbrev pub FirmNodesHaveBits : Type 0
FirmNodesHaveBits =
    (d : DescV) (most i o : ℕ) (v : Values) (b : List ℕ) (t : TreeV) → IsDescription d → IsFirm d most i
    → NMeans d i o v b t
    → 0 < length b

abbrev pub KeysOfFirmNodesHaveBits : Type 0
KeysOfFirmNodesHaveBits =
    (d : DescV) (most i o : ℕ) (word : List ℕ) (mark : Bool) → IsFirm d most i → o < 8 → InKeys d most i o word mark
    → 0 < length word

-- bits that have a tree begin with a key of the node, and are it where it is whole
abbrev pub MeantBitsBeginWithKeys : Type 0
MeantBitsBeginWithKeys =
    (d : DescV) (most i o : ℕ) (v : Values) (b : List ℕ) (t : TreeV) → NMeans d i o v b t
    → Begun (InKeys d most i (o % 8)) b

-- bits that the node follows begin with a key of it, or begin one
abbrev pub FollowedBitsBeginKeys : Type 0
FollowedBitsBeginKeys =
    (d : DescV) (most i o : ℕ) (v : Values) (b : List ℕ) → IsDescription d → NFollow d i o v b
    → Near (InKeys d most i (o % 8)) b

-- each node has a key at each octet position
abbrev pub NodesHaveKeys : Type 0
NodesHaveKeys =
    (d : DescV) (most i o : ℕ) (n : Node) → IsDescription d → slice_get d.nodes i ≡ Some n
    → (word : List ℕ) × (mark : Bool) × InKeys d most i o word mark

-- a key begins with a bit that the node may begin with
abbrev pub KeysStart : Type 0
KeysStart =
    (d : DescV) (most i o bit : ℕ) (rest : List ℕ) (mark : Bool) → IsDescription d
    → InKeys d most i (o % 8) (bit ∷ rest) mark
    → InStart d i (o % 8) bit

-- a whole key is bits of the node, whatever values it sees
abbrev pub WholeKeysAreMeant : Type 0
WholeKeysAreMeant =
    (d : DescV) (most i o : ℕ) (v : Values) (word : List ℕ) → InKeys d most i (o % 8) word true
    → (t : TreeV) × NMeans d i o v word t

-- the node follows each beginning of a key, from each place with the octet position, where it is well formed and
-- what it sees has values
abbrev pub BeginningsOfKeysAreFollowed : Type 0
BeginningsOfKeysAreFollowed =
    (d : DescV) (most : ℕ) (seen : List ℕ) (round i o : ℕ) (v : Values) (b rest : List ℕ) (mark : Bool)
    → Formed d.nodes seen round i → HaveValues v seen → InKeys d most i (o % 8) (b ++ rest) mark
    → NFollow d i o v b

-- a key is bits, at most as many as a word has
abbrev pub KeysAreBits : Type 0
KeysAreBits = (d : DescV) (most i o : ℕ) (word : List ℕ) (mark : Bool) → InKeys d most i o word mark → IsBits word

abbrev pub KeysAreShort : Type 0
KeysAreShort = (d : DescV) (most i o : ℕ) (word : List ℕ) (mark : Bool) → InKeys d most i o word mark → length word ≤ most

-- ---- where parts are reached

-- the root is reached where the block begins
abbrev pub RootIsReached : Type 0
RootIsReached = (d : DescV) → Reached d 0 0

abbrev pub ReachedAreOctets : Type 0
ReachedAreOctets = (d : DescV) (i o : ℕ) → Reached d i o → o < 8

-- a part of such a node is reached where bits of the parts before it end
abbrev pub PartsReach : (List ℕ → Node) → Type 0
PartsReach of_parts =
    (d : DescV) (k i o : ℕ) (parts before after : List ℕ) (v : Values) (b : List ℕ) (ts : Trees) → IsDescription d
    → slice_get d.nodes k ≡ Some (of_parts parts) → parts ≡ before ++ i ∷ after → FitWidths d v → Reached d k (o % 8)
    → PartsMean d before o v b ts
    → Reached d i ((o + length b) % 8)

-- so are the parts of a sequence, and of a truncation
abbrev pub SequencesReach : Type 0
SequencesReach = PartsReach Seq

abbrev pub TruncationsReach : Type 0
TruncationsReach = PartsReach Trunc

-- the part of a repetition where bits of fewer turns than it has end, and of a free one where bits of any turns end
abbrev pub RepetitionsReach : Type 0
RepetitionsReach =
    (d : DescV) (k i o m n : ℕ) (count : Count) (v : Values) (b : List ℕ) (ts : Trees) → IsDescription d
    → slice_get d.nodes k ≡ Some (Times count i) → count_of v count ≡ Some n → m < n → FitWidths d v
    → Reached d k (o % 8) → TimesMean d m i o v b ts
    → Reached d i ((o + length b) % 8)

abbrev pub FreeRepetitionsReach : Type 0
FreeRepetitionsReach =
    (d : DescV) (k i o : ℕ) (v : Values) (b : List ℕ) (ts : Trees) → IsDescription d
    → slice_get d.nodes k ≡ Some (Many i) → FitWidths d v → Reached d k (o % 8) → ManyMean d i o v b ts
    → Reached d i ((o + length b) % 8)

-- and other parts where their node is
abbrev pub ChoicesReach : Type 0
ChoicesReach =
    (d : DescV) (k j i o : ℕ) (parts : List ℕ) → slice_get d.nodes k ≡ Some (Choice parts)
    → slice_get parts j ≡ Some i → Reached d k o
    → Reached d i o

abbrev pub WindowsReach : Type 0
WindowsReach =
    (d : DescV) (k i o unit : ℕ) (count : Count) → slice_get d.nodes k ≡ Some (Window unit count i) → Reached d k o
    → Reached d i o

abbrev pub LabelsReach : Type 0
LabelsReach =
    (d : DescV) (k i o : ℕ) (label : List ℕ) → slice_get d.nodes k ≡ Some (Named label i) → Reached d k o
    → Reached d i o

-- ---- the same, one part after another

-- where parts may end, and bits of one more part
abbrev pub OnePartMore : Type 0
OnePartMore =
    (d : DescV) (before : List ℕ) (i from o : ℕ) (v : Values) (b : List ℕ) (t : TreeV) → IsDescription d
    → FitWidths d v → PartsEnd d before from (o % 8) → NMeans d i o v b t
    → PartsEnd d (before ++ i ∷ []) from ((o + length b) % 8)

-- the turns of a repetition: none before the first, then one more, each begun where the part is reached
abbrev pub FirstTurn : Type 0
FirstTurn =
    (d : DescV) (count : Count) (i n o : ℕ) (v : Values) → count_of v count ≡ Some n
    → Turn d count i n o o

abbrev pub OneTurnMore : Type 0
OneTurnMore =
    (d : DescV) (count : Count) (i left from o : ℕ) (v : Values) (b : List ℕ) (t : TreeV) → IsDescription d
    → FitWidths d v → Turn d count i (suc left) from (o % 8) → NMeans d i o v b t
    → Turn d count i left from ((o + length b) % 8)

abbrev pub TurnsReach : Type 0
TurnsReach =
    (d : DescV) (k i left from o : ℕ) (count : Count) → slice_get d.nodes k ≡ Some (Times count i)
    → Reached d k from → Turn d count i (suc left) from o
    → Reached d i o

abbrev pub OneFreeTurnMore : Type 0
OneFreeTurnMore =
    (d : DescV) (i from o : ℕ) (v : Values) (b : List ℕ) (t : TreeV) → IsDescription d → FitWidths d v
    → ManyEnd d i from (o % 8) → NMeans d i o v b t
    → ManyEnd d i from ((o + length b) % 8)

-- ---- what stands behind parts: p is the place where the part ends

-- in a node of parts one after another: bits that the later parts have, and what may stand behind the node
abbrev pub BehindParts : (List ℕ → Node) → (DescV → List ℕ → ℕ → Values → List ℕ → Trees → Type 0) → Type 0
BehindParts of_parts LaterMean =
    (d : DescV) (k i p : ℕ) (parts before after : List ℕ) (v : Values) (b x : List ℕ) (ts : Trees) → IsDescription d
    → slice_get d.nodes k ≡ Some (of_parts parts) → parts ≡ before ++ i ∷ after → FitWidths d v
    → LaterMean d after p v b ts → MayStandBehind d k ((p + length b) % 8) x
    → MayStandBehind d i (p % 8) (b ++ x)

-- or bits that the later parts follow
abbrev pub FollowedBehindParts : (List ℕ → Node) → Type 0
FollowedBehindParts of_parts =
    (d : DescV) (k i p : ℕ) (parts before after : List ℕ) (v : Values) (b : List ℕ) → IsDescription d
    → slice_get d.nodes k ≡ Some (of_parts parts) → parts ≡ before ++ i ∷ after → FitWidths d v
    → PartsFollow d after p v b
    → MayStandBehind d i (p % 8) b

-- so in a sequence, which has all of the later parts
abbrev pub BehindPartsOfSequences : Type 0
BehindPartsOfSequences = BehindParts Seq PartsMean

abbrev pub FollowedBehindPartsOfSequences : Type 0
FollowedBehindPartsOfSequences = FollowedBehindParts Seq

-- in a truncation, which has the first few of them, and behind the last component that it has what may stand behind
-- the truncation
abbrev pub BehindPartsOfTruncations : Type 0
BehindPartsOfTruncations = BehindParts Trunc LeadMean

abbrev pub BehindLastOfTruncations : Type 0
BehindLastOfTruncations =
    (d : DescV) (k i o : ℕ) (parts before after x : List ℕ) → slice_get d.nodes k ≡ Some (Trunc parts)
    → parts ≡ before ++ i ∷ after → MayStandBehind d k o x
    → MayStandBehind d i o x

abbrev pub FollowedBehindPartsOfTruncations : Type 0
FollowedBehindPartsOfTruncations = FollowedBehindParts Trunc

-- in a repetition: bits of the turns that are left, and what may stand behind the repetition; or bits that these
-- turns follow
abbrev pub BehindTurns : Type 0
BehindTurns =
    (d : DescV) (k i p left : ℕ) (count : Count) (v : Values) (b x : List ℕ) (ts : Trees) → IsDescription d
    → slice_get d.nodes k ≡ Some (Times count i) → FitWidths d v → TimesMean d left i p v b ts
    → MayStandBehind d k ((p + length b) % 8) x
    → MayStandBehind d i (p % 8) (b ++ x)

abbrev pub FollowedBehindTurns : Type 0
FollowedBehindTurns =
    (d : DescV) (k i p left : ℕ) (count : Count) (v : Values) (b : List ℕ) → IsDescription d
    → slice_get d.nodes k ≡ Some (Times count i) → FitWidths d v → TimesFollow d left i p v b
    → MayStandBehind d i (p % 8) b

abbrev pub BehindFreeTurns : Type 0
BehindFreeTurns =
    (d : DescV) (k i p : ℕ) (v : Values) (b x : List ℕ) (ts : Trees) → IsDescription d
    → slice_get d.nodes k ≡ Some (Many i) → FitWidths d v → ManyMean d i p v b ts
    → MayStandBehind d k ((p + length b) % 8) x
    → MayStandBehind d i (p % 8) (b ++ x)

abbrev pub FollowedBehindFreeTurns : Type 0
FollowedBehindFreeTurns =
    (d : DescV) (k i p : ℕ) (v : Values) (b : List ℕ) → IsDescription d → slice_get d.nodes k ≡ Some (Many i)
    → FitWidths d v → ManyFollow d i p v b
    → MayStandBehind d i (p % 8) b

-- in a choice, and behind a labelled part, what may stand behind the node
abbrev pub BehindAlternatives : Type 0
BehindAlternatives =
    (d : DescV) (k j i o : ℕ) (parts x : List ℕ) → slice_get d.nodes k ≡ Some (Choice parts)
    → slice_get parts j ≡ Some i → MayStandBehind d k o x
    → MayStandBehind d i o x

abbrev pub BehindLabelledParts : Type 0
BehindLabelledParts =
    (d : DescV) (k i o : ℕ) (label x : List ℕ) → slice_get d.nodes k ≡ Some (Named label i) → MayStandBehind d k o x
    → MayStandBehind d i o x

-- and nothing may stand behind any node, as in a window
abbrev pub NothingStandsAnywhere : Type 0
NothingStandsAnywhere = (d : DescV) (i o : ℕ) → MayStandBehind d i o []
