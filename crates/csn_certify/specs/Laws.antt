-- Laws over the definitions.
use Rattle.std.specs.Prelude.{◌≡◌, ℕ, suc, ◌+◌, ◌%◌, ◌<◌, ◌≤◌, Bool, true, false, ◌↔◌, List, [], ◌∷◌, ◌++◌, length, take, slice_get, Some}
use Rattle.csn_desc.specs.declared.node.Count.{Count}
use Rattle.csn_desc.specs.declared.node.Node.{Node}
use Rattle.csn_desc.specs.declared.node.Node.TheVariants.{Choice, Times, Many, Trunc, Window}
use Rattle.csn_desc.specs.TreeV.{TreeV, row, alt, Trees, none}
use Rattle.csn_desc.specs.Nodes.{DescV}
use Rattle.csn_desc.specs.Values.{Values}
use Rattle.csn_desc.specs.Means.{NMeans, NodeMeans, PartsMean}
use Rattle.csn_desc.specs.Follows.{NFollow, NodeFollows, PartsFollow, ManyFollow}
use Rattle.csn_desc.specs.Formed.{Formed, HaveValues, IsDescription, FitWidths}
use Rattle.csn_look.specs.Ends.{InEnds, PartsEnd}
use Rattle.csn_look.specs.Reached.{Reached, InFollow, MayStandBehind}
use Rattle.csn_certify.specs.declared.conflict.Conflict.{Conflict}
use Rattle.csn_certify.specs.declared.pick.Pick.{Pick}
use Rattle.csn_certify.specs.declared.pick.Pick.TheVariants.{Take, Leave, Wait, Refuse}
use Rattle.csn_certify.specs.Conflicts.{IsFirstConflict, IsLast, Certified}
use Rattle.csn_certify.specs.Picks.{IsAsked, Picks}
use Rattle.csn_certify.specs.Ahead.{LiesAhead, TakesComponent}

abbrev pub FirstConflictIsOne : Type 0
FirstConflictIsOne =
    (d : DescV) (most : ℕ) (c e : Conflict) → IsFirstConflict d most c → IsFirstConflict d most e
    → c ≡ e

abbrev pub CertifiedHasNoConflict : Type 0
CertifiedHasNoConflict =
    (d : DescV) (most : ℕ) (c : Conflict) → IsFirstConflict d most c → ¬ Certified d most

abbrev pub LongerWordsCertify : Type 0
LongerWordsCertify = (d : DescV) (short long : ℕ) → short ≤ long → Certified d short → Certified d long

abbrev pub NoContinuation : Type 0
NoContinuation =
    (d : DescV) (b : List ℕ) (p : ℕ)
    → NFollow d 0 0 [] (take p b) → ¬ NFollow d 0 0 [] (take (suc p) b)
    → (rest : List ℕ) (t : TreeV) → ¬ NMeans d 0 0 [] (take (suc p) b ++ rest) t

-- any bits have at most one tree
abbrev pub BlocksHaveOneTree : Type 0
BlocksHaveOneTree =
    (d : DescV) (most : ℕ) (b : List ℕ) (t u : TreeV) → IsDescription d → Certified d most → NMeans d 0 0 [] b t
    → NMeans d 0 0 [] b u
    → t ≡ u

-- look-ahead has at most one answer
abbrev pub PicksAreOne : Type 0
PicksAreOne =
    (d : DescV) (most node octet : ℕ) (held : List ℕ) (ended : Bool) (p q : Pick)
    → Certified d most → IsAsked d node octet → Picks d most node octet held ended p
    → Picks d most node octet held ended q
    → p ≡ q

-- what it takes with some held bits, it takes with more
abbrev pub TakesStay : Type 0
TakesStay =
    (d : DescV) (most node octet j : ℕ) (held more : List ℕ) (ended : Bool)
    → IsDescription d → Certified d most → IsAsked d node octet → Picks d most node octet held false (Take j)
    → Picks d most node octet (held ++ more) ended (Take j)

-- the tree is of the alternative with this number
abbrev pub HasAlternative : ℕ → TreeV → Type 0
HasAlternative j t = (u : TreeV) × (t ≡ alt j u)

-- look-ahead takes at a choice the alternative of each tree that what lies ahead has: the held bits, and the
-- later ones, of which there are none where the block has ended
abbrev pub ChoicesTakeTheOne : Type 0
ChoicesTakeTheOne =
    (d : DescV) (most node o j : ℕ) (v : Values) (parts held later : List ℕ) (ended : Bool) (t : TreeV)
    → IsDescription d → Certified d most → slice_get d.nodes node ≡ Some (Choice parts)
    → Reached d node (o % 8) → FitWidths d v → (ended ≡ true → later ≡ [])
    → LiesAhead d node o v (held ++ later) t → Picks d most node (o % 8) held ended (Take j)
    → HasAlternative j t

-- it refuses at a choice only where what lies ahead has no tree
abbrev pub ChoicesRefuseNone : Type 0
ChoicesRefuseNone =
    (d : DescV) (most node o : ℕ) (v : Values) (parts held later : List ℕ) (ended : Bool) (t : TreeV)
    → IsDescription d → Certified d most → slice_get d.nodes node ≡ Some (Choice parts)
    → Reached d node (o % 8) → (ended ≡ true → later ≡ []) → LiesAhead d node o v (held ++ later) t
    → ¬ Picks d most node (o % 8) held ended Refuse

-- it begins the part of a free repetition only where each tree that what lies ahead has begins with one of it
abbrev pub RepetitionsGoOn : Type 0
RepetitionsGoOn =
    (d : DescV) (most node part o j : ℕ) (v : Values) (held later : List ℕ) (ended : Bool) (t : TreeV)
    → IsDescription d → Certified d most → slice_get d.nodes node ≡ Some (Many part)
    → Reached d part (o % 8) → LiesAhead d node o v (held ++ later) t
    → Picks d most node (o % 8) held ended (Take j)
    → ¬ (t ≡ row none)

-- and leaves it only where each such tree has none
abbrev pub RepetitionsStop : Type 0
RepetitionsStop =
    (d : DescV) (most node part o : ℕ) (v : Values) (held later : List ℕ) (ended : Bool) (t : TreeV)
    → IsDescription d → slice_get d.nodes node ≡ Some (Many part) → FitWidths d v
    → (ended ≡ true → later ≡ []) → LiesAhead d node o v (held ++ later) t
    → Picks d most node (o % 8) held ended Leave
    → t ≡ row none

-- what a choice follows of what lies ahead, the held bits first, is followed by the alternative that is taken
-- alone
abbrev pub FollowedTakeTheOne : Type 0
FollowedTakeTheOne =
    (d : DescV) (most node o i j part : ℕ) (v : Values) (parts held later : List ℕ) (ended : Bool)
    → IsDescription d → Certified d most → slice_get d.nodes node ≡ Some (Choice parts)
    → Reached d node (o % 8) → FitWidths d v → 0 < length held → slice_get parts i ≡ Some part
    → NFollow d part o v (held ++ later) → Picks d most node (o % 8) held ended (Take j)
    → i ≡ j

-- and where look-ahead refuses before the block has ended, no alternative follows it
abbrev pub FollowedRefuseNone : Type 0
FollowedRefuseNone =
    (d : DescV) (most node o i part : ℕ) (v : Values) (parts held later : List ℕ)
    → IsDescription d → Certified d most → slice_get d.nodes node ≡ Some (Choice parts)
    → slice_get parts i ≡ Some part → NFollow d part o v (held ++ later)
    → ¬ Picks d most node (o % 8) held false Refuse

-- bits, and not none, that a free repetition follows are followed by turns of it: by the first, or by later ones
-- behind it
abbrev pub FollowedGoOn : Type 0
FollowedGoOn =
    (d : DescV) (node part o : ℕ) (v : Values) (b : List ℕ) → slice_get d.nodes node ≡ Some (Many part) → ¬ (b ≡ [])
    → NFollow d node o v b
    → ManyFollow d part o v b

-- where look-ahead leaves a free repetition, this one of it and of its part does not follow the bits that lie ahead,
-- where there are any
abbrev pub NotFollowedWhereLeft : (ℕ → ℕ → ℕ) → Type 0
NotFollowedWhereLeft one_of =
    (d : DescV) (most node part o : ℕ) (v : Values) (held later : List ℕ) (ended : Bool)
    → IsDescription d → slice_get d.nodes node ≡ Some (Many part) → FitWidths d v → (ended ≡ true → later ≡ [])
    → ¬ (held ++ later ≡ []) → Picks d most node (o % 8) held ended Leave
    → ¬ NFollow d (one_of node part) o v (held ++ later)

-- the repetition does not
abbrev pub FollowedStop : Type 0
FollowedStop = NotFollowedWhereLeft (λ node part. node)

-- nor does its part
abbrev pub FollowedTurnsStop : Type 0
FollowedTurnsStop = NotFollowedWhereLeft (λ node part. part)

-- ---- turns

-- a turn of a repetition, free or by number, has a bit
abbrev pub FreeTurnsHaveBits : Type 0
FreeTurnsHaveBits =
    (d : DescV) (most node part o : ℕ) (v : Values) (b : List ℕ) (t : TreeV)
    → IsDescription d → Certified d most → slice_get d.nodes node ≡ Some (Many part) → NMeans d part o v b t
    → 0 < length b

abbrev pub CountedTurnsHaveBits : Type 0
CountedTurnsHaveBits =
    (d : DescV) (most node part o : ℕ) (count : Count) (v : Values) (b : List ℕ) (t : TreeV)
    → IsDescription d → Certified d most → slice_get d.nodes node ≡ Some (Times count part) → NMeans d part o v b t
    → 0 < length b

-- ---- what is last

-- where a node that must be last may end, no bit may follow it
abbrev pub NoBitFollowsTheLast : Type 0
NoBitFollowsTheLast =
    (d : DescV) (most node from octet bit : ℕ) (n : Node)
    → Certified d most → slice_get d.nodes node ≡ Some n → IsLast n → Reached d node from → InEnds d node from octet
    → ¬ InFollow d node octet (Some bit)

-- what lies ahead of such a node is its own
abbrev pub NothingIsBehindTheLast : Type 0
NothingIsBehindTheLast =
    (d : DescV) (most node o : ℕ) (v : Values) (ahead : List ℕ) (t : TreeV) (n : Node)
    → IsDescription d → Certified d most → slice_get d.nodes node ≡ Some n → IsLast n → Reached d node (o % 8)
    → FitWidths d v → (lies : LiesAhead d node o v ahead t)
    → lies.others ≡ []

-- where some first components of a truncation may end, no bit may follow it, whether or not these are all, and
-- whether or not the last of them took a bit
abbrev pub NoBitFollowsComponents : Type 0
NoBitFollowsComponents =
    (d : DescV) (most node from octet bit : ℕ) (parts before after : List ℕ)
    → Certified d most → slice_get d.nodes node ≡ Some (Trunc parts) → parts ≡ before ++ after → Reached d node from
    → PartsEnd d before from octet
    → ¬ InFollow d node octet (Some bit)

-- and so where they have trees
abbrev pub NoBitFollowsTrees : Type 0
NoBitFollowsTrees =
    (d : DescV) (most node o bit : ℕ) (parts before after : List ℕ) (v : Values) (b : List ℕ) (ts : Trees)
    → IsDescription d → Certified d most → slice_get d.nodes node ≡ Some (Trunc parts) → parts ≡ before ++ after
    → Reached d node (o % 8) → FitWidths d v → PartsMean d before o v b ts
    → ¬ InFollow d node ((o + length b) % 8) (Some bit)

-- ---- components of a truncation

-- where bits lie ahead, the truncation of the components that are left takes the first of them: its bits and trees are
-- those of that component, which may have no bits, and then those of a truncation of the components behind it
abbrev pub TruncationsGoOn : Type 0
TruncationsGoOn =
    (d : DescV) (most node from i o : ℕ) (parts before after : List ℕ) (v : Values) (own others : List ℕ) (ts : Trees)
    → Certified d most → slice_get d.nodes node ≡ Some (Trunc parts) → parts ≡ before ++ i ∷ after
    → Reached d node from → PartsEnd d before from (o % 8)
    → MayStandBehind d node ((o + length own) % 8) others → ¬ (own ++ others ≡ [])
    → NodeMeans d (Trunc (i ∷ after)) o v own (row ts) ↔ TakesComponent d i after o v own ts

-- bits, and not none, that a truncation follows are followed by its components one after another, as of a sequence
abbrev pub FollowedTruncationsGoOn : Type 0
FollowedTruncationsGoOn =
    (d : DescV) (o : ℕ) (parts : List ℕ) (v : Values) (b : List ℕ) → ¬ (b ≡ []) → NodeFollows d (Trunc parts) o v b
    → PartsFollow d parts o v b

-- with no bits it takes none
abbrev pub TruncationsEnd : Type 0
TruncationsEnd =
    (d : DescV) (o : ℕ) (parts : List ℕ) (v : Values) (b : List ℕ) (t : TreeV) → NodeMeans d (Trunc parts) o v b t
    → b ≡ []
    → t ≡ row none

-- ---- waiting

-- bits with which look-ahead waits are followed by the node
abbrev pub WaitingIsFollowed : Type 0
WaitingIsFollowed =
    (d : DescV) (most node round o : ℕ) (seen : List ℕ) (v : Values) (held : List ℕ) (ended : Bool)
    → Formed d.nodes seen round node → HaveValues v seen → Picks d most node (o % 8) held ended Wait
    → NFollow d node o v held

-- they are fewer than it looks at
abbrev pub WaitingHoldsFew : Type 0
WaitingHoldsFew =
    (d : DescV) (most node octet : ℕ) (held : List ℕ) (ended : Bool)
    → 0 < most → Picks d most node octet held ended Wait
    → length held < most

-- and are refused where the block ends behind them, if there are any
abbrev pub WaitingEndsInRefusal : Type 0
WaitingEndsInRefusal =
    (d : DescV) (most node octet : ℕ) (held : List ℕ) → ¬ (held ≡ []) → Picks d most node octet held false Wait
    → Picks d most node octet held true Refuse

-- where look-ahead refuses no bits at the end, a choice has no tree with no bits
abbrev pub RefusedHasNoEmptyTree : Type 0
RefusedHasNoEmptyTree =
    (d : DescV) (most node octet o : ℕ) (v : Values) (b : List ℕ) (t : TreeV)
    → IsDescription d → Certified d most → Picks d most node octet [] true Refuse → NMeans d node o v b t
    → ¬ (b ≡ [])

-- no node is a window
abbrev pub HasNoWindow : DescV → Type 0
HasNoWindow d = (i unit part : ℕ) (count : Count) → ¬ (slice_get d.nodes i ≡ Some (Window unit count part))

-- where a description has no windows, followed bits begin a string
abbrev pub FollowedBeginStrings : Type 0
FollowedBeginStrings =
    (d : DescV) (b : List ℕ) → IsDescription d → HasNoWindow d → NFollow d 0 0 [] b
    → (rest : List ℕ) × (t : TreeV) × NMeans d 0 0 [] (b ++ rest) t

-- bits are followed in one way: where some have a tree at a node, and a bit goes on behind them that may stand
-- there, the node does not follow them together
abbrev pub FollowedInOneWay : Type 0
FollowedInOneWay =
    (d : DescV) (most node o : ℕ) (v : Values) (ahead : List ℕ) (t : TreeV) → IsDescription d → Certified d most
    → Reached d node (o % 8) → FitWidths d v → (lies : LiesAhead d node o v ahead t)
    → ¬ (lies.others ≡ [])
    → ¬ NFollow d node o v ahead
