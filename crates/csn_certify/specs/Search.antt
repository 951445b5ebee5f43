-- What a search for the first conflict of a description answers, for words of at most 12 bits.
use Rattle.std.specs.Prelude.{◌≡◌, ℕ, ◌<◌, ◌≤◌, List, ◌++◌, slice_get, Option, Some, None}
use Rattle.csn_desc.specs.declared.node.Node.{Node}
use Rattle.csn_desc.specs.Nodes.{DescV}
use Rattle.csn_desc.specs.Formed.{IsDescription}
use Rattle.csn_look.specs.LookV.{LookV}
use Rattle.csn_look.specs.ReachV.{ReachV, IsReachOf}
use Rattle.csn_look.specs.NodeSets.{IsLookOf}
use Rattle.csn_look.specs.LookKeys.{IsKeysOf}
use Rattle.csn_look.specs.FollowV.{IsFollowOf}
use Rattle.csn_look.specs.Starts.{InStart}
use Rattle.csn_look.specs.Ends.{InEnds}
use Rattle.csn_look.specs.Reached.{Reached, InFollow}
use Rattle.csn_certify.specs.declared.conflict.Conflict.{Conflict}
use Rattle.csn_certify.specs.Conflicts.{IsNull, IsLast, IsConflict, Certified, IsFirstConflict, rank_of, NotAfter}

-- the tables are those of the description, which is well formed
pub record IsSurveyed (d : DescV) (look : LookV) (reach : ReachV) : Type 0 where
  pub description : IsDescription d
  pub sets : IsLookOf d look.sets
  pub keys : IsKeysOf d look
  pub reached : IsReachOf d reach.reached
  pub follow : IsFollowOf d reach.follow

-- the rank of the conflict begins with these numbers
abbrev pub IsUnder : List ℕ → Conflict → Type 0
IsUnder front c = (rest : List ℕ) × (rank_of c ≡ front ++ rest)

-- the least number with the fact, from one on, where there is one
abbrev pub IsLeastFrom : ℕ → (ℕ → Type 0) → Option ℕ → Type 0
IsLeastFrom from P None = (n : ℕ) → from ≤ n → ¬ P n
IsLeastFrom from P (Some n) = (from ≤ n) × P n × ((m : ℕ) → from ≤ m → m < n → ¬ P m)

module _ (d : DescV) where
  -- the first of the conflicts whose rank begins with these numbers, where there is one
  abbrev pub IsFirstUnder : List ℕ → Option Conflict → Type 0
  IsFirstUnder front None = (c : Conflict) → IsUnder front c → ¬ IsConflict d 12 c
  IsFirstUnder front (Some c) =
      IsUnder front c × IsConflict d 12 c
      × ((other : Conflict) → IsUnder front other → IsConflict d 12 other → NotAfter (rank_of c) (rank_of other))

  -- the first of all conflicts; where there is none, the description is certified
  abbrev pub IsFirstOrNone : Option Conflict → Type 0
  IsFirstOrNone None = Certified d 12
  IsFirstOrNone (Some c) = IsFirstConflict d 12 c

  -- the alternative j of some parts takes no bits
  abbrev pub IsNullAt : List ℕ → ℕ → Type 0
  IsNullAt parts j = (p : ℕ) × (slice_get parts j ≡ Some p) × IsNull d p

  -- the part may begin with a bit at the octet position that may follow the node there
  abbrev pub IsClashing : ℕ → ℕ → ℕ → ℕ → Type 0
  IsClashing part node octet bit = InStart d part octet bit × InFollow d node octet (Some bit)

  -- the node may end at the octet position, from where it is reached
  abbrev pub MayEndAt : ℕ → ℕ → Type 0
  MayEndAt node octet = (from : ℕ) × Reached d node from × InEnds d node from octet

  -- a bit may follow the node at the octet position
  abbrev pub IsFollowed : ℕ → ℕ → Type 0
  IsFollowed node octet = (bit : ℕ) × InFollow d node octet (Some bit)

  -- the node ends with what is read
  abbrev pub IsLastNode : ℕ → Type 0
  IsLastNode node = (n : Node) × (slice_get d.nodes node ≡ Some n) × IsLast n
