-- What a plan has of its description, and by what look-ahead is asked.
use Rattle.std.specs.Prelude.{◌≡◌, ℕ, ◌≤◌, List, []}
use Rattle.csn_desc.specs.TreeV.{TreeV}
use Rattle.csn_desc.specs.Nodes.{DescV}
use Rattle.csn_desc.specs.Means.{NMeans}
use Rattle.csn_desc.specs.Formed.{IsDescription}
use Rattle.csn_look.specs.KeyMarks.{IsWord}
use Rattle.csn_look.specs.LookV.{LookV}
use Rattle.csn_look.specs.LookKeys.{IsKeysOf}
use Rattle.csn_look.specs.NodeSets.{IsLookOf}
use Rattle.csn_look.specs.ReachV.{ReachV, IsReachOf}
use Rattle.csn_look.specs.FollowV.{IsFollowOf}
use Rattle.csn_certify.specs.Conflicts.{Certified}
use Rattle.csn_certify.specs.PickTables.{PickTablesV, ArePickTables}

-- any bits, of any length, have at most one tree
abbrev pub HasOneTree : DescV → Type 0
HasOneTree d = (b : List ℕ) (t u : TreeV) → NMeans d 0 0 [] b t → NMeans d 0 0 [] b u → t ≡ u

-- the tables are those of the description, which is certified
pub record IsPlan (d : DescV) (look : LookV) (reach : ReachV) (tables : PickTablesV) : Type 0 where
  pub description : IsDescription d
  pub certified : Certified d 12
  pub sets : IsLookOf d look.sets
  pub keys : IsKeysOf d look
  pub reached : IsReachOf d reach.reached
  pub follow : IsFollowOf d reach.follow
  pub picks : ArePickTables d tables

-- look-ahead is asked by these tables, at an octet position where a word is held
pub record IsReady (d : DescV) (look : LookV) (reach : ReachV) (tables : PickTablesV) (octet : ℕ) (held : List ℕ) : Type 0 where
  pub plan : IsPlan d look reach tables
  pub position : octet ≤ 7
  pub word : IsWord held
