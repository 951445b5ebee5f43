-- What look-ahead tells of a description that is to be certified, and why it is not.
use Rattle.csn_desc.specs.Nodes.{DescV}
use Rattle.csn_look.specs.LookV.{LookV}
use Rattle.csn_look.specs.ReachV.{ReachV, IsReachOf}
use Rattle.csn_look.specs.NodeSets.{IsLookOf}
use Rattle.csn_look.specs.LookKeys.{IsKeysOf}
use Rattle.csn_look.specs.FollowV.{IsFollowOf}
use Rattle.csn_certify.specs.declared.certifying.CertifyFault.{CertifyFault}
use Rattle.csn_certify.specs.declared.certifying.CertifyFault.TheVariants.{Conflict, NoMemory}
use Rattle.csn_certify.specs.Conflicts.{IsFirstConflict}

-- the tables are what look-ahead tells of the description
pub record IsToldOf (d : DescV) (look : LookV) (reach : ReachV) : Type 0 where
  pub sets : IsLookOf d look.sets
  pub keys : IsKeysOf d look
  pub reached : IsReachOf d reach.reached
  pub follow : IsFollowOf d reach.follow

-- a conflict that is told is the first one of the description
abbrev pub IsFaultOf : DescV → CertifyFault → Type 0
IsFaultOf d (Conflict c) = IsFirstConflict d 12 c
IsFaultOf d NoMemory = Unit {0}
