-- What the laws of csn_desc and csn_look say of values, of meant and followed bits and of what stands behind parts, in
-- one record, which lemmas take. No public contract cites it.
use Rattle.csn_desc.specs.Laws.{NodesAreWellFormed, ValuesStayThere, ValuesStayFitting, NoValuesFit, CountsAreNumbers}
use Rattle.csn_look.specs.Laws.{NoBitsAreOfNullable, MeantBitsEnd, MeantBitsStart, FollowedBitsStart}
use Rattle.csn_look.specs.Laws.{MeantBitsBeginWithKeys, FollowedBitsBeginKeys, NodesHaveKeys, KeysStart}
use Rattle.csn_look.specs.Laws.{BehindPartsOfSequences, FollowedBehindPartsOfSequences, BehindTurns}
use Rattle.csn_look.specs.Laws.{FollowedBehindTurns, BehindFreeTurns, FollowedBehindFreeTurns, BehindAlternatives}
use Rattle.csn_look.specs.Laws.{BehindLabelledParts, ChoicesReach}

pub record Known : Type 0 where
  pub formed : NodesAreWellFormed
  pub there : ValuesStayThere
  pub fitting : ValuesStayFitting
  pub no_values : NoValuesFit
  pub counts : CountsAreNumbers
  pub nullable : NoBitsAreOfNullable
  pub ends : MeantBitsEnd
  pub starts : MeantBitsStart
  pub follows : FollowedBitsStart
  pub keys : MeantBitsBeginWithKeys
  pub near : FollowedBitsBeginKeys
  pub some_key : NodesHaveKeys
  pub key_start : KeysStart
  pub sequence : BehindPartsOfSequences
  pub sequence_followed : FollowedBehindPartsOfSequences
  pub times : BehindTurns
  pub times_followed : FollowedBehindTurns
  pub many : BehindFreeTurns
  pub many_followed : FollowedBehindFreeTurns
  pub choice_reached : ChoicesReach
  pub choice : BehindAlternatives
  pub label : BehindLabelledParts
