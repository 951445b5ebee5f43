-- What is known of the description by which blocks are judged, for the proofs of each step.
use Rattle.csn_desc.specs.Nodes.{DescV}
use Rattle.csn_desc.specs.Formed.{IsDescription}
use Rattle.csn_desc.specs.Laws.{MeaningsAreBits, TreesHaveMoves, TreesHaveOneListOfMoves, ValuesHaveTheirWidth, EmptyBitsAreFollowed}
use Rattle.csn_look.specs.Laws.{NoBitsAreOfNullable, MeantBitsEnd, BeginningsOfKeysAreFollowed}
use Rattle.csn_look.specs.Laws.{BehindPartsOfSequences, FollowedBehindPartsOfSequences, BehindPartsOfTruncations}
use Rattle.csn_look.specs.Laws.{BehindLastOfTruncations, FollowedBehindPartsOfTruncations, BehindTurns}
use Rattle.csn_look.specs.Laws.{FollowedBehindTurns, BehindFreeTurns, FollowedBehindFreeTurns, BehindAlternatives}
use Rattle.csn_look.specs.Laws.{BehindLabelledParts}
use Rattle.csn_certify.specs.Conflicts.{Certified}
use Rattle.csn_certify.specs.Laws.{NoBitFollowsTheLast, NoBitFollowsComponents, ChoicesTakeTheOne, FollowedTakeTheOne}
use Rattle.csn_certify.specs.Laws.{RepetitionsGoOn, RepetitionsStop, FollowedStop, FreeTurnsHaveBits}
use Rattle.csn_certify.specs.Laws.{ChoicesRefuseNone, FollowedRefuseNone, WaitingIsFollowed, WaitingHoldsFew}
use Rattle.csn_certify.specs.Laws.{WaitingEndsInRefusal, RefusedHasNoEmptyTree}

pub record Known (d : DescV) : Type 0 where
  pub description : IsDescription d
  pub certified : Certified d 12
  -- bits, where they end, moves, and no bits
  pub good : MeaningsAreBits
  pub value_widths : ValuesHaveTheirWidth
  pub nullable : NoBitsAreOfNullable
  pub meant_end : MeantBitsEnd
  pub have_moves : TreesHaveMoves
  pub one_list : TreesHaveOneListOfMoves
  pub empties : EmptyBitsAreFollowed
  -- what stands behind parts
  pub sequence : BehindPartsOfSequences
  pub sequence_followed : FollowedBehindPartsOfSequences
  pub truncation : BehindPartsOfTruncations
  pub truncation_last : BehindLastOfTruncations
  pub truncation_followed : FollowedBehindPartsOfTruncations
  pub turns : BehindTurns
  pub turns_followed : FollowedBehindTurns
  pub free : BehindFreeTurns
  pub free_followed : FollowedBehindFreeTurns
  pub alternative : BehindAlternatives
  pub label : BehindLabelledParts
  pub last : NoBitFollowsTheLast
  pub components : NoBitFollowsComponents
  -- what look-ahead answers
  pub takes : ChoicesTakeTheOne
  pub takes_followed : FollowedTakeTheOne
  pub goes_on : RepetitionsGoOn
  pub stops : RepetitionsStop
  pub stops_followed : FollowedStop
  pub free_turns : FreeTurnsHaveBits
  pub refuses : ChoicesRefuseNone
  pub refuses_followed : FollowedRefuseNone
  pub keys : BeginningsOfKeysAreFollowed
  pub waits : WaitingIsFollowed
  pub waits_few : WaitingHoldsFew
  pub waits_end : WaitingEndsInRefusal
  pub never_empty : RefusedHasNoEmptyTree
