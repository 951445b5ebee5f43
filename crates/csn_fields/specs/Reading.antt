-- What a reader of fields has told of a block. (This project's own choice.)
use Rattle.std.specs.Prelude.{◌≡◌, ℕ, ◌-◌, List, [], ◌++◌, take, Option, None}
use Rattle.std.specs.Option.{option_map}
use Rattle.csn_desc.specs.declared.moves.Move.{Move}
use Rattle.csn_desc.specs.declared.node.Node.{Node}
use Rattle.csn_desc.specs.Nodes.{DescV}
use Rattle.csn_desc.specs.Formed.{IsDescription}
use Rattle.csn_certify.specs.Plans.{HasOneTree}
use Rattle.csn_judge.specs.Told.{Tells}
use Rattle.csn_judge.specs.Remains.{IsBlock}
use Rattle.csn_judge.specs.Judging.{JudgeV, JudgesFor, opened}
use Rattle.csn_judge.specs.declared.verdict.Judged.{Judged}
use Rattle.csn_judge.specs.declared.verdict.Judged.TheVariants.{Ok, Refused as no_string}
use Rattle.csn_judge.specs.Following.{IsNoString}
use Rattle.csn_fields.specs.declared.event.Event.{Event}
use Rattle.csn_fields.specs.declared.refusal.OpenNode.{OpenNode}
use Rattle.csn_fields.specs.declared.refusal.Ended.{Ended}
use Rattle.csn_fields.specs.declared.refusal.Ended.TheVariants.{Whole, Refused}
use Rattle.csn_fields.specs.Numbers.{HasNumbers}
use Rattle.csn_fields.specs.Alternatives.{AlternativesV, HasAlternatives}
use Rattle.csn_fields.specs.Events.{Told, AreEvents, BeginEvents}
use Rattle.csn_fields.specs.Leaves.{width_of}
use Rattle.csn_fields.specs.Places.{PlacesV, innermost, nothing}
use Rattle.csn_fields.specs.Telling.{ToldV, untold, Goes}
use Rattle.csn_fields.specs.Follower.{FollowerV, FollowsFor}

-- these bits of a block have come, and these events were told: those of the moves for the bits that can be followed
pub record TellsFor (f : FollowerV) (places : PlacesV) (b : List ℕ) (events : List Event) : Type 0 where
  pub description : IsDescription f.desc
  pub one_tree : HasOneTree f.desc
  pub numbers : List (Option ℕ)
  pub has : HasNumbers f.desc numbers
  pub moves : List Move
  pub follows : FollowsFor f b moves
  pub told : Tells f.desc Goes [] moves (opened f.judge) (untold numbers) (record { places = places; events = events })

-- behind some more bits: some more events, which are told to one by whom `tells` says what an event makes
pub record TellsOn {S : Type 0} (tells : S → Event → S → Type 0) (f : FollowerV) (places : PlacesV) (b : List ℕ) (events : List Event) (old new : S)
    : Type 0 where
  pub more : List Event
  pub stands : TellsFor f places b (events ++ more)
  pub told : Told tells more old new

-- each block that goes on from these bits has a tree whose moves begin with these
abbrev pub BeginMoves : DescV → List ℕ → List Move → Type 0
BeginMoves d b moves = (later : List ℕ) (all : List Move) → IsBlock d (b ++ later) all → (rest : List Move) × (all ≡ moves ++ rest)

-- this is the innermost node, if there is one, that such moves enter and do not leave which tell these events
pub record IsWithin (d : DescV) (b : List ℕ) (events : List Event) (within : Option OpenNode) : Type 0 where
  pub numbers : List (Option ℕ)
  pub has : HasNumbers d numbers
  pub moves : List Move
  pub begin : BeginMoves d b moves
  pub around : List ℕ
  pub last : ToldV
  pub told : Tells d Goes [] moves around (untold numbers) last
  pub events_are : last.events ≡ events
  pub within_is : within ≡ innermost last.places.nodes

-- what is known of a block that has ended, and of its events: they are all that it has; or it is no string, and they are
-- those with which each block begins that goes on from its place, inside the node in which the refusal was met
abbrev pub EndsWith : DescV → List ℕ → List Event → Ended → Type 0
EndsWith d b events Whole = AreEvents d b events
EndsWith d b events (Refused refusal) =
    IsNoString d b refusal.place × BeginEvents d (take refusal.place b) events × IsWithin d (take refusal.place b) events refusal.within

-- the same, where the last of them are told
pub record EndsTold {S : Type 0} (tells : S → Event → S → Type 0) (d : DescV) (b : List ℕ) (events : List Event) (old new : S) (ended : Ended)
    : Type 0 where
  pub more : List Event
  pub told : Told tells more old new
  pub ends : EndsWith d b (events ++ more) ended

-- how a block ends, by what the judges answer and the innermost node that is open then
abbrev pub ended_as : Judged → Option OpenNode → Ended
ended_as Ok within = Whole
ended_as (no_string place) within = Refused (record { place = place; within = within })

-- how many bits are left at a place of a node that began at another; where it is a leaf that has the same number of bits
-- in all blocks
abbrev pub left_in : (begun place : ℕ) → Node → Option ℕ
left_in begun place node = option_map (λ bits. bits - (place - begun)) (width_of node)

-- a judge stands for no bits, and nothing is kept of a block, by a description of which these are the alternatives
pub record IsReady (judge : JudgeV) (places : PlacesV) (alternatives : AlternativesV) : Type 0 where
  pub description : IsDescription judge.desc
  pub one_tree : HasOneTree judge.desc
  pub has : HasAlternatives judge.desc alternatives
  pub judges : JudgesFor judge [] []
  pub going : judge.refused ≡ None
  pub seen_is : judge.seen ≡ 0
  pub opened_are : opened judge ≡ []
  pub places_are : places ≡ nothing alternatives.numbers
