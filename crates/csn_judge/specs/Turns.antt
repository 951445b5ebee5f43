-- What a turn of the machine does. (This project's own choice.)
use Rattle.std.specs.Prelude.{◌≡◌, ℕ, suc, ◌+◌, ◌<◌, ◌≤◌, ◌⊎◌, ⊤, ◌||◌, nat_lt, true, false, if◌then◌else◌, List, []}
use Rattle.std.specs.Prelude.{◌∷◌, ◌++◌, length, reverse, Option, Some, None, slice_get}
use Rattle.csn_desc.specs.declared.moves.Move.{Move}
use Rattle.csn_desc.specs.declared.moves.Move.TheVariants.{Enter}
use Rattle.csn_desc.specs.declared.node.Node.{Node}
use Rattle.csn_desc.specs.Nodes.{DescV}
use Rattle.csn_judge.specs.declared.frame.Frame.{Frame}
use Rattle.csn_judge.specs.declared.frame.Frame.TheVariants as frame
use Rattle.csn_certify.specs.declared.numbers.Number.{Number}
use Rattle.csn_judge.specs.declared.machine.Machine.{Machine}
use Rattle.csn_judge.specs.declared.pace.Pace.{Pace}
use Rattle.csn_judge.specs.declared.turn.Turn.{Turn}
use Rattle.csn_judge.specs.declared.turn.Turn.TheVariants.{Moved, Waits, Refused}
use Rattle.csn_judge.specs.declared.turn.PartTurn.{PartTurn}
use Rattle.csn_judge.specs.declared.turn.PartTurn.TheVariants as part
use Rattle.csn_judge.specs.declared.turn.Next.{Next}
use Rattle.csn_judge.specs.declared.turn.Next.TheVariants as next
use Rattle.csn_judge.specs.declared.verdict.Verdict.{Verdict}
use Rattle.csn_judge.specs.declared.verdict.Verdict.TheVariants.{Going}
use Rattle.csn_judge.specs.declared.verdict.Verdict.TheVariants as verdict
use Rattle.csn_judge.specs.Coming.{Coming}
use Rattle.csn_judge.specs.Known.{Known}
use Rattle.csn_judge.specs.Told.{Tells}
use Rattle.csn_judge.specs.Left.{Left}
use Rattle.csn_judge.specs.Remains.{Rest, Goes, Passes}
use Rattle.csn_judge.specs.Inside.{IsStack, AreOwed}
use Rattle.csn_judge.specs.Shown.{Shows, limit_in}

-- the nodes that are open, the innermost first
abbrev pub around_of : List Frame → List ℕ
around_of [] = []
around_of (frame.Begin i ∷ frames) = around_of frames
around_of (frame.Leaf i leaf ∷ frames) = i ∷ around_of frames
around_of (frame.Counted counted ∷ frames) = counted.part ∷ counted.node ∷ around_of frames
around_of (frame.Seq i at count ∷ frames) = i ∷ around_of frames
around_of (frame.Trunc i at count ∷ frames) = i ∷ around_of frames
around_of (frame.Open i ∷ frames) = i ∷ around_of frames
around_of (frame.Choice i ∷ frames) = i ∷ around_of frames
around_of (frame.Times i part left ∷ frames) = i ∷ around_of frames
around_of (frame.Many i part ∷ frames) = i ∷ around_of frames
around_of (frame.Window i start bits outer ∷ frames) = i ∷ around_of frames
around_of (frame.Named i ∷ frames) = i ∷ around_of frames

-- nothing takes a bit: there is none, or the next one is refused
abbrev pub IsStopped : Coming → Turn → Type 0
IsStopped coming Moved = ⊥
IsStopped coming Waits = (coming.bits ≡ []) × (coming.held ≡ 0) × (coming.place ≤ coming.limit)
IsStopped coming (Refused place) =
    (bit : ℕ) × (rest : List ℕ) × (coming.bits ≡ bit ∷ rest) × (place ≡ coming.place) × (coming.place ≤ coming.limit)

-- the frame of a node that has nothing more behind its part
pub data IsPassed : Frame → ℕ → Type 0 where
  passed_choice : {k i : ℕ} → k ≡ i → IsPassed (frame.Choice k) i
  passed_label : {k i : ℕ} → k ≡ i → IsPassed (frame.Named k) i

-- where a turn of a repetition began by going back, if one did since the last bit: at the place of the next one
abbrev pub fresh_at : Pace → ℕ → Option ℕ
fresh_at pace place = if pace.again then Some place else None

-- a node begins
abbrev pub begun_by : ℕ → Pace → Pace
begun_by node pace = record { next = suc node; again = pace.again || nat_lt node pace.next }

-- a machine and the bits that come: the frames, the innermost first, the values that it keeps, and how far the nodes
-- have been gone through
pub record StateV : Type 0 where
  pub frames : List Frame
  pub values : List Number
  pub pace : Pace
  pub coming : Coming

-- the state of a machine with these frames in place of its own
abbrev pub state_at : List Frame → Machine → Coming → StateV
state_at frames machine coming = record { frames = frames; values = machine.values.items; pace = machine.pace; coming = coming }

abbrev pub state_of : Machine → Coming → StateV
state_of machine coming = state_at (reverse machine.frames.items) machine coming

-- the state where one more frame was on top
abbrev pub state_with : Frame → Machine → Coming → StateV
state_with top machine coming = state_at (top ∷ reverse machine.frames.items) machine coming

-- a frame on others, if there is one
abbrev pub over : Option Frame → List Frame → List Frame
over (Some frame) frames = frame ∷ frames
over None frames = frames

-- the state where one more frame was on top, and perhaps another one behind it
abbrev pub state_upon : Frame → Option Frame → Machine → Coming → StateV
state_upon top behind machine coming = state_at (top ∷ over behind (reverse machine.frames.items)) machine coming

-- the state behind a part that was read at once: where it has ended, the frame that stood behind it is on top
abbrev pub state_behind : PartTurn → Option Frame → Machine → Coming → StateV
state_behind part.Ended behind machine coming = state_at (over behind (reverse machine.frames.items)) machine coming
state_behind (part.Turn turn) behind machine coming = state_of machine coming

-- what came of it
abbrev pub turn_of_part : PartTurn → Turn
turn_of_part part.Ended = Moved
turn_of_part (part.Turn turn) = turn

-- the state where a part begins, and this frame goes on behind it
abbrev pub state_begun : ℕ → Frame → Machine → Coming → StateV
state_begun part behind machine coming =
    record {
      frames = frame.Begin part ∷ behind ∷ reverse machine.frames.items;
      values = machine.values.items;
      pace =
          begun_by part machine.pace;
      coming = coming;
    }

-- the state behind a turn: the node that begins next is innermost
abbrev pub state_then : Next → Machine → Coming → StateV
state_then (next.Begin node) machine coming = state_with (frame.Begin node) machine coming
state_then (next.Turn turn) machine coming = state_of machine coming

-- what came of a turn: where a node begins next, the machine has gone on
abbrev pub turn_in : Next → Turn
turn_in (next.Begin node) = Moved
turn_in (next.Turn turn) = turn

-- where the machine stops: it waits for a further bit, or refuses one
abbrev pub turn_of : Verdict → Turn
turn_of Going = Waits
turn_of (verdict.Refused place) = Refused place

-- of a turn that makes no move
abbrev pub tells_nothing : ⊤ → Move → Node → ⊤ → Type 0
tells_nothing before move node after = ⊥

module _ (d : DescV) where
  -- the state shows these open nodes, behind the bits `done`
  pub record Stands (state : StateV) (stack : List Left) (done : List ℕ) : Type 0 where
    pub shows : Shows d state.frames state.values stack done
    pub stack_is : IsStack d state.pace.next (fresh_at state.pace (length done)) stack done
    pub place : state.coming.place ≡ length done
    pub limit : state.coming.limit ≡ limit_in stack
    pub owed : AreOwed stack done state.coming.bits

  -- it shows some open nodes of a certified description, behind some bits
  pub record StandsSomewhere (state : StateV) : Type 0 where
    pub known : Known d
    pub stack : List Left
    pub done : List ℕ
    pub stands : Stands state stack done

  module _ {S : Type 0} (takes : S → Move → Node → S → Type 0) (old new : StateV) (before after : S) where
    -- behind these bits of a block, some more are taken and some moves made
    pub record GoesOn (stack : List Left) (done : List ℕ) : Type 0 where
      pub now : List Left
      pub taken : List ℕ
      pub made : List Move
      pub stands : Stands new now (done ++ taken)
      pub bits : old.coming.bits ≡ taken ++ new.coming.bits
      pub ended : new.coming.ended ≡ old.coming.ended
      pub steps : Passes d old.coming.ended stack now done taken new.coming.bits made
      pub tells : Tells d takes (around_of old.frames) made (around_of new.frames) before after

    -- the same, and all bits that are left are held and can be followed. The block cannot end here: not with some
    -- held, and where it has ended only where nothing is open
    pub record WaitsOn (stack : List Left) (done : List ℕ) : Type 0 where
      pub on : GoesOn stack done
      pub few : length new.coming.bits < 12
      pub held : new.coming.held ≡ length new.coming.bits
      pub followed : new.coming.ended ≡ false → Goes d on.now (done ++ on.taken) new.coming.bits
      pub held_ends : 0 < length new.coming.bits → (rest : List Move) → ¬ Rest d on.now (done ++ on.taken) new.coming.bits rest
      pub over : new.coming.ended ≡ true → (new.frames ≡ []) ⊎ ((rest : List Move) → ¬ Rest d on.now (done ++ on.taken) [] rest)

    -- the bits that come can be followed up to the place, and no further; some moves were made
    pub record RefusesAt (stack : List Left) (done : List ℕ) (place : ℕ) : Type 0 where
      pub made : List Move
      pub around : List ℕ
      pub alike : List ℕ
      pub bit : ℕ
      pub later : List ℕ
      pub bits : old.coming.bits ≡ alike ++ bit ∷ later
      pub place_is : place ≡ length done + length alike
      pub followed : Goes d stack done alike
      pub no_further : ¬ Goes d stack done (alike ++ bit ∷ [])
      pub tells : Tells d takes (around_of old.frames) made around before after

    abbrev pub Turns : Turn → Type 0
    Turns Moved = (stack : List Left) (done : List ℕ) → Stands old stack done → GoesOn stack done
    Turns Waits = (stack : List Left) (done : List ℕ) → Stands old stack done → WaitsOn stack done
    Turns (Refused place) = (stack : List Left) (done : List ℕ) → Stands old stack done → RefusesAt stack done place

  -- node i was entered before, from the state where it begins
  abbrev pub Entered : {S : Type 0} → (S → Move → Node → S → Type 0) → ℕ → StateV → StateV → S → S → Turn → Type 0
  Entered {S} takes i old new before after turn =
      (first : S) (node : Node) → slice_get d.nodes i ≡ Some node → takes first (Enter i) node before → Turns takes old new first after turn
