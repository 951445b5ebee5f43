-- What the writer of a block's text stands for, between two pieces of the block. (This project's own choice.)
use Rattle.std.specs.Prelude.{◌≡◌, ℕ, ◌≤◌, Bool, true, false, List, [], ◌++◌, length, take, Result, Ok, Err}
use Rattle.csn_desc.specs.declared.moves.Move.{Move}
use Rattle.csn_desc.specs.Nodes.{DescV}
use Rattle.csn_desc.specs.TreeV.{TreeV}
use Rattle.csn_desc.specs.Means.{NMeans}
use Rattle.csn_desc.specs.Follows.{NFollow}
use Rattle.csn_desc.specs.Formed.{IsDescription}
use Rattle.csn_certify.specs.Plans.{HasOneTree}
use Rattle.csn_judge.specs.Judging as judge
use Rattle.csn_judge.specs.Judging.{JudgeV, JudgesFor, opened}
use Rattle.csn_judge.specs.Told.{Tells}
use Rattle.csn_judge.specs.declared.fed.Fed.{Fed}
use Rattle.csn_judge.specs.declared.fed.Fed.TheVariants.{Going, Refused, NoMemory}
use Rattle.csn_judge.specs.Following.{IsAnswer, ComesAlong, IsNoString}
use Rattle.csn_judge.specs.Following as following
use Rattle.csn_judge.specs.declared.verdict.Judged.{Judged}
use Rattle.csn_judge.specs.declared.verdict.Judged.TheVariants as judged
use Rattle.csn_movetext.specs.declared.block.BlockText.TheInside.{Inside}
use Rattle.csn_json.specs.declared.form.TreeForm.{TreeForm}
use Rattle.csn_movetext.specs.declared.fault.BlockFault.{BlockFault}
use Rattle.csn_movetext.specs.declared.fault.BlockFault.TheVariants as fault
use Rattle.csn_json.specs.Forms.{IsShown}
use Rattle.csn_movetext.specs.Openings.{OpeningsV, HasOpenings}
use Rattle.csn_movetext.specs.Track.{TrackV, Writes}

-- the form, the description, how many bits have come, the last answer, the bytes before the text of the block, the
-- judge, and the track
pub record BlockV : Type 0 where
  pub form : TreeForm
  pub desc : DescV
  pub seen : ℕ
  pub answer : Fed
  pub before : List ℕ
  pub judge : JudgeV
  pub track : TrackV

abbrev pub stands : JudgeV → TrackV → Fed → List ℕ → BlockV
stands j track answer before =
    record {
      form = track.openings.form;
      desc = j.desc;
      seen = j.seen;
      answer = answer;
      before = before;
      judge = j;
      track = track;
    }

abbrev pub block_of : Inside → BlockV
block_of b = stands b.judge b.track b.answer (take b.start b.track.kept.text)

-- what a block comes to behind an answer, by what the judge says of its end, where memory was wanting or not
abbrev pub outcome_of : Fed → Judged → Bool → Result (Unit {0}) BlockFault
outcome_of (Refused place) says short = Err (fault.Refused place)
outcome_of NoMemory says short = Err fault.NoMemory
outcome_of Going (judged.Refused place) short = Err (fault.Refused place)
outcome_of Going judged.Ok true = Err fault.NoMemory
outcome_of Going judged.Ok false = Ok tt

-- the judge stands for some bits, unless they were refused
abbrev pub JudgesSome : Fed → JudgeV → Type 0
JudgesSome Going j = (b : List ℕ) × (moves : List Move) × JudgesFor j b moves
JudgesSome (Refused place) j = Unit {0}
JudgesSome NoMemory j = (b : List ℕ) × (moves : List Move) × JudgesFor j b moves

pub record IsBlockText (b : Inside) : Type 0 where
  pub description : IsDescription b.judge.desc
  pub one_tree : HasOneTree b.judge.desc
  pub answer_is : IsAnswer b.answer b.judge
  pub judges : JudgesSome b.answer b.judge
  pub few : b.judge.seen ≤ 524288
  pub openings : HasOpenings b.judge.desc b.track.openings
  pub started : b.start ≤ length b.track.kept.text

-- the steps that are paid for by the bits so far and not taken yet: the judge's
abbrev pub credit : BlockV → ℕ
credit b = judge.credit b.judge

-- nothing of a tree is written behind these bytes
abbrev pub nothing : OpeningsV → List ℕ → TrackV
nothing openings before =
    record {
      openings = openings;
      kept = record { text = before; left = false; long = false; held = 0; bits = 0 };
      refused = false;
      pending = [];
    }

-- what there is of the text is written by these moves
abbrev pub IsTold : BlockV → List Move → Type 0
IsTold w moves = Tells w.desc Writes [] moves (opened w.judge) (nothing w.track.openings w.before) w.track

-- the text has come along these bits, by the moves that the judge has made for them, and all of them can be followed;
-- or they are refused. Where memory was wanting it stands for none.
abbrev pub WritesFor : BlockV → List ℕ → Type 0
WritesFor w b = ComesAlong w.desc w.answer w.judge (IsTold w) b

-- what is known behind some more bits, for all bits that it stood for. Where memory was wanting, they can be followed
abbrev pub Continues : (old new : BlockV) (more : List ℕ) → Fed → Type 0
Continues old new more answer = following.Continues old.desc old.answer (WritesFor old) (WritesFor new) more answer

-- bits that are a string: these bytes are the text of their tree in a form, and they have no other tree
pub record IsTextOfBlock (form : TreeForm) (d : DescV) (b text : List ℕ) : Type 0 where
  pub tree : TreeV
  pub means : NMeans d 0 0 [] b tree
  pub only : (other : TreeV) → NMeans d 0 0 [] b other → other ≡ tree
  pub spelled : IsShown form tree text

-- behind these bytes stands the text of the tree
abbrev pub AddsText : TreeForm → DescV → List ℕ → List ℕ → List ℕ → Type 0
AddsText form d b before new = (text : List ℕ) × (new ≡ before ++ text) × IsTextOfBlock form d b text

-- why bits have no text. Where memory was wanting, they can be followed
abbrev pub IsFaultOf : DescV → List ℕ → BlockFault → Type 0
IsFaultOf d b (fault.Refused place) = IsNoString d b place
IsFaultOf d b fault.NoMemory = NFollow d 0 0 [] b

-- at the end of a block, for all bits that it stood for: their text stands behind the bytes before
abbrev pub Ends : BlockV → Result (List ℕ) BlockFault → Type 0
Ends w (Ok bytes) = (b : List ℕ) → WritesFor w b → AddsText w.form w.desc b w.before bytes
Ends w (Err why) = (b : List ℕ) → WritesFor w b → IsFaultOf w.desc b why
