-- What a decoder stands for, between two pieces of a block. (This project's own choice.)
use Rattle.std.specs.Prelude.{◌≡◌, ℕ, List, [], Option, Some, Result, Ok, Err}
use Rattle.csn_desc.specs.declared.moves.Move.{Move}
use Rattle.csn_desc.specs.Nodes.{DescV}
use Rattle.csn_desc.specs.TreeV.{TreeV}
use Rattle.csn_desc.specs.Means.{NMeans}
use Rattle.csn_desc.specs.Formed.{IsDescription}
use Rattle.csn_certify.specs.Plans.{HasOneTree}
use Rattle.csn_judge.specs.Judging as judge
use Rattle.csn_judge.specs.Judging.{JudgeV, opened}
use Rattle.csn_judge.specs.Told.{Tells}
use Rattle.csn_judge.specs.Following.{IsAnswer, ComesAlong, Continues, IsNoString}
use Rattle.csn_decode.specs.declared.decoder.Decoder.TheInside.{Inside}
use Rattle.csn_judge.specs.declared.fed.Fed.{Fed}
use Rattle.csn_decode.specs.declared.verdict.DecodeFault.{DecodeFault}
use Rattle.csn_decode.specs.declared.verdict.DecodeFault.TheVariants as fault
use Rattle.csn_decode.specs.Built.{BuiltV, nothing, Makes}

-- the description, how many bits have come, the last answer, the judge, and what there is of the tree, if no memory
-- was refused
pub record DecoderV : Type 0 where
  pub desc : DescV
  pub seen : ℕ
  pub answer : Fed
  pub judge : JudgeV
  pub built : Option BuiltV

abbrev pub stands : JudgeV → Option BuiltV → Fed → DecoderV
stands j built answer = record { desc = j.desc; seen = j.seen; answer = answer; judge = j; built = built }

abbrev pub decoder_of : Inside → DecoderV
decoder_of d = stands d.judge d.track d.answer

pub record IsDecoder (d : Inside) : Type 0 where
  pub description : IsDescription d.judge.desc
  pub one_tree : HasOneTree d.judge.desc
  pub answer_is : IsAnswer d.answer d.judge

-- the steps that are paid for by the bits so far and not taken yet: the judge's
abbrev pub credit : DecoderV → ℕ
credit d = judge.credit d.judge

-- what there is of the tree is made by these moves
abbrev pub IsTold : DecoderV → List Move → Type 0
IsTold d moves = Tells d.desc Makes [] moves (opened d.judge) (Some nothing) d.built

-- the decoder has come along these bits, by the moves that its judge has made for them, and all of them can be
-- followed; or they are refused. Where memory was wanting it stands for none.
abbrev pub DecodesFor : DecoderV → List ℕ → Type 0
DecodesFor d b = ComesAlong d.desc d.answer d.judge (IsTold d) b

-- what is known behind some more bits, for all bits that the decoder stood for. Where memory was wanting, they can be
-- followed
abbrev pub Decodes : (old new : DecoderV) (more : List ℕ) → Fed → Type 0
Decodes old new more answer = Continues old.desc old.answer (DecodesFor old) (DecodesFor new) more answer

-- at the end of a block whose bits are a string: they have this tree, and no other
pub record IsTreeOf (d : DecoderV) (b : List ℕ) (tree : TreeV) : Type 0 where
  pub means : NMeans d.desc 0 0 [] b tree
  pub only : (other : TreeV) → NMeans d.desc 0 0 [] b other → other ≡ tree

-- what is known at the end of a block, for all bits that the decoder stood for. Where memory was wanting, they have a
-- tree
abbrev pub Ends : DecoderV → Result TreeV DecodeFault → Type 0
Ends d (Ok tree) = (b : List ℕ) → DecodesFor d b → IsTreeOf d b tree
Ends d (Err (fault.Refused place)) = (b : List ℕ) → DecodesFor d b → IsNoString d.desc b place
Ends d (Err fault.NoMemory) = (b : List ℕ) → DecodesFor d b → (tree : TreeV) × NMeans d.desc 0 0 [] b tree
