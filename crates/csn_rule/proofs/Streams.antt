-- A block that comes in pieces goes on by a piece, and ends.
use Rattle.std.proofs.Common.{◌≡◌, ◌++◌, ℕ, List, Option, Some, sym, subst}
use Rattle.std.specs.Prelude.{⊤}
use Rattle.csn_desc.specs.Nodes.{DescV}
use Rattle.csn_judge.specs.declared.verdict.Verdict.{Verdict}
use Rattle.csn_judge.specs.declared.verdict.Verdict.TheVariants.{Going, Refused}
use Rattle.csn_judge.specs.declared.verdict.Judged.{Judged}
use Rattle.csn_judge.specs.declared.verdict.Judged.TheVariants.{Ok, Refused as no_string}
use Rattle.csn_desc.specs.Follows.{IsPlace}
use Rattle.csn_judge.specs.Judging.{JudgeV, Judges, Ends, refusal_of, judges_no_more}
use Rattle.csn_judge.specs.Blocks.{IsJudged}
use Rattle.csn_judge.specs.Paused.{PausedV, judge_by}
use Rattle.csn_fields.specs.Follower.{Says}
use Rattle.csn_rule.specs.Streams.{ComeBy, JudgesOn}

-- a judge that has refused goes on standing for all bits that come
fed : (old new : JudgeV) (more : List ℕ) (verdict : Verdict) → Judges (λ around made. ⊤) old new more verdict → new.refused ≡ refusal_of verdict
    → new.desc ≡ old.desc → (b : List ℕ) → JudgesOn old b → JudgesOn new (b ++ more)
fed old new more Going judges refused desc b (moves, stood) =
    let is = judges b moves stood in
    (moves ++ is.made, is.judges)
fed old new more (Refused place) judges refused desc b (moves, stood) =
    let is = judges b moves stood in
    let P : DescV → Type 0 = λ d. IsPlace d (b ++ more) place in
    (moves, judges_no_more place refused (subst P (sym desc) is.place_is) is.before_end)

-- at the end of the block
judged : (j : JudgeV) (d : DescV) (b : List ℕ) (answer : Judged) → j.desc ≡ d → Ends (λ around made. ⊤) j answer
    → JudgesOn j b → IsJudged d b answer
judged j d b Ok desc ends (moves, stood) =
    let P : DescV → Type 0 = λ d. IsJudged d b Ok in
    subst P desc ((ends b moves stood).block.tree, (ends b moves stood).block.means)
judged j d b (no_string place) desc ends (moves, stood) =
    let P : DescV → Type 0 = λ d. IsJudged d b (no_string place) in
    subst P desc ((ends b moves stood).place_is, (ends b moves stood).no_tree)

-- the judge was fed a piece
says_on : (d : DescV) (old new : JudgeV) (more : List ℕ) (verdict : Verdict) → old.desc ≡ d
    → Judges (λ around made. ⊤) old new more verdict → (b : List ℕ) → JudgesOn old b → Says d (b ++ more) verdict
says_on d old new more Going same judges b (moves, stood) =
    let P : DescV → Type 0 = λ x. Says x (b ++ more) Going in
    subst P same (judges b moves stood).followed
says_on d old new more (Refused place) same judges b (moves, stood) =
    let is = judges b moves stood in
    let P : DescV → Type 0 = λ x. Says x (b ++ more) (Refused place) in
    subst P same (is.place_is, is.before_end)

pub says_behind : (d : DescV) (before : Option PausedV) (old new : JudgeV) (more : List ℕ) (verdict : Verdict) → old.desc ≡ d
    → ((b : List ℕ) → ComeBy d before b → JudgesOn old b)
    → Judges (λ around made. ⊤) old new more verdict → (b : List ℕ) → ComeBy d before b → Says d (b ++ more) verdict
says_behind d before old new more verdict same on judges b come = says_on d old new more verdict same judges b (on b come)

pub comes_behind : (d : DescV) (before : Option PausedV) (after : PausedV) (old new : JudgeV) (more : List ℕ) (verdict : Verdict)
    → old.desc ≡ d → new.desc ≡ old.desc → judge_by new.desc after ≡ new → ((b : List ℕ) → ComeBy d before b → JudgesOn old b)
    → Judges (λ around made. ⊤) old new more verdict → new.refused ≡ refusal_of verdict
    → (b : List ℕ) → ComeBy d before b → ComeBy d (Some after) (b ++ more)
comes_behind d before after old new more verdict same kept aside on judges refused b come =
    let come_on : JudgesOn new (b ++ more) = fed old new more verdict judges refused kept b (on b come) in
    let P : JudgeV → Type 0 = λ j. JudgesOn j (b ++ more) in
    let Q : DescV → Type 0 = λ x. JudgesOn (judge_by x after) (b ++ more) in
    subst Q same (subst Q kept (subst P (sym aside) come_on))

pub ends_behind : (d : DescV) (before : Option PausedV) (judge : JudgeV) (answer : Judged) → judge.desc ≡ d
    → ((b : List ℕ) → ComeBy d before b → JudgesOn judge b) → Ends (λ around made. ⊤) judge answer
    → (b : List ℕ) → ComeBy d before b → IsJudged d b answer
ends_behind d before judge answer same on ends b come = judged judge d b answer same ends (on b come)
