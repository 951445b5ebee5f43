-- What the calls of C over blocks in pieces answer. (This project's own choice.)
use Rattle.std.specs.Prelude.{◌≡◌, ◌⊎◌, ℕ, ◌+◌, ◌<◌, List, ◌++◌, Option, Some, None}
use Rattle.csn_bits.specs.Octets.{most_bits}
use Rattle.csn_desc.specs.Nodes.{DescV}
use Rattle.csn_fields.specs.Follower.{Says}
use Rattle.csn_judge.specs.declared.verdict.Verdict.{Verdict}
use Rattle.csn_judge.specs.declared.verdict.Judged.{Judged}
use Rattle.csn_judge.specs.Blocks.{IsJudged}
use Rattle.csn_rule.specs.Streams.{StreamV, HasCome, at_begin, seen_of}
use Rattle.csn_c.specs.declared.status.TheConstants.{NO_MEMORY, NO_RULE, OK, TOO_LONG}
use Rattle.csn_c.specs.Statuses.{IsJudgedStatus, IsVerdictStatus}

-- the rule of a handle goes to a stream; or there is none, or no memory, and both hold what they held
abbrev pub OpensTo : (rule : Option DescV) (stream : Option StreamV) (status : ℕ) (rule_after : Option DescV) (stream_after : Option StreamV)
    → Type 0
OpensTo None stream status rule_after stream_after =
    (status ≡ NO_RULE) × (rule_after ≡ None) × (stream_after ≡ stream)
OpensTo (Some d) stream status rule_after stream_after =
    ((status ≡ OK) × (rule_after ≡ None) × (stream_after ≡ Some (at_begin d)))
    ⊎ ((status ≡ NO_MEMORY) × (rule_after ≡ Some d) × (stream_after ≡ stream))

-- a piece of so many bits: all bits with it can be followed, or they have a place; or they are too many, and nothing is added
pub data PushesTo (s : StreamV) (piece : List ℕ) (bits status old new : ℕ) (t : StreamV) : Type 0 where
  pushed :
      (verdict : Verdict) → t.desc ≡ s.desc → ((b : List ℕ) → HasCome s b → HasCome t (b ++ piece))
      → ((b : List ℕ) → HasCome s b → Says s.desc (b ++ piece) verdict) → IsVerdictStatus verdict status old new
      → PushesTo s piece bits status old new t
  too_long : most_bits < seen_of s + bits → status ≡ TOO_LONG → new ≡ old → t ≡ s → PushesTo s piece bits status old new t

-- and a handle holds what has come then
abbrev pub Pushes : (s : StreamV) (piece : List ℕ) (bits status old new : ℕ) (after : Option StreamV) → Type 0
Pushes s piece bits status old new after = (t : StreamV) × (after ≡ Some t) × PushesTo s piece bits status old new t

-- the end of a block: the status tells what it comes to, and where it is refused the number its place; no bits have come then
pub record EndsTo (s : StreamV) (status old new : ℕ) (after : Option StreamV) : Type 0 where
  pub judged : Judged
  pub is : (b : List ℕ) → HasCome s b → IsJudged s.desc b judged
  pub told : IsJudgedStatus judged status old new
  pub begins : after ≡ Some (at_begin s.desc)
