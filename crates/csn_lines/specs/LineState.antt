-- How far a job over lines has come, and how a line takes it further. (This project's own choice.)
use Rattle.std.specs.Prelude.{◌≡◌, ℕ, List, [], ◌∷◌, ◌++◌, Option}
use Rattle.csn_replay.specs.Watched.{Watched, reports}
use Rattle.csn_lines.specs.declared.lines.TheConstants.{LINE_FEED}

-- what the lines before have come to
pub record LineState : Type 0 where
  -- the blocks that were given to the joiner of segments, in their order
  pub blocks : List (List ℕ)
  -- the watchers that are left
  pub watchers : List Watched

-- where no block was given to a joiner, and nothing watches
abbrev pub nothing_yet : LineState
nothing_yet = record { blocks = []; watchers = [] }

-- what is written behind the last line: the reports of the watchers that are left
abbrev pub closing : LineState → List ℕ
closing state = reports state.watchers

-- a line gives one output line, which this relation settles, whatever stood before it; and nothing comes of it for the
-- lines behind it
abbrev pub AnswersAlone : {St : Type 0} → (List ℕ → List ℕ → Type 0) → St → List ℕ → List ℕ → St → Type 0
AnswersAlone Answer before line text after =
    (answer : List ℕ) × Answer line answer × (text ≡ answer ++ LINE_FEED ∷ []) × (after ≡ before)

-- what a command keeps of the lines before
pub record Kept : Type 0 where
  -- by radio transaction identifier, the body of the first segment that waits
  pub bodies : List (Option (List ℕ))
  pub watchers : List Watched

-- a command that keeps nothing
abbrev pub nothing_kept : Kept
nothing_kept = record { bodies = []; watchers = [] }

-- the reports of the watchers that are kept
abbrev pub closing_of : Kept → List ℕ
closing_of kept = reports kept.watchers
