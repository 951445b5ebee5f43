-- What a joiner keeps. No public contract cites it.
use Rattle.std.specs.Prelude.{ℕ, if◌then◌else◌, List, Option}
use Rattle.csn_segment.specs.declared.header.Segment.{Segment}
use Rattle.csn_segment.specs.Joining.{counts, body_of_first}

-- the body that waits in a transaction behind one more segment of it, with this body
abbrev pub kept_after : Segment → Option (List ℕ) → List ℕ → Option (List ℕ)
kept_after segment kept body = if counts segment then body_of_first segment body else kept
