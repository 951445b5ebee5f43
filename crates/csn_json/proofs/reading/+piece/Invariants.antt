use Rattle.std.proofs.Common.{ℕ, ◌+◌, ◌*◌, ◌≤◌, length}
use Rattle.std.specs.Prelude.{IfSome}
use Rattle.csn_json.specs.Pieces.{TellsRow, HasMembers}
use Rattle.csn_json.proofs.Streams.{ItemsSo, MembersSo}
use Rattle.csn_json.proofs.reading.+piece.Given as goal

abbrev pub decreases-piece : goal.decreases-piece
decreases-piece l = 2 * l.depth

abbrev pub decreases-rows_of : goal.decreases-rows_of
decreases-rows_of l = 2 * l.depth + 1

abbrev pub decreases-members_of : goal.decreases-members_of
decreases-members_of l = 2 * l.depth + 1

-- each tree so far took a token
abbrev pub invariant-rows_of-values : goal.invariant-rows_of-values
invariant-rows_of-values l =
    ItemsSo l.depth l.initial.reader l.reader (TellsRow l.round l.rows)
    × IfSome l.rows (λ rows. length rows + length l.reader ≤ length l.initial.reader)
    × (length l.reader ≤ length l.initial.reader)

abbrev pub decreases-rows_of-values : goal.decreases-rows_of-values
decreases-rows_of-values l = length l.reader

abbrev pub invariant-members_of-members : goal.invariant-members_of-members
invariant-members_of-members l =
    MembersSo l.depth l.initial.reader l.reader (HasMembers l.round l.members)
    × (length l.reader ≤ length l.initial.reader)

abbrev pub decreases-members_of-members : goal.decreases-members_of-members
decreases-members_of-members l = length l.reader
