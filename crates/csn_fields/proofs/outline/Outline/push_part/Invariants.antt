use Rattle.std.proofs.Common.{◌≡◌, reverse, take}
use Rattle.csn_fields.specs.Outlines.{Precedes}
use Rattle.csn_fields.proofs.outline.Outline.push_part.Given as goal

-- the last marks of the part are there
abbrev pub invariant-loop-mark : goal.invariant-loop-mark
invariant-loop-mark l =
    (reverse l.mark-items ≡ l.part)
    × Precedes (reverse (take l.mark-index l.mark-items)) l.behind l.fn.self (reverse l.self-inside.marks.items)
