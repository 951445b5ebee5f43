use Rattle.std.proofs.Common.{◌≡◌, ◌++◌, ◌/◌, ◌^◌, ℕ, take}
use Rattle.csn_movetext.specs.Templates.{filled, pieces_text}
use Rattle.csn_movetext.proofs.template.Template.push_part.Given as goal

-- the first pieces of the part are added
abbrev pub invariant-loop-piece : goal.invariant-loop-piece
invariant-loop-piece l =
    (number : ℕ) → filled l.self number ≡ filled l.fn.self number ++ pieces_text (take l.piece-index l.part.pieces.items) (number / 2 ^ l.behind)
