use Rattle.std.proofs.Common.{◌≡◌, ◌++◌, take}
use Rattle.csn_movetext.specs.Templates.{pieces_text}
use Rattle.csn_movetext.proofs.template.Template.write.Given as goal

-- the first pieces are written
abbrev pub invariant-loop-piece : goal.invariant-loop-piece
invariant-loop-piece l = l.out.items ≡ l.fn.out.items ++ pieces_text (take l.piece-index l.self.pieces.items) l.number
