use Rattle.std.proofs.Common.{ℕ, ◌/◌, ◌^◌, List, ◌++◌, take, length, ap, ◌∙◌, append_assoc, arith}
use Rattle.std.proofs.lemmas.List.{take_all}
use Rattle.csn_movetext.specs.declared.template.Piece.{Piece}
use Rattle.csn_movetext.specs.Templates.{filled, pieces_text}
use Rattle.csn_movetext.proofs.TemplateFacts.{piece_added, read_piece}
use Rattle.csn_movetext.proofs.template.Template.push_part.Goals as goal

pub loop-piece-preserved : goal.loop-piece-preserved
loop-piece-preserved c =
    let pieces : List Piece = c.args.part.now.pieces.items in
    let k : ℕ = c.loop-piece.piece-index in
    let there = read_piece c.deref-piece-items.result.now pieces k c.piece-item.result
    c.deref-piece-items.ensures.value c.loop-piece-test.true c.piece-item.is in
    λ number.
    piece_added c.args.self.now c.loop-piece.self c.push_text.new.self c.push_field.new.self pieces k
    c.piece-item.result c.as_slice.result.now c.args.behind number
    there c.as_slice.ensures.value (c.in_ok-push_text.ensures number) (c.in_ok-push_field.ensures number) (c.loop-piece.invariant number)

pub returns : goal.returns
returns c = λ yes number.
    let pieces : List Piece = c.args.part.now.pieces.items in
    let k : ℕ = c.loop-piece.piece-index in
    let before : List ℕ = filled c.args.self.now number in
    let tail : List ℕ = c.as_slice-2.result.now in
    let own : ℕ = number / 2 ^ c.args.behind in
    let all = take_all k pieces (omega (arith, c.loop-piece-test.false, ap length c.deref-piece-items.ensures.value)) in
    c.in_ok-push_text-2.ensures number ∙ ap (λ l. l ++ tail) (c.loop-piece.invariant number) ∙ append_assoc before (pieces_text (take k pieces) own) tail
    ∙ ap (λ ps. before ++ (pieces_text ps own ++ tail)) all
    ∙ ap (λ l. before ++ (pieces_text pieces own ++ l)) c.as_slice-2.ensures.value
