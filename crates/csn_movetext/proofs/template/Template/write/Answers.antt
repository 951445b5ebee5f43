use Rattle.std.proofs.Common.{ℕ, List, ◌++◌, take, length, ap, sym, ◌∙◌, append_assoc, arith}
use Rattle.std.proofs.lemmas.List.{take_all}
use Rattle.csn_movetext.specs.declared.template.Piece.{Piece}
use Rattle.csn_movetext.specs.Templates.{piece_text, pieces_text}
use Rattle.csn_movetext.proofs.Octets.{extends_then, on_ok}
use Rattle.csn_movetext.proofs.TemplateFacts.{pieces-next, read_piece}
use Rattle.csn_movetext.proofs.template.Template.write.Goals as goal

pub loop-piece-preserved : goal.loop-piece-preserved
loop-piece-preserved c =
    let pieces : List Piece = c.args.self.now.pieces.items in
    let k : ℕ = c.loop-piece.piece-index in
    let there = read_piece c.deref-piece-items.result.now pieces k c.piece-item.result
    c.deref-piece-items.ensures.value c.loop-piece-test.true c.piece-item.is in
    c.in_ok-write.ensures.text
    ∙ ap (λ l. l ++ piece_text c.piece-item.result c.args.number) c.loop-piece.invariant
    ∙ append_assoc c.args.out.now.items (pieces_text (take k pieces) c.args.number) (piece_text c.piece-item.result c.args.number)
    ∙ ap (λ l. c.args.out.now.items ++ l) (sym (pieces-next pieces k c.piece-item.result c.args.number there))

pub returns-in_err-write-clause-extends : goal.returns-in_err-write-clause-extends
returns-in_err-write-clause-extends c = extends_then _ _ _ (_, c.loop-piece.invariant) c.in_err-write.ensures.extends

pub returns-clause-extends : goal.returns-clause-extends
returns-clause-extends c = extends_then _ _ _ (_, c.loop-piece.invariant) c.push_text.ensures.extends

pub returns-clause-text : goal.returns-clause-text
returns-clause-text c =
    let before : List ℕ = c.args.out.now.items in
    let pieces : List Piece = c.args.self.now.pieces.items in
    let k : ℕ = c.loop-piece.piece-index in
    let tail : List ℕ = c.as_slice.result.now in
    let all = take_all k pieces (omega (arith, c.loop-piece-test.false, ap length c.deref-piece-items.ensures.value)) in
    on_ok c.push_text.result (λ wrote.
    wrote ∙ ap (λ l. l ++ tail) c.loop-piece.invariant ∙ append_assoc before (pieces_text (take k pieces) c.args.number) tail
    ∙ ap (λ ps. before ++ (pieces_text ps c.args.number ++ tail)) all
    ∙ ap (λ l. before ++ (pieces_text pieces c.args.number ++ l)) c.as_slice.ensures.value) c.push_text.ensures.text
