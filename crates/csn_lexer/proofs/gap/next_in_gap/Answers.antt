use Rattle.std.proofs.Common.{refl, sym, arith}
use Rattle.csn_lexer.specs.Gap.IsGap.{none, separator, comment}
use Rattle.csn_lexer.proofs.Gaps.{comment_gap}
use Rattle.csn_lexer.proofs.gap.next_in_gap.Goals as goal

pub returns-then-is_separator-clause-some : goal.returns-then-is_separator-clause-some
returns-then-is_separator-clause-some c =
    (omega arith, omega arith, separator c.requires (sym c.if-is_separator.ensures) (none refl))

pub returns-then-begins_comment-clause-some : goal.returns-then-begins_comment-clause-some
returns-then-begins_comment-clause-some c =
    let whole = comment_gap c.args.text.now c.args.at c.line_end.result c.requires (c.if-begins_comment.ensures.0 refl)
    c.line_end.ensures.from c.line_end.ensures.within c.line_end.ensures.line c.line_end.ensures.ends in
    (whole.forward, whole.within, comment whole (none refl))
