use Rattle.std.proofs.Common.{◌+◌, ◌<◌, length, inl, inr, sym, ◌∙◌, arith, rules}
use Rattle.csn_lexer.proofs.Tails.{tail_after_byte, tail_after_pair, tail_stops, starts_rest, starts_within}
use Rattle.csn_lexer.proofs.words.next_in_word.Goals as goal
use Rattle.csn_lexer.proofs.words.next_in_word.Goals.{else-joins_pieces-via-then-joins_pieces+else-starts_alphanumeric}
use Rattle.csn_lexer.proofs.words.next_in_word.Goals.{else-joins_pieces-via-else-joins_pieces}

pub returns-then-goes_on_in_word : goal.returns-then-goes_on_in_word
returns-then-goes_on_in_word c =
    (omega arith, omega arith, λ m past within. tail_after_byte _ _ _ (omega arith) within (search rules))

pub returns-then-starts_alphanumeric : goal.returns-then-starts_alphanumeric
returns-then-starts_alphanumeric c =
    let starts = sym (starts_rest c.args.text.now (c.args.at + 1)) ∙ sym (c.if-starts_alphanumeric.ensures) in
    let inside : c.args.at + 1 < length c.args.text.now = starts_within _ _ starts in (
      omega arith,
      omega arith,
      λ m past within. tail_after_pair _ _ _ past within (sym c.if-joins_pieces.ensures) starts,
    )

pub returns : goal.returns
returns c = λ m below within.
    tail_stops _ _ _ below within (sym c.if-goes_on_in_word.ensures) (elim c.else-joins_pieces.branch [
      | else-joins_pieces-via-then-joins_pieces+else-starts_alphanumeric w ↦
          inr (sym (starts_rest c.args.text.now (c.args.at + 1)) ∙ sym w.if-starts_alphanumeric.ensures)
      | else-joins_pieces-via-else-joins_pieces w ↦ inl (sym w.if-joins_pieces.ensures)
    ])
