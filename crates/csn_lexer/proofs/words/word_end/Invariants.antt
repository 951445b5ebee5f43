use Rattle.std.proofs.Common.{◌≡◌, ℕ, ◌≤◌, ◌-◌, length, slice_range}
use Rattle.csn_lexer.specs.Word.{is_word_tail}
use Rattle.csn_lexer.proofs.words.word_end.Given as goal

abbrev pub invariant-loop-next : goal.invariant-loop-next
invariant-loop-next l = record {
  from : l.at ≤ l.end;
  within : l.end ≤ length l.text;
  same : (m : ℕ) → l.end ≤ m → m ≤ length l.text → is_word_tail (slice_range l.text l.at m) ≡ is_word_tail (slice_range l.text l.end m);
}

abbrev pub decreases-loop-next : goal.decreases-loop-next
decreases-loop-next l = length l.initial.text - l.end
