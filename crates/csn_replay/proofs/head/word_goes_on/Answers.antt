use Rattle.std.proofs.Common.{◌≡◌, ◌<◌, ◌≤◌, ◌+◌, ◌++◌, length, take, drop, sym, ap, ◌∙◌, arith, rules}
use Rattle.std.proofs.lemmas.List.{length-append}
use Rattle.csn_catalogue.specs.Entries.{entry_word}
use Rattle.csn_replay.proofs.Heads.{word_short, still_clear, space_missing, split_word, other_word, none_left, block_behind}
use Rattle.csn_replay.proofs.head.word_goes_on.Goals as goal

pub returns-then-is_err : goal.returns-then-is_err
returns-then-is_err c = record {
  head = λ line word more entry at.
      let full : length c.args.word.items + length c.args.bytes.now ≤ 8 → ⊥ =
      λ fits. (let took = c.try_extend_from_slice.ensures.variant.1 fits in search rules) in
      let longer : length (entry_word entry) < length (line ++ c.args.bytes.now) =
      omega (arith, full, word_short entry, ap length word.0, length-append line c.args.bytes.now) in
      space_missing (line ++ c.args.bytes.now) more entry at (still_clear line c.args.bytes.now word.1 c.in_default.ensures) longer;
  block = λ line word. none_left c.args.bytes.now;
  within = omega arith;
}

pub returns-in_default : goal.returns-in_default
returns-in_default c = record {
  head = λ line word.
      let kept : c.try_extend_from_slice.new.self.items ≡ c.args.word.items ++ c.args.bytes.now = search rules in
      (ap (λ text. text ++ c.args.bytes.now) word.0 ∙ sym kept, still_clear line c.args.bytes.now word.1 c.in_default.ensures);
  block = λ line word. none_left c.args.bytes.now;
  within = omega arith;
}

pub returns-in-Some-entry_of_parts : goal.returns-in-Some-entry_of_parts
returns-in-Some-entry_of_parts c =
    let end = c.in-Some.word_end in
    let entry = c.in-Some-entry_of_parts.entry in
    record {
      head = λ line word. (
        drop (end + 1) c.args.bytes.now,
        split_word line _ _ end entry word.0
            c.in-Some.ensures.0.high c.in-Some.ensures.1 c.in-Some-entry_of_parts.ensures.its_word,
      );
      block = λ line word. block_behind entry _ _
          (split_word line _ _ end entry word.0 c.in-Some.ensures.0.high c.in-Some.ensures.1
          c.in-Some-entry_of_parts.ensures.its_word);
      within = omega (arith, c.in-Some.ensures.0.high);
    }

pub returns-in-None : goal.returns-in-None
returns-in-None c = record {
  head = λ line word more entry at.
      other_word line c.args.bytes.now more c.in-Some.word_end entry at word.1 c.in-Some.ensures.0 c.in-Some.ensures.1 (λ same.
      let found = c.in-None.ensures.of_each_word entry (ap (λ text. text ++ take c.in-Some.word_end c.args.bytes.now) (sym word.0) ∙ same) in cc);
  block = λ line word. none_left c.args.bytes.now;
  within = omega arith;
}
