use Rattle.std.proofs.Common.{refl, sym, ◌∙◌, arith}
use Rattle.csn_replay.proofs.Heads.{missing_none, missing_is_on, block_goes_on, block_is_on, word_so_far, word_none, no_block, not_missing}
use Rattle.csn_replay.proofs.head.CaptureHead.take.Goals as goal

pub returns : goal.returns
returns c = record {
  head = λ line head. c.word_goes_on-head.ensures.head line (word_so_far c.in-Word.is c.replace-word.ensures.value head);
  block = λ line head.
      c.word_goes_on-head.ensures.block line (word_so_far c.in-Word.is c.replace-word.ensures.value head) ∙ sym (word_none line _ c.in-Word.is);
  within = c.word_goes_on-head.ensures.within;
  block_stays = λ entry is. absurd (no_block c.in-Word.is is);
  missing_stays = λ is. absurd (not_missing c.in-Word.is is);
}

pub returns-in-Block : goal.returns-in-Block
returns-in-Block c = record {
  head = λ line head. block_is_on c.args.self.now c.in-Block.field-0 line c.args.bytes.now c.in-Block.is head;
  block = λ line head. block_goes_on c.args.self.now c.in-Block.field-0 line c.args.bytes.now c.in-Block.is head;
  within = omega arith;
  block_stays = λ entry is. refl;
  missing_stays = λ is. refl;
}

pub returns-in-Missing : goal.returns-in-Missing
returns-in-Missing c = record {
  head = λ line head. missing_is_on c.args.self.now line c.args.bytes.now c.in-Missing.is head;
  block = λ line head. missing_none c.args.self.now line c.args.bytes.now c.in-Missing.is;
  within = omega arith;
  block_stays = λ entry is. refl;
  missing_stays = λ is. refl;
}
