use Rattle.std.proofs.Common.{Ok, refl, sym, ap, ◌∙◌, subst}
use Rattle.csn_grammar.proofs.Run.{ends}
use Rattle.std.proofs.lemmas.Result.{err_from_is_err_and}
use Rattle.csn_lexer.specs.Cursor.{Cursor}
use Rattle.csn_grammar.proofs.Reading.{IsRead, read_none, read_more}
use Rattle.csn_grammar.proofs.Answering.{says_byte, says_end, says_token, shaped_end, next_of, moves_of}
use Rattle.csn_grammar.proofs.read.read_rules.Goals as goal

pub tokens-init : goal.tokens-init
tokens-init c =
    record {
      text = ap (λ (l : Cursor). l.text) c.new-lexer.ensures;
      read = rw (c.new-lexer.ensures, c.new-reader.ensures) (read_none c.args.text.now);
    }

pub returns-in_err-reader-in-Ok-Some-clause-none : goal.returns-in_err-reader-in-Ok-Some-clause-none
returns-in_err-reader-in-Ok-Some-clause-none c =
    let p = err_from_is_err_and c.from_residual.result c.from_residual.ensures.1 in
    let next = next_of c.tokens.lexer.place c.tokens.invariant.text (c.in-Ok-Some.is ∙ ap (λ o. Ok o) c.in-Ok-Some.field-0-is) c.next.ensures.next in
    rw (p.1, p.2)
    ((says_token c.one_thing_is_next.ensures.one c.in-Ok-Some.token c.in_err-reader-in-Ok-Some.field-0.0
    c.tokens.invariant.read next c.in_err-reader-in-Ok-Some.ensures).none)

pub returns-in_err-reader-in-Ok-Some-clause-place : goal.returns-in_err-reader-in-Ok-Some-clause-place
returns-in_err-reader-in-Ok-Some-clause-place c =
    let p = err_from_is_err_and c.from_residual.result c.from_residual.ensures.1 in
    let next = next_of c.tokens.lexer.place c.tokens.invariant.text (c.in-Ok-Some.is ∙ ap (λ o. Ok o) c.in-Ok-Some.field-0-is) c.next.ensures.next in
    rw (p.1, p.2)
    ((says_token c.one_thing_is_next.ensures.one c.in-Ok-Some.token c.in_err-reader-in-Ok-Some.field-0.0
    c.tokens.invariant.read next c.in_err-reader-in-Ok-Some.ensures).place)

pub tokens-preserved : goal.tokens-preserved
tokens-preserved c =
    let is = c.in-Ok-Some.is ∙ ap (λ o. Ok o) c.in-Ok-Some.field-0-is in
    let next = next_of c.tokens.lexer.place c.tokens.invariant.text is c.next.ensures.next in
    let moves = moves_of c.next.new.self.place c.in-Ok-Some.token is c.next.ensures.moves in
    record {
      text = c.next.ensures.text ∙ c.tokens.invariant.text;
      read = subst (λ n. IsRead c.args.text.now n c.in_ok-reader-in-Ok-Some.reader) (sym moves)
          (read_more c.in-Ok-Some.token c.in_ok-reader-in-Ok-Some.reader c.tokens.invariant.read next c.in_ok-reader-in-Ok-Some.ensures);
    }

pub returns-in-Ok-None-clause-rules : goal.returns-in-Ok-None-clause-rules
returns-in-Ok-None-clause-rules c =
    let next = next_of c.tokens.lexer.place c.tokens.invariant.text (c.in-Ok-None.is ∙ ap (λ o. Ok o) c.in-Ok-None.field-0-is) c.next.ensures.next in
    (says_end c.one_thing_is_next.ensures.one c.finish.result c.tokens.invariant.read next c.finish.ensures).rules

pub returns-in-Ok-None-clause-none : goal.returns-in-Ok-None-clause-none
returns-in-Ok-None-clause-none c =
    let next = next_of c.tokens.lexer.place c.tokens.invariant.text (c.in-Ok-None.is ∙ ap (λ o. Ok o) c.in-Ok-None.field-0-is) c.next.ensures.next in
    (says_end c.one_thing_is_next.ensures.one c.finish.result c.tokens.invariant.read next c.finish.ensures).none

pub returns-in-Ok-None-clause-place : goal.returns-in-Ok-None-clause-place
returns-in-Ok-None-clause-place c =
    let next = next_of c.tokens.lexer.place c.tokens.invariant.text (c.in-Ok-None.is ∙ ap (λ o. Ok o) c.in-Ok-None.field-0-is) c.next.ensures.next in
    (says_end c.one_thing_is_next.ensures.one c.finish.result c.tokens.invariant.read next c.finish.ensures).place

pub returns-in-Err-clause-none : goal.returns-in-Err-clause-none
returns-in-Err-clause-none c =
    (says_byte c.one_thing_is_next.ensures.one c.in-Err.fault c.tokens.invariant.read
    (next_of c.tokens.lexer.place c.tokens.invariant.text c.in-Err.is c.next.ensures.next)).none

pub returns-in-Err-clause-place : goal.returns-in-Err-clause-place
returns-in-Err-clause-place c =
    (says_byte c.one_thing_is_next.ensures.one c.in-Err.fault c.tokens.invariant.read
    (next_of c.tokens.lexer.place c.tokens.invariant.text c.in-Err.is c.next.ensures.next)).place

pub finish-requires : goal.finish-requires
finish-requires c = record {
  shaped = shaped_end (ends c.tokens.reader) c.tokens.invariant.read
      (next_of c.tokens.lexer.place c.tokens.invariant.text (c.in-Ok-None.is ∙ ap (λ o. Ok o) c.in-Ok-None.field-0-is) c.next.ensures.next) refl;
}

pub returns-in-Ok-None-clause-shaped : goal.returns-in-Ok-None-clause-shaped
returns-in-Ok-None-clause-shaped c =
    let next = next_of c.tokens.lexer.place c.tokens.invariant.text (c.in-Ok-None.is ∙ ap (λ o. Ok o) c.in-Ok-None.field-0-is) c.next.ensures.next in
    (says_end c.one_thing_is_next.ensures.one c.finish.result c.tokens.invariant.read next c.finish.ensures).shaped
