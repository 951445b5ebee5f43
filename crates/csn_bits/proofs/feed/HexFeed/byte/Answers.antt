use Rattle.std.proofs.Common.{ℕ, ◌+◌, Option, is_some, sym, ap, ◌∙◌, arith}
use Rattle.std.proofs.lemmas.List.{length_push}
use Rattle.csn_bits.proofs.Feeding.{given_after, holds_after}
use Rattle.csn_bits.proofs.feed.HexFeed.byte.Goals as goal
use Rattle.csn_bits.proofs.feed.HexFeed.byte.Goals.{in_default-via-in-Some+else-is_digits, in_default-via-in_default}

pub returns-in-Some-clause-fed : goal.returns-in-Some-clause-fed
returns-in-Some-clause-fed c =
    λ line fed. record {
      seen = c.digit.ensures.seen ∙ (let n = fed.seen in omega (arith, length_push line c.args.byte));
      keeps = c.digit.ensures.keeps line c.args.byte fed.keeps (sym c.in-Some.ensures.value);
    }

pub returns-in-Some-clause-given : goal.returns-in-Some-clause-given
returns-in-Some-clause-given c =
    λ line fed. c.digit.ensures.given line c.args.byte fed.keeps (sym c.in-Some.ensures.value) (ap (λ n. n + 1) fed.seen)

pub returns-in_default-clause-given : goal.returns-in_default-clause-given
returns-in_default-clause-given c =
    λ line fed. given_after line _ _ _ _ fed.keeps (λ is. elim c.in_default.branch [
      | in_default-via-in-Some+else-is_digits w ↦ absurd (let wrong = w.if-is_digits.ensures.1 is in cc)
      | in_default-via-in_default w ↦ sym (ap (λ (o : Option ℕ). is_some o) w.in_default.ensures.value)
    ])

pub returns-in_default-clause-fed : goal.returns-in_default-clause-fed
returns-in_default-clause-fed c =
    λ line fed. record {
      seen = (let n = fed.seen in omega (arith, length_push line c.args.byte));
      keeps = rw c.after-self.ensures (holds_after line _ _ _ _ _ fed.keeps fed.seen (λ is. elim c.in_default.branch [
        | in_default-via-in-Some+else-is_digits w ↦ absurd (let wrong = w.if-is_digits.ensures.1 is in cc)
        | in_default-via-in_default w ↦ sym (ap (λ (o : Option ℕ). is_some o) w.in_default.ensures.value)
      ]));
    }
