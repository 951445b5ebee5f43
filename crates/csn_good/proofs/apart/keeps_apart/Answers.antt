use Rattle.std.proofs.Common.{◌↔◌, IsTrue, not}
use Rattle.csn_good.specs.Good.{KeepsApart}
use Rattle.csn_good.proofs.Arms.{along}
use Rattle.csn_good.proofs.SetArms.{tells}
use Rattle.csn_good.proofs.Conflicting.{not_told, is_false, choice_told, pad_apart, rest_apart, trunc_apart, pad_back}
use Rattle.csn_good.proofs.Conflicting.{rest_back, trunc_back, times_apart, times_back, many_apart, many_back}
use Rattle.csn_good.proofs.apart.keeps_apart.Goals as goal

pub returns-in-Pad : goal.returns-in-Pad
returns-in-Pad c =
    along (λ n. IsTrue (not c.something_follows.result) ↔ KeepsApart c.args.desc.now c.args.c.now c.args.i n)
    c.in-Pad.is (not_told c.something_follows.ensures
    (pad_apart c.args.desc.now c.args.c.now c.requires.certificate c.args.i)
    (pad_back c.args.desc.now c.args.c.now c.requires.certificate c.args.i))

pub returns-in-Rest : goal.returns-in-Rest
returns-in-Rest c =
    along (λ n. IsTrue (not c.something_follows-in-Rest.result) ↔ KeepsApart c.args.desc.now c.args.c.now c.args.i n)
    c.in-Rest.is (not_told c.something_follows-in-Rest.ensures
    (rest_apart c.args.desc.now c.args.c.now c.requires.certificate c.args.i)
    (rest_back c.args.desc.now c.args.c.now c.requires.certificate c.args.i))

pub returns-in-Trunc : goal.returns-in-Trunc
returns-in-Trunc c =
    along (λ n. IsTrue (not c.something_follows-in-Trunc.result) ↔ KeepsApart c.args.desc.now c.args.c.now c.args.i n)
    c.in-Trunc.is (not_told c.something_follows-in-Trunc.ensures
    (trunc_apart c.args.desc.now c.args.c.now c.requires.certificate c.args.i c.in-Trunc.field-0)
    (trunc_back c.args.desc.now c.args.c.now c.requires.certificate c.args.i c.in-Trunc.field-0))

pub returns-in_ok-choice_is_apart-in-Choice : goal.returns-in_ok-choice_is_apart-in-Choice
returns-in_ok-choice_is_apart-in-Choice c =
    along (λ n. IsTrue c.in_ok-choice_is_apart-in-Choice.field-0 ↔ KeepsApart c.args.desc.now c.args.c.now c.args.i n)
    c.in-Choice.is (tells c.in_ok-choice_is_apart-in-Choice.ensures
    (choice_told c.args.desc.now c.args.c.now c.requires.certificate c.args.i c.in-Choice.parts))

pub returns-in-Times : goal.returns-in-Times
returns-in-Times c = along (λ n. IsTrue (not c.nullable.result) ↔ KeepsApart c.args.desc.now c.args.c.now c.args.i n)
    c.in-Times.is
    (is_false c.nullable.ensures (times_apart c.args.desc.now c.args.c.now c.requires.certificate c.args.i
    c.in-Times.count c.in-Times.part) (times_back c.args.desc.now c.args.c.now c.requires.certificate c.args.i
    c.in-Times.count c.in-Times.part))

pub returns-then-is_firm : goal.returns-then-is_firm
returns-then-is_firm c =
    along (λ n. IsTrue (not c.turns_clash.result) ↔ KeepsApart c.args.desc.now c.args.c.now c.args.i n) c.in-Many.is
    (not_told c.turns_clash.ensures
    (many_apart c.args.desc.now c.args.c.now c.requires.certificate c.args.i c.in-Many.part (c.is_firm.ensures.0 c.if-is_firm.true))
    (λ keeps. (many_back c.args.desc.now c.args.c.now c.requires.certificate c.args.i c.in-Many.part keeps).1))

pub returns-else-is_firm : goal.returns-else-is_firm
returns-else-is_firm c =
    along (λ n. IsTrue c.is_firm.result ↔ KeepsApart c.args.desc.now c.args.c.now c.args.i n) c.in-Many.is (
      (λ h. let wrong = c.if-is_firm.false in absurd (cc)),
      (λ keeps. c.is_firm.ensures.1 (many_back c.args.desc.now c.args.c.now c.requires.certificate c.args.i c.in-Many.part keeps).0),
    )
