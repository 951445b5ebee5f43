use Rattle.std.proofs.Common.{refl}
use Rattle.csn_look.proofs.Sets.Telling.{same_fact, either, together, zero_test, some_test}
use Rattle.csn_look.proofs.Sets.RepetitionsTell.{fixed_times, counted_times}
use Rattle.csn_look.proofs.known.Known.times.Goals as goal

pub returns-in-Fixed : goal.returns-in-Fixed
returns-in-Fixed c =
    fixed_times c.args.self.now.desc.now c.args.count c.in-Fixed.n c.args.part c.of-once.result _ c.in-Fixed.is c.of-once.ensures
    refl (either same_fact (zero_test c.in-Fixed.n)) (together same_fact (some_test c.in-Fixed.n)) c.times.ensures refl refl

pub returns-in-Counted : goal.returns-in-Counted
returns-in-Counted c =
    counted_times c.args.self.now.desc.now c.args.count c.in-Counted.m c.in-Counted.field c.in-Counted.c c.args.part
    c.of-once.result _ c.in-Counted.is c.of-once.ensures
    (either same_fact (zero_test c.in-Counted.c)) refl refl c.repeated.ensures refl refl
