use Rattle.std.proofs.Common.{◌≡◌, ◌<◌, true, false, subst, arith}
use Rattle.std.proofs.lemmas.Bool.Decides.{nat_tests}
use Rattle.csn_look.specs.declared.marks.Sought.{Sought}
use Rattle.csn_look.specs.Full.{is_sought}
use Rattle.csn_look.proofs.Tables.FullFacts.{as_wanted, not_wanted}
use Rattle.csn_look.proofs.full.are_all.Goals as goal

pub returns-clause-all : goal.returns-clause-all
returns-clause-all c = λ yes at from below.
    let same : c.next_sought.result ≡ c.args.end = grind (arith, nat_tests, yes) in
    as_wanted c.args.keys c.args.table.now at
    (subst (λ (s : Sought). is_sought s c.args.table.now at ≡ false) c.sought_against.ensures
    (c.next_sought.ensures.none at from (omega (arith, below, same))))

pub returns-clause-other : goal.returns-clause-other
returns-clause-other c = λ no.
    let found = c.next_sought.result in
    let less : found < c.args.end = grind (arith, nat_tests, no, c.next_sought.ensures.high) in (
      found,
      c.next_sought.ensures.low,
      less,
      not_wanted c.args.keys c.args.table.now found (subst (λ (s : Sought). is_sought s c.args.table.now found ≡ true)
          c.sought_against.ensures (c.next_sought.ensures.here less)),
    )
