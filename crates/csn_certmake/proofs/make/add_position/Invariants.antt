use Rattle.std.proofs.Common.{◌≡◌, take}
use Rattle.csn_cert.specs.Growing.{with_position}
use Rattle.csn_certmake.proofs.make.add_position.Given as goal

abbrev pub invariant-loop-pattern : goal.invariant-loop-pattern
invariant-loop-pattern l =
    l.c ≡ with_position (record { octet = l.octet; ends = l.ends; start = l.start; patterns = take l.pattern-index l.patterns }) l.fn.c
