use Rattle.std.proofs.Common.{List, subst, arith}
use Rattle.csn_desc.proofs.Numbering.{span_grows}
use Rattle.csn_compat.specs.declared.pairs.Pair.{Pair}
use Rattle.csn_compat.specs.Takes.{Takes}
use Rattle.csn_compat.proofs.Taken.{blocks_taken}
use Rattle.csn_compat.proofs.comparing.compat.Goals as goal

pub prove-unreachable-requires : goal.prove-unreachable-requires
prove-unreachable-requires c =
    let some = span_grows c.args.was.now.nodes c.len-old.ensures.description.numbered in
    omega (arith, some, c.len-old.ensures.len, c.if-prove.true)

pub prove-unreachable-requires-2 : goal.prove-unreachable-requires-2
prove-unreachable-requires-2 c =
    let some = span_grows c.args.now.now.nodes c.len-new.ensures.description.numbered in
    omega (arith, some, c.len-new.ensures.len, c.if-prove-2.true)

pub returns-clause-strings : goal.returns-clause-strings
returns-clause-strings c e =
    let P : List Pair → Type 0 = λ pairs. Takes c.args.was.now c.args.now.now 0 0 pairs in
    blocks_taken c.args.was.now c.args.now.now c.len-old.ensures.description c.len-new.ensures.description
    c.requires.one_reading (subst P c.new.ensures (c.takes.ensures.takes.0 e))
