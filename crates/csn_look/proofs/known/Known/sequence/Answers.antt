use Rattle.std.proofs.Common.{drop, List, ℕ, sym, subst}
use Rattle.csn_look.proofs.Sets.Telling.{PartsSetsAre, last_none, last_all, last_more}
use Rattle.csn_look.proofs.Sets.LeavesTell.{no_parts}
use Rattle.csn_look.proofs.Sets.PartsTell.{more_parts, seq_sets}
use Rattle.csn_look.proofs.known.Known.sequence.Goals as goal

pub loop-at-init : goal.loop-at-init
loop-at-init c =
    let d = c.args.self.now.desc.now in
    let none = c.no_bits-sets.ensures in
    subst (λ (ps : List ℕ). PartsSetsAre d ps c.no_bits-sets.result) (sym (last_none c.args.parts.now c.len-at.result c.len-at.ensures.len))
    (no_parts d c.no_bits-sets.result (record {
      nullable = none.nullable;
      whole_empty = none.whole_empty;
      cut_empty =
          none.cut_empty;
      lengths = none.lengths;
      zero = none.zero;
      one = none.one;
    }))

pub loop-at-preserved : goal.loop-at-preserved
loop-at-preserved c =
    let d = c.args.self.now.desc.now in
    let then = c.then-sets.ensures in
    subst (λ (ps : List ℕ). PartsSetsAre d ps c.then-sets.result)
    (sym (last_more c.args.parts.now c.loop-at.at c.get.result c.loop-at-test.true c.get.ensures))
    (more_parts d c.get.result (drop c.loop-at.at c.args.parts.now) c.of.result c.loop-at.sets c.then-sets.result c.of.ensures c.loop-at.invariant
    (record {
      nullable = then.nullable;
      whole_empty = then.whole_empty;
      cut_empty = then.cut_empty;
      lengths =
          then.lengths;
      zero = then.zero;
      one = then.one;
    }))

pub returns : goal.returns
returns c =
    let d = c.args.self.now.desc.now in
    seq_sets d c.args.parts.now c.loop-at.sets
    (subst (λ (ps : List ℕ). PartsSetsAre d ps c.loop-at.sets) (last_all c.args.parts.now c.loop-at.at c.loop-at-test.false) c.loop-at.invariant)
