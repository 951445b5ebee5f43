use Rattle.std.proofs.Common.{◌/◌, sym, subst, ap, ◌∙◌, arith}
use Rattle.std.specs.Ordering.{nat_cmp}
use Rattle.std.specs.FinSet as set
use Rattle.csn_look.proofs.Basics.Octets.{Folds, only_zero, numbers_are, fold_even, fold_odd, fold_end}
use Rattle.csn_look.proofs.octet_set.OctetSet.times.Goals as goal
use Rattle.csn_look.proofs.octet_set.OctetSet.times.Goals.{then-left-eq1, else-left-eq1}

pub loop-left-init : goal.loop-left-init
loop-left-init c =
    record {
      done = 0;
      unit = 1;
      sums_are = only_zero c.args.self c.with-sums.result (c.with-sums.ensures ∙ ap (λ s. set.insert s 0) c.empty.ensures);
      each_are = numbers_are c.args.self;
      total = omega arith;
    }

pub loop-left-preserved : goal.loop-left-preserved
loop-left-preserved c =
    let P : set.FinSet nat_cmp → Type 0 = λ s. Folds c.args.self c.args.n (c.loop-left.left / 2) s c.plus-each.result in
    elim c.if-left-eq1.branch [
      | then-left-eq1 w ↦
          subst P (sym w.sums-is)
          (fold_odd c.args.self c.loop-left.sums c.loop-left.each w.plus-sums.result c.plus-each.result c.args.n
          c.loop-left.left c.loop-left.invariant w.if-left-eq1.true w.plus-sums.ensures c.plus-each.ensures)
      | else-left-eq1 w ↦
          subst P (sym w.sums-is)
          (fold_even c.args.self c.loop-left.sums c.loop-left.each c.plus-each.result c.args.n c.loop-left.left
          c.loop-left.invariant w.if-left-eq1.false c.plus-each.ensures)
    ]

pub returns : goal.returns
returns c = fold_end c.args.self c.loop-left.sums c.loop-left.each c.args.n c.loop-left.left c.loop-left.invariant (omega arith)
