use Rattle.std.proofs.Common.{arith}
use Rattle.csn_good.specs.Numbers.{pattern_of}
use Rattle.csn_good.proofs.Numbered.{joint}
use Rattle.csn_good.proofs.pattern_set.joined.Goals as goal

pub overflow_mul-result : goal.overflow_mul-result
overflow_mul-result c =
    let told = joint c.args.first (pattern_of c.args.rest) c.args.own c.cut_number-cut.result c.power_of-power.result c.len-size.result
    c.requires.own c.len-size.ensures.count c.len-size.ensures.few c.power_of-power.ensures.power
    c.cut_number-cut.ensures.number c.cut_number-cut.ensures.pattern in
    omega (arith, told.product)

pub overflow_add-result : goal.overflow_add-result
overflow_add-result c =
    let told = joint c.args.first (pattern_of c.args.rest) c.args.own c.cut_number-cut.result c.power_of-power.result c.len-size.result
    c.requires.own c.len-size.ensures.count c.len-size.ensures.few c.power_of-power.ensures.power
    c.cut_number-cut.ensures.number c.cut_number-cut.ensures.pattern in
    omega (arith, told.sum)

pub overflow_mul-result-2 : goal.overflow_mul-result-2
overflow_mul-result-2 c =
    let told = joint c.args.first (pattern_of c.args.rest) c.args.own c.cut_number-cut.result c.power_of-power.result c.len-size.result
    c.requires.own c.len-size.ensures.count c.len-size.ensures.few c.power_of-power.ensures.power
    c.cut_number-cut.ensures.number c.cut_number-cut.ensures.pattern in
    omega (arith, told.double)

pub overflow_add-result-2 : goal.overflow_add-result-2
overflow_add-result-2 c =
    let told = joint c.args.first (pattern_of c.args.rest) c.args.own c.cut_number-cut.result c.power_of-power.result c.len-size.result
    c.requires.own c.len-size.ensures.count c.len-size.ensures.few c.power_of-power.ensures.power
    c.cut_number-cut.ensures.number c.cut_number-cut.ensures.pattern in
    omega (arith, told.both)

pub returns-clause-pattern : goal.returns-clause-pattern
returns-clause-pattern c =
    let told = joint c.args.first (pattern_of c.args.rest) c.args.own c.cut_number-cut.result c.power_of-power.result c.len-size.result
    c.requires.own c.len-size.ensures.count c.len-size.ensures.few c.power_of-power.ensures.power
    c.cut_number-cut.ensures.number c.cut_number-cut.ensures.pattern in
    told.pattern

pub returns-clause-number : goal.returns-clause-number
returns-clause-number c =
    let told = joint c.args.first (pattern_of c.args.rest) c.args.own c.cut_number-cut.result c.power_of-power.result c.len-size.result
    c.requires.own c.len-size.ensures.count c.len-size.ensures.few c.power_of-power.ensures.power
    c.cut_number-cut.ensures.number c.cut_number-cut.ensures.pattern in
    told.number
