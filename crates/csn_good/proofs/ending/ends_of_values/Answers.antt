use Rattle.std.proofs.Common.{◌*◌, ◌≤◌, arith}
use Rattle.std.proofs.Math.Nat.{mul-le-mul_right}
use Rattle.csn_good.proofs.ending.ends_of_values.Goals as goal

pub end_of_units-requires-clause-few : goal.end_of_units-requires-clause-few
end_of_units-requires-clause-few c =
    let small : c.args.m ≤ 255 = omega (arith, c.ranges.m.fits) in
    let product : c.args.m * c.loop-value.value ≤ 255 * c.loop-value.value = mul-le-mul_right c.loop-value.value small in
    let values = c.requires.values in
    omega (arith, product, values, c.loop-value-test.true, c.ranges.c.fits)
