use Rattle.std.proofs.Common.{◌≤◌, ◌^◌, arith}
use Rattle.std.proofs.Math.Nat.{pow-le-pow_right}
use Rattle.csn_look.proofs.key_products.words_of.Goals as goal

pub returns-clause-small : goal.returns-clause-small
returns-clause-small c =
    let power : 2 ^ c.args.size ≤ 4096 = pow-le-pow_right {n = 2} (omega arith) c.requires in omega arith
