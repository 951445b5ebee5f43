-- Facts about what is left to walk.
use Rattle.std.proofs.Common.{◌≡◌, ℕ, zero, suc, ◌+◌, ◌-◌, ◌*◌, ◌<◌, ◌≤◌, [], ◌∷◌, slice_get, Some, ap, arith}
use Rattle.std.proofs.Math.Nat.{mul-le-mul_left}
use Rattle.csn_grammar.specs.declared.rules.Rule.{Rule}
use Rattle.csn_grammar.specs.RulesV.{RulesV}
use Rattle.csn_grammar.specs.ExprCode.{expr_size}
use Rattle.csn_resolve.specs.Depths.{deepest, left}

pub in_deepest : (rules : RulesV) (k : ℕ) (rule : Rule) → slice_get rules k ≡ Some rule → expr_size rule.body ≤ deepest rules
in_deepest [] k rule h = absurd (cc)
in_deepest (other ∷ rules) zero rule h =
    let same : other ≡ rule = cc in
    let sizes : expr_size other.body ≡ expr_size rule.body = ap (λ z. expr_size z.body) same in omega arith
in_deepest (other ∷ rules) (suc k) rule h = let inner : expr_size rule.body ≤ deepest rules = in_deepest rules k rule h in omega arith

-- deeper, no more is left
pub deeper : (rules : RulesV) (d e s : ℕ) → d ≤ e → left rules e s ≤ left rules d s
deeper rules d e s more =
    let fewer : 65 - e ≤ 65 - d = omega (arith, more) in
    let product : (deepest rules + 2) * (65 - e) ≤ (deepest rules + 2) * (65 - d) = mul-le-mul_left (deepest rules + 2) fewer in
    omega (arith, product)

-- and there is room for a rule
pub entered : (rules : RulesV) (d s : ℕ) → d < 65 → s ≤ deepest rules → left rules (d + 1) s + 2 ≤ left rules d 0
entered rules d s few small =
    let step : 65 - d ≡ suc (65 - (d + 1)) = omega (arith, few) in
    let product : (deepest rules + 2) * (65 - d) ≡ (deepest rules + 2) * suc (65 - (d + 1)) = ap (λ k. (deepest rules + 2) * k) step in
    omega (arith, product, small)
