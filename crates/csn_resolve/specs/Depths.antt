-- Why a walk ends: it goes deeper, or into a smaller part. No public clause cites it.
use Rattle.std.specs.Prelude.{ℕ, ◌+◌, ◌-◌, ◌*◌, [], ◌∷◌, max}
use Rattle.csn_grammar.specs.RulesV.{RulesV}
use Rattle.csn_grammar.specs.ExprCode.{expr_size}

-- the greatest size of what a rule says
abbrev pub deepest : RulesV → ℕ
deepest [] = 0
deepest (rule ∷ rules) = max (expr_size rule.body) (deepest rules)

-- what is left to walk at this depth of a part of this size
abbrev pub left : RulesV → ℕ → ℕ → ℕ
left rules depth size = (deepest rules + 2) * (65 - depth) + size
