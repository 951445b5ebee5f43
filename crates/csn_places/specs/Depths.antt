-- Why a walk ends: fewer names may be put in, or it goes into a smaller part. No public clause cites it.
use Rattle.std.specs.Prelude.{ℕ, ◌+◌, ◌*◌}
use Rattle.csn_grammar.specs.RulesV.{RulesV}
use Rattle.csn_resolve.specs.Depths.{deepest}

-- what is left to walk where so many names may be put in, of a part of this size
abbrev pub left_of : RulesV → ℕ → ℕ → ℕ
left_of rules left size = (deepest rules + 2) * left + size
