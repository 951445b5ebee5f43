-- What `csn_cli check` answers of a rule of a text.
use Rattle.std.specs.Prelude.{◌≡◌, ℕ, ◌⊎◌, List}
use Rattle.csn_desc.specs.declared.reading.Reading.{Reading}
use Rattle.csn_desc.specs.Nodes.{DescV}
use Rattle.csn_grammar.specs.RulesV.{RulesV}
use Rattle.csn_plan.specs.Compiled.{IsCompiled, HasNoPlan, certified_line}
use Rattle.csn_plan.specs.declared.ended.Ended.{Ended}
use Rattle.csn_plan.specs.declared.ended.Ended.TheVariants.{Done}

-- the line is that of a certified description, or that of the reason why the rule has none
abbrev pub IsAnswer : List ℕ → List ℕ → Reading → List ℕ → Ended → Type 0
IsAnswer text name reading line ended =
    ((rules : RulesV) × (d : DescV) × IsCompiled text name reading rules d × (line ≡ certified_line d) × (ended ≡ Done))
    ⊎ HasNoPlan text name reading line ended
