-- What look-ahead does not refuse.
use Rattle.std.specs.Prelude.{◌≡◌, ℕ, false, List}
use Rattle.csn_desc.specs.Nodes.{DescV}
use Rattle.csn_certify.specs.declared.pick.Pick.{Pick}
use Rattle.csn_certify.specs.declared.pick.Pick.TheVariants.{Refuse}
use Rattle.csn_certify.specs.Picks.{Picks}

-- at the node and octet position, these bits
abbrev pub IsNotRefused : DescV → (node octet : ℕ) → List ℕ → Type 0
IsNotRefused d node octet held = (answer : Pick) × Picks d 12 node octet held false answer × ¬ (answer ≡ Refuse)
