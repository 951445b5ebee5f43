-- Heads and counts that are well formed where the next node begins.
use Rattle.std.specs.Prelude.{ℕ, IsTrue, List, Contains}
use Rattle.csn_desc.specs.declared.node.Count.{Count}
use Rattle.csn_desc.specs.Formed.{IsCount}
use Rattle.csn_desc.specs.Building.{BuilderV, is_shown}

pub record IsNextCount (b : BuilderV) (count : Count) : Type 0 where
  pub seen : List ℕ
  pub shown : (field : ℕ) → Contains seen field → IsTrue (is_shown b.nodes b.around field)
  pub well_formed : IsCount b.nodes seen count
