-- What a count tells without its field.
use Rattle.std.specs.Prelude.{ℕ}
use Rattle.csn_desc.specs.declared.node.Count.{Count}
use Rattle.csn_desc.specs.declared.node.Count.TheVariants.{Fixed, Counted}

-- it is constant, with the fact
abbrev pub IsFixedAt : (ℕ → Type 0) → Count → Type 0
IsFixedAt P (Fixed n) = P n
IsFixedAt P (Counted m field c) = ⊥

-- it stands on a field
abbrev pub IsCounted : Count → Type 0
IsCounted (Fixed n) = ⊥
IsCounted (Counted m field c) = Unit {0}
