-- What a count tells without its field.
use Rattle.std.specs.Prelude.{◌≡◌}
use Rattle.csn_desc.specs.declared.node.Count.{Count}
use Rattle.csn_desc.specs.declared.node.Count.TheVariants.{Fixed, Counted}

-- it stands on a field, and is 0 where the field is
abbrev pub MayBeNone : Count → Type 0
MayBeNone (Fixed n) = ⊥
MayBeNone (Counted m field c) = c ≡ 0
