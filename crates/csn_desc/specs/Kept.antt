-- Items that have one owner or several: whoever has them, a contract sees the list of them.
use Rattle.std.specs.Prelude.{List}
use Rattle.std.specs.Arc.{arc_value}
use Rattle.csn_desc.specs.declared.kept.Kept.{Kept}
use Rattle.csn_desc.specs.declared.kept.Kept.TheVariants.{Own, Shared}

abbrev pub items_in : {T : Type 0} → Kept T → List T
items_in (Own items) = items.items
items_in (Shared items) = (arc_value items).items
