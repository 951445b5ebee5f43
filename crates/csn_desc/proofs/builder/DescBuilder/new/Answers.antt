-- A new builder has no nodes.
use Rattle.std.proofs.Common.{ℕ, List, [], refl, sym, subst, reverse, lit≤, inl}
use Rattle.csn_desc.specs.declared.node.Node.{Node}
use Rattle.csn_desc.specs.Laid.{laid_end}
use Rattle.csn_desc.specs.Standing.{Stands, chain_out}
use Rattle.csn_desc.proofs.builder.DescBuilder.new.Goals as goal

none_stand : Stands [] []
none_stand = record { few = lit≤ tt; parts = []; seen = []; chain = chain_out (laid_end refl) refl; are_parts = inl (refl, refl) }

pub invariant_of-result : goal.invariant_of-result
invariant_of-result c =
    let P : List Node → Type 0 = λ nodes. Stands nodes [] in
    let Q : List ℕ → Type 0 = λ around. Stands c.new.result.items (reverse around) in
    subst Q (sym c.new-2.ensures) (subst P (sym c.new.ensures.items) none_stand)
